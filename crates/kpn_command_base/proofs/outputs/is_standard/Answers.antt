-- One of the three names leads to the file.
use Rattle.kpn_command_base.proofs.Common.{IfOk-weaker, inl, inr}
use Rattle.kpn_command_base.proofs.outputs.is_standard.Goals as goal

pub returns-then-branch : goal.returns-then-branch
returns-then-branch g c = λ _. inl (c.in_ok-is_same_file.ensures c.if-branch.true)

pub returns-then-branch-2 : goal.returns-then-branch-2
returns-then-branch-2 g c = λ _. inr (inl (c.in_ok-is_same_file-2.ensures c.if-branch-2.true))

pub returns : goal.returns
returns g c = IfOk-weaker c.is_same_file-3.result _ _ (λ is h may. inr (inr (h may))) c.is_same_file-3.ensures
