-- What is written so far and the digits that are still to come are the whole.
use Rattle.kpn_command_explain.proofs.Common.{◌≡◌, ◌++◌, drop, with_commas}
use Rattle.kpn_command_explain.proofs.cut.with_commas.Given as goal

abbrev pub invariant-loop-k : goal.invariant-loop-k
invariant-loop-k l = l.text.items ++ with_commas (drop l.k l.digits) ≡ with_commas l.digits
