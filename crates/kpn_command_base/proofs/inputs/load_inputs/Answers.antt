-- Without options for sinks no name of a sink is refused.
use Rattle.std.proofs.Common.{ℕ, List, Bor, map}
use Rattle.kpn_command_base.proofs.InputLemmas.{without_sinks}
use Rattle.kpn_command_base.proofs.inputs.load_inputs.Goals as goal

pub returns-in-Err-clause-refused : goal.returns-in-Err-clause-refused
returns-in-Err-clause-refused g c =
    without_sinks (g.S.Shelf.may_give c.args.shelf.now) c.args.file.now
    (map (λ (word : Bor (List ℕ)). word.now) c.args.words.now) c.in-Err.refusal c.in-Err.ensures.refused
