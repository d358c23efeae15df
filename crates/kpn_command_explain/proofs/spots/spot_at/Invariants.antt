-- The remaining tokens give what all give.
use Rattle.std.proofs.Common.{◌≡◌, drop}
use Rattle.kpn_command_explain.specs.Spots as spec
use Rattle.kpn_command_explain.proofs.spots.spot_at.Given as goal

abbrev pub invariant-loop-lexeme : goal.invariant-loop-lexeme
invariant-loop-lexeme l =
    spec.spot_from l.at l.now (drop l.lexeme-index l.tokens) ≡ spec.spot_at l.at l.tokens
