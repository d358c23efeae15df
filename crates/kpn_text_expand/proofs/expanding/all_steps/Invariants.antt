-- The tokens that remain, taken from here, lead to the same as all of them.
use Rattle.kpn_text_expand.proofs.Common.{◌≡◌, drop, steps}
use Rattle.kpn_text_expand.specs.Expanding as spec
use Rattle.kpn_text_expand.proofs.expanding.all_steps.Given as goal

abbrev pub invariant-loop-lexeme : goal.invariant-loop-lexeme
invariant-loop-lexeme l = steps l.constants (drop l.lexeme-index l.tokens) ≡ spec.all_steps l.tokens
