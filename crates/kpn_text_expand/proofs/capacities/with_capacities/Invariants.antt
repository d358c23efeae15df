-- The tokens so far have gone by.
use Rattle.kpn_text_expand.proofs.Common.{◌≡◌, take, fold}
use Rattle.kpn_text_expand.specs.Capacities.{at_first, step}
use Rattle.kpn_text_expand.proofs.capacities.with_capacities.Given as goal

abbrev pub invariant-loop-lexeme : goal.invariant-loop-lexeme
invariant-loop-lexeme l = l.capacities ≡ fold step at_first (take l.lexeme-index l.tokens)
