-- The tokens so far have gone by.
use Rattle.kpn_text_expand.proofs.Common.{◌≡◌, take, fold}
use Rattle.kpn_text_expand.specs.Sums.{at_first, step}
use Rattle.kpn_text_expand.proofs.sums.with_sums.Given as goal

abbrev pub invariant-loop-lexeme : goal.invariant-loop-lexeme
invariant-loop-lexeme l = l.sums ≡ fold step at_first (take l.lexeme-index l.tokens)
