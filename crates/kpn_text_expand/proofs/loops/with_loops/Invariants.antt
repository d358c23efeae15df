-- The tokens so far have gone by.
use Rattle.kpn_text_expand.proofs.Common.{◌≡◌, take, fold}
use Rattle.kpn_text_expand.specs.Loops.{at_first, step}
use Rattle.kpn_text_expand.proofs.loops.with_loops.Given as goal

abbrev pub invariant-loop-lexeme : goal.invariant-loop-lexeme
invariant-loop-lexeme l = l.loops ≡ fold step (at_first l.tokens) (take l.lexeme-index l.tokens)
