-- The tokens so far have gone by.
use Rattle.kpn_text_expand.proofs.Common.{◌≡◌, take, fold}
use Rattle.kpn_text_expand.specs.Cells.{at_first, step}
use Rattle.kpn_text_expand.proofs.cells.with_cells.Given as goal

abbrev pub invariant-loop-lexeme : goal.invariant-loop-lexeme
invariant-loop-lexeme l = l.cells ≡ fold step (at_first l.tokens) (take l.lexeme-index l.tokens)
