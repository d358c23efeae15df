-- The tokens so far have been added.
use Rattle.std.proofs.Common.{◌≡◌, ◌++◌, take}
use Rattle.kpn_text_expand.proofs.sums.add_all.Given as goal

abbrev pub invariant-loop-lexeme : goal.invariant-loop-lexeme
invariant-loop-lexeme l = l.tokens ≡ l.fn.tokens ++ take l.lexeme-index l.more
