-- The names so far have been looked at.
use Rattle.kpn_text_expand.proofs.Common.{◌≡◌, take, fold}
use Rattle.kpn_text_expand.specs.Hidden.{more_taken, too_short}
use Rattle.kpn_text_expand.proofs.hidden.most_taken.Given as goal

abbrev pub invariant-loop-lexeme : goal.invariant-loop-lexeme
invariant-loop-lexeme l = l.most ≡ fold (more_taken l.hidden) (too_short l.hidden) (take l.lexeme-index l.tokens)
