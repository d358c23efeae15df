-- The tokens that remain, taken from here, lead to the same as all of them.
use Rattle.kpn_text_expand.proofs.Common.{◌≡◌, drop, nameless, with_nameless, each}
use Rattle.kpn_text_expand.proofs.declaration.nameless.Given as goal

abbrev pub invariant-loop-lexeme : goal.invariant-loop-lexeme
invariant-loop-lexeme l = each with_nameless l.left (drop l.lexeme-index l.tokens) ≡ nameless l.tokens
