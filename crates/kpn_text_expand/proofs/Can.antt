-- Tokens that can be spelled.
use Rattle.kpn_text_expand.proofs.Common.{◌≡◌, ℕ, ◌<◌, ◌^◌, true, List, [], ◌∷◌, ◌++◌, codes, refl, arith, AllByRecursion, Lexeme, Mark, Token, HasSpelling, has_mark, mark_bytes, kinds}
use Rattle.std.specs.Fmt.{decimal}
use Rattle.kpn_text_tokens.specs.declared.tokens.Keyword.TheVariants as keyword
use Rattle.kpn_text_tokens.specs.declared.tokens.Language.TheVariants as language
use Rattle.kpn_text_tokens.specs.declared.tokens.Mark.TheVariants as mark
use Rattle.kpn_text_tokens.specs.declared.tokens.Token.TheVariants as token
use Rattle.kpn_text_tokens.proofs.WithoutPlaces.{decimal_spelled}

abbrev pub CanBe : Token → Type 0
CanBe = HasSpelling language.Two

abbrev pub Spelled : List Lexeme → Type 0
Spelled ls = AllByRecursion CanBe (kinds ls)

pub both_spelled : (ls ms : List Lexeme) → Spelled ls → Spelled ms → Spelled (ls ++ ms)
both_spelled [] ms first second = second
both_spelled (l ∷ ls) ms first second = (first.0, both_spelled ls ms first.1 second)

pub number_can : (n : ℕ) → n < 2 ^ 63 → CanBe (token.Number n)
number_can n small = (decimal n, decimal_spelled language.Two n small)

pub nothing_can : CanBe (token.Number 0)
nothing_can = number_can 0 (omega arith)

has_all : (m : Mark) → has_mark language.Two m ≡ true
has_all mark.LeftBracket = refl
has_all mark.RightBracket = refl
has_all mark.Question = refl
has_all mark.Colon = refl
has_all mark.BitNot = refl
has_all mark.BitAnd = refl
has_all mark.BitOr = refl
has_all mark.BitXor = refl
has_all mark.ShiftLeft = refl
has_all mark.ShiftRight = refl
has_all mark.Range = refl
has_all _ = refl

pub mark_can : (m : Mark) → CanBe (token.Mark m)
mark_can m = (mark_bytes m, (has_all m, refl))

pub cap_can : CanBe (token.Keyword keyword.Cap)
cap_can = (codes "cap", (refl, refl))

pub for_can : CanBe (token.Keyword keyword.For)
for_can = (codes "for", (refl, refl))
