-- Which language a text is of: its first token, and what the first bytes tell.
use Rattle.std.proofs.Common.{◌≡◌, ℕ, zero, suc, ◌-◌, ◌<◌, ◌≤◌, List, [], ◌∷◌, ◌++◌, length, drop, codes, refl, sym, ap, ◌∙◌, arith}
use Rattle.kpn_text_tokens.specs.declared.lexer.Piece.{Piece}
use Rattle.kpn_text_tokens.specs.declared.lexer.Piece.TheVariants as piece
use Rattle.kpn_text_tokens.specs.declared.tokens.Language.TheVariants as language
use Rattle.kpn_text_tokens.specs.Lexing.{piece_of}
use Rattle.kpn_text_tokens.specs.Opening.{first_of, first_token, language_of}
use Rattle.kpn_text_tokens.specs.Spelling.{keyword_of, mark_at}
use Rattle.kpn_text_tokens.proofs.Scanning.{BeginsWith, begins_fits}

-- ---- the first token

-- passing over bytes of the piece before is beginning after them
first_inside : (k : ℕ) (bs : List ℕ) → first_token k bs ≡ first_token 0 (drop k bs)
first_inside zero bs = refl
first_inside (suc k) [] = refl
first_inside (suc k) (b ∷ bs) = first_inside k bs

first_by : (text : List ℕ) (p : Piece) → BeginsWith language.One text p
    → first_token 0 text ≡ first_of p (drop 1 text) (λ inside. first_token inside (drop 1 text))
first_by [] p begins = absurd (omega (arith, begins.some))
first_by (b ∷ bs) p begins = ap (λ (p : Piece). first_of p bs (λ inside. first_token inside bs)) (sym begins.is)

rest_first : (n : ℕ) (text : List ℕ) → 0 < length text → 1 ≤ n
    → first_token (n - 1) (drop 1 text) ≡ first_token 0 (drop n text)
rest_first n [] nonempty some = absurd (omega arith)
rest_first zero (b ∷ bs) nonempty some = absurd (omega arith)
rest_first (suc n) (b ∷ bs) nonempty some = ap (λ k. first_token k bs) (omega arith) ∙ first_inside n bs

-- behind white space or a comment the first token is the same
pub first_gap : (text : List ℕ) (n : ℕ) → BeginsWith language.One text (piece.Gap n)
    → first_token 0 (drop n text) ≡ first_token 0 text
first_gap text n begins =
    let fits = begins_fits language.One text (piece.Gap n) begins in
    sym (first_by text (piece.Gap n) begins ∙ rest_first n text begins.some fits.0)

-- ---- what the first bytes tell

pub two_told : (rest : List ℕ) → language_of (codes "language 2;" ++ rest) ≡ language.Two
unfolding language_of piece_of keyword_of mark_at
two_told rest = refl

pub process_told : (rest : List ℕ) → language_of (codes "process " ++ rest) ≡ language.One
unfolding language_of piece_of keyword_of mark_at
process_told rest = refl

pub network_told : (rest : List ℕ) → language_of (codes "network " ++ rest) ≡ language.One
unfolding language_of piece_of keyword_of mark_at
network_told rest = refl
