-- How a scan goes on: past the first piece, and from what was found before.
use Rattle.kpn_text_tokens.proofs.Common.{◌≡◌, ℕ, zero, suc, ◌+◌, ◌-◌, ◌<◌, ◌≤◌, List, [], ◌∷◌, ◌++◌, length, get_or, drop, Result, Ok, Err, sym, refl, ap, ◌∙◌, subst, append_assoc, arith, LexFault, Piece, Language, Lexeme, Token, TakesWithin, after, cons_lexeme, piece_of, scan}
use Rattle.kpn_text_tokens.specs.declared.lexer.LexFault.TheVariants as fault
use Rattle.kpn_text_tokens.specs.declared.lexer.Piece.TheVariants as piece
use Rattle.kpn_text_tokens.proofs.Pieces.{piece_fits}

-- the lexemes found before, and those that follow
abbrev pub with_front : List Lexeme → Result (List Lexeme) LexFault → Result (List Lexeme) LexFault
with_front front (Ok ls) = Ok (front ++ ls)
with_front front (Err fault) = Err fault

pub with_front-cons : (front : List Lexeme) (l : Lexeme) (r : Result (List Lexeme) LexFault)
    → with_front front (cons_lexeme l r) ≡ with_front (front ++ l ∷ []) r
with_front-cons front l (Ok ls) = ap (λ all. Ok all) (sym (append_assoc front (l ∷ []) ls))
with_front-cons front l (Err fault) = refl

-- passing over bytes of the piece before is beginning after them
pub scan_inside : (l : Language) (k place : ℕ) (bs : List ℕ) → scan l k place bs ≡ scan l 0 (k + place) (drop k bs)
scan_inside l zero place bs = ap (λ p. scan l 0 p bs) (omega arith)
scan_inside l (suc k) place [] = refl
scan_inside l (suc k) place (b ∷ bs) = scan_inside l k (suc place) bs ∙ ap (λ p. scan l 0 p (drop k bs)) (omega arith)

-- what follows a piece of n bytes
follows : (l : Language) (n place b : ℕ) (bs : List ℕ) → 1 ≤ n
    → scan l (n - 1) (suc place) bs ≡ scan l 0 (place + n) (drop n (b ∷ bs))
follows l zero place b bs some = absurd (omega arith)
follows l (suc n) place b bs some = ap (λ k. scan l k (suc place) bs) (omega arith) ∙ scan_inside l n (suc place) bs
    ∙ ap (λ p. scan l 0 p (drop n bs)) (omega arith)

-- in a language a text begins with the piece p
pub record BeginsWith (l : Language) (text : List ℕ) (p : Piece) : Type 0 where
  pub some : 0 < length text
  pub is : p ≡ piece_of l (get_or text 0 0) text

pub begins_fits : (l : Language) (text : List ℕ) (p : Piece) → BeginsWith l text p → TakesWithin p (length text)
begins_fits l [] p begins = absurd (omega (arith, begins.some))
begins_fits l (b ∷ bs) p begins =
    subst (λ (p : Piece). TakesWithin p (suc (length bs))) (sym begins.is) (piece_fits l b bs)

begins_scan : (l : Language) (text : List ℕ) (p : Piece) (place : ℕ) → BeginsWith l text p
    → scan l 0 place text ≡ after p place (λ inside. scan l inside (suc place) (drop 1 text))
begins_scan l [] p place begins = absurd (omega (arith, begins.some))
begins_scan l (b ∷ bs) p place begins = ap (λ (p : Piece). after p place (λ inside. scan l inside (suc place) bs))
    (sym begins.is)

rest_follows : (l : Language) (n place : ℕ) (text : List ℕ) → 0 < length text → 1 ≤ n
    → scan l (n - 1) (suc place) (drop 1 text) ≡ scan l 0 (place + n) (drop n text)
rest_follows l n place [] nonempty some = absurd (omega arith)
rest_follows l n place (b ∷ bs) nonempty some = follows l n place b bs some

pub scan_gap : (l : Language) (text : List ℕ) (place n : ℕ) → BeginsWith l text (piece.Gap n)
    → scan l 0 place text ≡ scan l 0 (place + n) (drop n text)
scan_gap l text place n begins =
    begins_scan l text (piece.Gap n) place begins ∙ rest_follows l n place text begins.some
    (begins_fits l text (piece.Gap n) begins).0

pub scan_token : (l : Language) (text : List ℕ) (place n : ℕ) (t : Token) → BeginsWith l text (piece.Token t n)
    → scan l 0 place text ≡ cons_lexeme (record { token = t; start = place }) (scan l 0 (place + n) (drop n text))
scan_token l text place n t begins =
    begins_scan l text (piece.Token t n) place begins ∙ ap (λ r. cons_lexeme (record { token = t; start = place }) r)
    (rest_follows l n place text begins.some (begins_fits l text (piece.Token t n) begins).0)

pub scan_none : (l : Language) (text : List ℕ) (place : ℕ) → BeginsWith l text piece.NoToken
    → scan l 0 place text ≡ Err (fault.Token place)
scan_none l text place begins = begins_scan l text piece.NoToken place begins

pub scan_long : (l : Language) (text : List ℕ) (place : ℕ) → BeginsWith l text piece.LongName
    → scan l 0 place text ≡ Err (fault.TooLong place)
scan_long l text place begins = begins_scan l text piece.LongName place begins

-- A turn passes over n bytes of the rest, and leaves what was found and what follows, taken together, as they were.
pub record Advances (l : Language) (place : ℕ) (rest : List ℕ) (before : List Lexeme) (n : ℕ)
    (found : List Lexeme) : Type 0 where
  pub some : 1 ≤ n
  pub within : n ≤ length rest
  pub whole : with_front found (scan l 0 (place + n) (drop n rest)) ≡ with_front before (scan l 0 place rest)

pub gap_advances : (l : Language) (place n : ℕ) (rest : List ℕ) (before : List Lexeme) → BeginsWith l rest (piece.Gap n)
    → Advances l place rest before n before
gap_advances l place n rest before begins = let fits = begins_fits l rest (piece.Gap n) begins in record {
  some = fits.0;
  within = fits.1;
  whole = ap (λ r. with_front before r) (sym (scan_gap l rest place n begins));
}

pub token_advances : (l : Language) (place n : ℕ) (rest : List ℕ) (before : List Lexeme) (t : Token)
    → BeginsWith l rest (piece.Token t n) → Advances l place rest before n
    (before ++ record { token = t; start = place } ∷ [])
token_advances l place n rest before t begins = let fits = begins_fits l rest (piece.Token t n) begins in record {
  some = fits.0;
  within = fits.1;
  whole = sym (with_front-cons before (record { token = t; start = place }) (scan l 0 (place + n) (drop n rest)))
      ∙ ap (λ r. with_front before r) (sym (scan_token l rest place n t begins));
}
