-- The tokens of a text without their places.
use Rattle.kpn_text_tokens.proofs.Common.{◌≡◌, ℕ, zero, suc, ◌+◌, ◌-◌, ◌<◌, ◌≤◌, ◌||◌, ◌^◌, List, [], ◌∷◌, length, Option, Some, None, Result, Ok, Err, nat_le, refl, sym, ap, ◌∙◌, subst, arith, is_ascii_digit, IsInRange, AllByRecursion, list_all, AllDigits, digits_value, and_from, and_parts, le-leb, or_right, map-append, digit_from_value, LexFault, Piece, Language, MAX_NUMBER, Lexeme, Token, begins_name, is_in, after, cons_lexeme, piece_of, scan, AllIn, IsNumeralOf, Reads, done, white, comment, spelled, nothing, bad_number, long_name, quoted, bad_quoted}
use Rattle.std.specs.Fmt.{decimal}
use Rattle.std.proofs.lemmas.Fmt.{decimal_is_IsNumeral, length-decimal-le}
use Rattle.kpn_text_tokens.specs.declared.lexer.Class.TheVariants as class
use Rattle.kpn_text_tokens.specs.declared.lexer.Piece.TheVariants as piece
use Rattle.kpn_text_tokens.specs.declared.tokens.Language.TheVariants as language
use Rattle.kpn_text_tokens.specs.declared.tokens.Token.TheVariants as token
use Rattle.kpn_text_tokens.specs.Laws.{DecimalIsSpelled, EmptyTextHasNoTokens, HasSpelling, ReadTokensAreSpelled, SpelledTokenIsRead, TokensKeepTheirKind, WhiteSpaceIsDropped, WhiteSpaceSeparatesTokens, append_tokens, cons_token, followed_by, tokens_in, tokens_of}
use Rattle.kpn_text_tokens.proofs.Follows.{scan_rules}
use Rattle.kpn_text_tokens.proofs.NumeralLaws.{decimal_numeral, is_quoted}
use Rattle.kpn_text_tokens.proofs.Parting.{white_space_separates}
use Rattle.kpn_text_tokens.proofs.TokenLaws.{scan_spelled, scan_white}

tokens_in-cons : (l : Lexeme) (r : Result (List Lexeme) LexFault)
    → tokens_in (cons_lexeme l r) ≡ cons_token l.token (tokens_in r)
tokens_in-cons l (Ok ls) = refl
tokens_in-cons l (Err fault) = refl

tokens_in-followed_by : (r x : Result (List Lexeme) LexFault)
    → tokens_in (followed_by r x) ≡ append_tokens (tokens_in r) (tokens_in x)
tokens_in-followed_by (Ok front) (Ok ls) = ap (λ ts. Some ts) (map-append (λ l. l.token) front ls)
tokens_in-followed_by (Ok front) (Err fault) = refl
tokens_in-followed_by (Err fault) x = refl

-- a piece has the same tokens at each place
after_kind : (p : Piece) (i j : ℕ) (f g : ℕ → Result (List Lexeme) LexFault)
    → ((k : ℕ) → tokens_in (f k) ≡ tokens_in (g k)) → tokens_in (after p i f) ≡ tokens_in (after p j g)
after_kind (piece.Gap n) i j f g same = same (n - 1)
after_kind (piece.Token t n) i j f g same =
    tokens_in-cons (record { token = t; start = i }) (f (n - 1)) ∙ ap (λ ts. cons_token t ts) (same (n - 1))
    ∙ sym (tokens_in-cons (record { token = t; start = j }) (g (n - 1)))
after_kind piece.NoToken i j f g same = refl
after_kind piece.LongName i j f g same = refl

-- and so does a scan
scan_kind : (l : Language) (k i j : ℕ) (bs : List ℕ) → tokens_in (scan l k i bs) ≡ tokens_in (scan l k j bs)
scan_kind l k i j [] = refl
scan_kind l (suc k) i j (b ∷ bs) = scan_kind l k (suc i) (suc j) bs
scan_kind l zero i j (b ∷ bs) =
    after_kind (piece_of l b (b ∷ bs)) i j (λ k. scan l k (suc i) bs) (λ k. scan l k (suc j) bs)
    (λ k. scan_kind l k (suc i) (suc j) bs)

pub tokens_keep : TokensKeepTheirKind
unfolding tokens_of
tokens_keep l place text = scan_kind l 0 place 0 text

pub spelled_token : SpelledTokenIsRead
unfolding tokens_of
spelled_token l t bytes rest is ends =
    let first : Lexeme = record { token = t; start = 0 } in
    ap tokens_in (scan_spelled l 0 t bytes rest is ends) ∙ tokens_in-cons first (scan l 0 (0 + length bytes) rest)
    ∙ ap (λ ts. cons_token t ts) (scan_kind l 0 (0 + length bytes) 0 rest)

pub empty_text : EmptyTextHasNoTokens
unfolding tokens_of
empty_text l = refl

pub white_dropped : WhiteSpaceIsDropped
unfolding tokens_of
white_dropped l w rest e = ap tokens_in (scan_white l 0 w rest e) ∙ scan_kind l 0 (0 + 1) 0 rest

pub white_separates : WhiteSpaceSeparatesTokens
unfolding tokens_of
white_separates l w before rest parts =
    ap tokens_in (white_space_separates l 0 w before rest parts)
    ∙ tokens_in-followed_by (scan l 0 0 before) (scan l 0 (0 + length before + 1) rest)
    ∙ ap (λ ts. append_tokens (tokens_in (scan l 0 0 before)) ts) (scan_kind l 0 (0 + length before + 1) 0 rest)

-- digits by their value are digits by their range
all_digits : (ds : List ℕ) → AllDigits 10 ds → AllIn class.Digit ds
all_digits [] digits = refl
all_digits (d ∷ ds) digits =
    let range : IsInRange 48 57 d = digit_from_value d digits.0 in
    and_from (is_ascii_digit d) (list_all is_ascii_digit ds)
    (and_from (nat_le 48 d) (nat_le d 57) (le-leb 48 d range.0) (le-leb d 57 range.1)) (all_digits ds digits.1)

digits_are_words : (ds : List ℕ) → AllIn class.Digit ds → AllIn class.Word ds
digits_are_words [] all = refl
digits_are_words (d ∷ ds) all =
    let parts = and_parts (is_ascii_digit d) (list_all is_ascii_digit ds) all in
    and_from (begins_name d || is_ascii_digit d) (list_all (is_in class.Word) ds)
    (or_right (begins_name d) (is_ascii_digit d) parts.0) (digits_are_words ds parts.1)

-- decimal digits in language 2
digits_spelled : (n : ℕ) (ds : List ℕ) → AllDigits 10 ds → 0 < length ds → digits_value 10 ds ≡ n → n ≤ MAX_NUMBER
    → IsNumeralOf n ds
digits_spelled n [] digits some value small = absurd (omega arith)
digits_spelled n (d ∷ ds) digits some value small =
    let all = all_digits (d ∷ ds) digits in
    record {
      begins = (and_parts (is_ascii_digit d) (list_all is_ascii_digit ds) all).0;
      goes_on = digits_are_words (d ∷ ds) all;
      has_value = decimal_numeral d ds digits (subst (λ m. m ≤ MAX_NUMBER) (sym value) small) ∙ ap (λ m. Some m) value;
    }

pub decimal_spelled : DecimalIsSpelled
decimal_spelled language.Two n small =
    let fits : n < 2 ^ 64 = omega arith in
    let numeral = decimal_is_IsNumeral n fits in
    digits_spelled n (decimal n) numeral.0.1 numeral.0.0 numeral.1 (omega arith)
decimal_spelled language.One n small =
    let fits : n < 2 ^ 64 = omega arith in
    let numeral = decimal_is_IsNumeral n fits in
    record {
      digits = all_digits (decimal n) numeral.0.1;
      some = numeral.0.0;
      few = length-decimal-le 19 n (omega arith) (omega arith) fits;
      has_value = numeral.1;
      small = omega arith;
    }

-- what was read has a spelling
abbrev Spelled : Language → Option (List Token) → Type 0
Spelled l (Some ts) = AllByRecursion (HasSpelling l) ts
Spelled l None = Unit {0}

cons_spelled : (l : Language) (t : Token) (ts : Option (List Token)) → HasSpelling l t → Spelled l ts
    → Spelled l (cons_token t ts)
cons_spelled l t (Some ts) is all = (is, all)
cons_spelled l t None is all = tt

reads_spelled : {l : Language} {place : ℕ} {text : List ℕ} {r : Result (List Lexeme) LexFault} → Reads l place text r
    → Spelled l (tokens_in r)
reads_spelled done = tt
reads_spelled (white e tail) = reads_spelled tail
reads_spelled (comment said rest all stops tail) = reads_spelled tail
reads_spelled {l} {place} (spelled t bytes rest {r} is ends tail) =
    rw (tokens_in-cons (record { token = t; start = place }) r)
    (cons_spelled l t (tokens_in r) (bytes, is) (reads_spelled tail))
reads_spelled (nothing none) = tt
reads_spelled (bad_number digits rest all first stops bad) = tt
reads_spelled {l} {place} (quoted {b} {bs} value {r} e is tail) =
    rw (tokens_in-cons (record { token = token.Number value; start = place }) r)
    (cons_spelled l (token.Number value) (tokens_in r)
    (decimal value, decimal_spelled l value (is_quoted (b ∷ bs) value is).small) (reads_spelled tail))
reads_spelled (bad_quoted e is) = tt
reads_spelled (long_name word rest is stops long) = tt

pub read_spelled : ReadTokensAreSpelled
unfolding tokens_of
read_spelled l text ts e = rw e at (reads_spelled (scan_rules l 0 text))
