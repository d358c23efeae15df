-- The laws of the tokens.
use Rattle.kpn_text_tokens.proofs.Common.{◌≡◌, ◌⊎◌, ⊎_elim, ℕ, ◌+◌, ◌<◌, ◌≤◌, true, false, ◌&&◌, List, [], ◌∷◌, ◌++◌, length, get_or, Option, Some, None, Result, nat_le, nat_lt, refl, sym, ap, ◌∙◌, subst, arith, length-append, is_ascii_digit, list_all, ◌==◌, slice_index, digits_value, and_from, and_left, and_parts, and_right, cond-true, cond-false, eqb-true, le-leb, le-ltb, lt-leb, lt-ltb, nat_tests, drop_at, MAX_DIGITS, MAX_NAME_BYTES, MAX_TEXT_BYTES, MAX_NUMBER, LexFault, Keyword, Language, Lexeme, Mark, Token, ShortTextIsScanned, AllIn, Stops, IsWord, IsName, IsSpelled, EndsBefore, MarkEnds, IsNumber, IsBadNumber, BeginsNothing, Reads, done, white, comment, spelled, nothing, bad_number, long_name, quoted, bad_quoted, begins_quote, quoted_length, quoted_value, is_two, has_keyword, has_mark, keyword_of, keyword_bytes, mark_bytes}
use Rattle.kpn_text_tokens.specs.declared.lexer.Class.TheVariants as class
use Rattle.kpn_text_tokens.specs.declared.lexer.Piece.TheVariants as piece
use Rattle.kpn_text_tokens.specs.declared.tokens.Language.TheVariants as language
use Rattle.kpn_text_tokens.specs.declared.tokens.Token.TheVariants as token
use Rattle.kpn_text_tokens.specs.Lexing.{is_white_space, begins_name, run, word_token, word_piece, numbered, number_class, numeral_piece, marked, piece_of, cons_lexeme, scan}
use Rattle.kpn_text_tokens.proofs.Pieces.{mark_nonempty}
use Rattle.kpn_text_tokens.proofs.Runs.{run_front}
use Rattle.kpn_text_tokens.proofs.Scanning.{BeginsWith, scan_gap, scan_token, scan_none, scan_long}
use Rattle.kpn_text_tokens.proofs.Tables.{keyword_is_word, keyword_is_short, keyword_is_found, mark_is_reached, mark_is_found, no_mark_stands}

-- what begins a word begins neither white space nor a comment
word_byte : (b : ℕ) → begins_name b ≡ true → (is_white_space b ≡ false) × ((b == 35) ≡ false)
word_byte b e = (grind (arith, nat_tests), grind (arith, nat_tests))

-- a digit begins none of them, and no word
digit_byte : (b : ℕ) → is_ascii_digit b ≡ true → (is_white_space b ≡ false) × ((b == 35) ≡ false)
    × (begins_name b ≡ false)
digit_byte b e = (grind (arith, nat_tests), grind (arith, nat_tests), grind (arith, nat_tests))

-- where a word begins
pub word_reached : (l : Language) (b : ℕ) (text : List ℕ) → begins_name b ≡ true
    → piece_of l b text ≡ word_piece l (run class.Word text)
unfolding piece_of
word_reached l b text e =
    let no = word_byte b e in
    cond-false (is_white_space b) _ _ no.0 ∙ cond-false (b == 35) _ _ no.1 ∙ cond-true (begins_name b) _ _ e

-- where a number begins
number_reached : (l : Language) (b : ℕ) (text : List ℕ) → is_ascii_digit b ≡ true
    → piece_of l b text ≡ numeral_piece l (run (number_class l) text)
unfolding piece_of
number_reached l b text e =
    let no = digit_byte b e in
    cond-false (is_white_space b) _ _ no.0 ∙ cond-false (b == 35) _ _ no.1 ∙ cond-false (begins_name b) _ _ no.2
    ∙ cond-true (is_ascii_digit b) _ _ e

-- a word is the run at the front
word_run : (l : Language) (word rest : List ℕ) → IsWord word → Stops class.Word rest
    → piece_of l (get_or (word ++ rest) 0 0) (word ++ rest) ≡ word_piece l word
word_run l [] rest is stops = absurd (let no = is.begins in cc)
word_run l (b ∷ bs) rest is stops =
    word_reached l b ((b ∷ bs) ++ rest) is.begins
    ∙ ap (word_piece l) (run_front class.Word (b ∷ bs) rest is.goes_on stops)

short_word : (l : Language) (word : List ℕ) → length word ≤ MAX_NAME_BYTES
    → word_piece l word ≡ piece.Token (word_token (keyword_of l word) word) (length word)
short_word l word short =
    cond-false (nat_lt MAX_NAME_BYTES (length word)) _ _ (le-ltb MAX_NAME_BYTES (length word) short)

-- the piece that a name is
name_piece : (l : Language) (name rest : List ℕ) → IsName l name → Stops class.Word rest
    → piece_of l (get_or (name ++ rest) 0 0) (name ++ rest) ≡ piece.Token (token.Name name) (length name)
name_piece l name rest is stops =
    word_run l name rest is.word stops ∙ short_word l name is.short
    ∙ ap (λ k. piece.Token (word_token k name) (length name)) is.free

-- the piece that a reserved word is
keyword_piece : (l : Language) (k : Keyword) (rest : List ℕ) → has_keyword l k ≡ true → Stops class.Word rest
    → piece_of l (get_or (keyword_bytes k ++ rest) 0 0) (keyword_bytes k ++ rest) ≡ piece.Token (token.Keyword k)
    (length (keyword_bytes k))
keyword_piece l k rest has stops =
    word_run l (keyword_bytes k) rest (keyword_is_word k) stops ∙ short_word l (keyword_bytes k) (keyword_is_short k)
    ∙ ap (λ found. piece.Token (word_token found (keyword_bytes k)) (length (keyword_bytes k)))
    (keyword_is_found l k has)

-- the bytes of a number are the run at the front
number_run : (l : Language) (digits rest : List ℕ) → AllIn (number_class l) digits
    → is_ascii_digit (slice_index digits 0) ≡ true → Stops (number_class l) rest
    → piece_of l (get_or (digits ++ rest) 0 0) (digits ++ rest) ≡ numeral_piece l digits
number_run l [] rest all first stops = absurd (cc)
number_run l (b ∷ bs) rest all first stops =
    number_reached l b ((b ∷ bs) ++ rest) first
    ∙ ap (numeral_piece l) (run_front (number_class l) (b ∷ bs) rest all stops)

first_digit : (digits : List ℕ) → AllIn class.Digit digits → 0 < length digits
    → is_ascii_digit (slice_index digits 0) ≡ true
first_digit [] all some = absurd (omega arith)
first_digit (b ∷ bs) all some = (and_parts (is_ascii_digit b) (list_all is_ascii_digit bs) all).0

-- the piece that a number is
digits_piece : (l : Language) (value : ℕ) (digits rest : List ℕ) → IsNumber l value digits
    → Stops (number_class l) rest
    → piece_of l (get_or (digits ++ rest) 0 0) (digits ++ rest) ≡ piece.Token (token.Number value) (length digits)
digits_piece language.Two value word rest is stops =
    number_run language.Two word rest is.goes_on is.begins stops ∙ ap (λ v. numbered v (length word)) is.has_value
digits_piece language.One value digits rest is stops =
    let test = nat_le (length digits) MAX_DIGITS && nat_le (digits_value 10 digits) MAX_NUMBER in
    let small : digits_value 10 digits ≤ MAX_NUMBER = rw is.has_value is.small in
    let fits : test ≡ true = and_from (nat_le (length digits) MAX_DIGITS) (nat_le (digits_value 10 digits) MAX_NUMBER)
    (le-leb (length digits) MAX_DIGITS is.few) (le-leb (digits_value 10 digits) MAX_NUMBER small) in
    number_run language.One digits rest is.digits (first_digit digits is.digits is.some) stops ∙ cond-true test _ _ fits
    ∙ ap (λ v. piece.Token (token.Number v) (length digits)) is.has_value

-- the piece that a mark is
mark_piece_is : (l : Language) (m : Mark) (rest : List ℕ) → has_mark l m ≡ true → MarkEnds l m rest
    → piece_of l (get_or (mark_bytes m ++ rest) 0 0) (mark_bytes m ++ rest) ≡ piece.Token (token.Mark m)
    (length (mark_bytes m))
mark_piece_is l m rest has ends = mark_is_reached l m rest ∙ ap marked (mark_is_found l m rest has ends)

number_nonempty : (l : Language) (value : ℕ) (bytes : List ℕ) → IsNumber l value bytes → 0 < length bytes
number_nonempty language.One value bytes is = is.some
number_nonempty language.Two value [] is = absurd (let no = is.begins in cc)
number_nonempty language.Two value (b ∷ bs) is = omega arith

-- a name has a byte
name_nonempty : (name : List ℕ) → IsWord name → 0 < length name
name_nonempty [] is = absurd (let no = is.begins in cc)
name_nonempty (b ∷ bs) is = omega arith

front_nonempty : (front rest : List ℕ) → 0 < length front → 0 < length (front ++ rest)
front_nonempty front rest some = omega (arith, length-append front rest)

-- a spelled token is the piece at the front
pub spelled_begins : (l : Language) (t : Token) (bytes rest : List ℕ) → IsSpelled l t bytes → EndsBefore l t rest
    → BeginsWith l (bytes ++ rest) (piece.Token t (length bytes))
spelled_begins l (token.Name name) bytes rest is ends =
    let P : List ℕ → Type 0 = λ text. BeginsWith l (text ++ rest) (piece.Token (token.Name name) (length text)) in
    subst P (sym is.1) (record {
      some = front_nonempty name rest (name_nonempty name is.0.word);
      is =
          sym (name_piece l name rest is.0 ends);
    })
spelled_begins l (token.Number value) bytes rest is ends =
    record {
      some = front_nonempty bytes rest (number_nonempty l value bytes is);
      is = sym (digits_piece l value bytes rest is ends);
    }
spelled_begins l (token.Mark m) bytes rest is ends =
    let P : List ℕ → Type 0 = λ text. BeginsWith l (text ++ rest) (piece.Token (token.Mark m) (length text)) in
    subst P (sym is.1) (record {
      some = front_nonempty (mark_bytes m) rest (omega (arith, mark_nonempty m));
      is =
          sym (mark_piece_is l m rest is.0 ends);
    })
spelled_begins l (token.Keyword k) bytes rest is ends =
    let P : List ℕ → Type 0 = λ text. BeginsWith l (text ++ rest) (piece.Token (token.Keyword k) (length text)) in
    subst P (sym is.1) (record {
      some = front_nonempty (keyword_bytes k) rest
          (name_nonempty (keyword_bytes k) (keyword_is_word k));
      is = sym (keyword_piece l k rest is.0 ends);
    })

-- a spelled token is read
pub scan_spelled : (l : Language) (place : ℕ) (t : Token) (bytes rest : List ℕ) → IsSpelled l t bytes
    → EndsBefore l t rest → scan l 0 place (bytes ++ rest) ≡ cons_lexeme (record { token = t; start = place })
    (scan l 0 (place + length bytes) rest)
scan_spelled l place t bytes rest is ends =
    scan_token l (bytes ++ rest) place (length bytes) t (spelled_begins l t bytes rest is ends)
    ∙ ap (λ after. cons_lexeme (record { token = t; start = place }) (scan l 0 (place + length bytes) after))
    (drop_at bytes rest (length bytes) refl)

-- a text within the limit is scanned
pub short_text : ShortTextIsScanned
short_text l text short =
    cond-false (nat_lt MAX_TEXT_BYTES (length text)) _ _ (le-ltb MAX_TEXT_BYTES (length text) short)

-- a byte of white space is passed over
white_begins : (l : Language) (b : ℕ) (rest : List ℕ) → is_white_space b ≡ true → BeginsWith l (b ∷ rest) (piece.Gap 1)
unfolding piece_of
white_begins l b rest e = record { some = omega arith; is = sym (cond-true (is_white_space b) _ _ e) }

pub scan_white : (l : Language) (place b : ℕ) (rest : List ℕ) → is_white_space b ≡ true
    → scan l 0 place (b ∷ rest) ≡ scan l 0 (place + 1) rest
scan_white l place b rest e = scan_gap l (b ∷ rest) place 1 (white_begins l b rest e)

-- a comment is passed over
comment_begins : (l : Language) (said rest : List ℕ) → AllIn class.Comment said → Stops class.Comment rest
    → BeginsWith l (35 ∷ said ++ rest) (piece.Gap (length (35 ∷ said)))
unfolding piece_of
comment_begins l said rest all stops =
    let whole : run class.Comment (35 ∷ said ++ rest) ≡ 35
    ∷ said = run_front class.Comment (35 ∷ said) rest all stops in
    record { some = omega arith; is = ap (λ l. piece.Gap (length l)) (sym whole) }

-- where nothing can begin
nothing_begins : (l : Language) (b : ℕ) (bs : List ℕ) → BeginsNothing l b bs → BeginsWith l (b ∷ bs) piece.NoToken
unfolding piece_of
nothing_begins l b bs none = record {
  some = omega arith;
  is = sym (cond-false (is_white_space b) _ _ none.no_space ∙ cond-false (b == 35) _ _ none.no_comment
      ∙ cond-false (begins_name b) _ _ none.no_word ∙ cond-false (is_ascii_digit b) _ _ none.no_number
      ∙ cond-false (begins_quote l b) _ _ none.no_quote ∙ ap marked (no_mark_stands l (b ∷ bs) none.no_mark));
}

-- digits that are too many, or too great a number
bad_number_begins : (l : Language) (digits rest : List ℕ) → AllIn (number_class l) digits
    → is_ascii_digit (slice_index digits 0) ≡ true → Stops (number_class l) rest → IsBadNumber l digits
    → BeginsWith l (digits ++ rest) piece.NoToken
bad_number_begins l [] rest all first stops bad = absurd (cc)
bad_number_begins language.Two (b ∷ bs) rest all first stops bad = record {
  some = omega arith;
  is = sym (number_run language.Two (b ∷ bs) rest all first stops ∙ ap (λ v. numbered v (length (b ∷ bs))) bad);
}
bad_number_begins language.One (b ∷ bs) rest all first stops bad =
    let digits : List ℕ = b ∷ bs in
    let few = nat_le (length digits) MAX_DIGITS in
    let small = nat_le (digits_value 10 digits) MAX_NUMBER in
    let fails : (few && small) ≡ false = ⊎_elim (λ many. and_left few small (lt-leb (length digits) MAX_DIGITS many))
    (λ great. and_right few small (lt-leb (digits_value 10 digits) MAX_NUMBER great)) bad in
    record {
      some = omega arith;
      is = sym (number_run language.One digits rest all first stops ∙ cond-false (few && small) _ _ fails);
    }

-- what begins a quote begins nothing else
quote_byte : (l : Language) (b : ℕ) → begins_quote l b ≡ true
    → (is_white_space b ≡ false) × ((b == 35) ≡ false) × (begins_name b ≡ false) × (is_ascii_digit b ≡ false)
quote_byte l b e =
    let quote : b ≡ 39 = eqb-true b 39 (and_parts (b == 39) (is_two l) e).0 in
    subst (λ c. (is_white_space c ≡ false) × ((c == 35) ≡ false) × (begins_name c ≡ false) × (is_ascii_digit c ≡ false))
    (sym quote) (refl, refl, refl, refl)

-- a quote, whether it has a value or not
quote_begins : (l : Language) (b : ℕ) (bs : List ℕ) (value : Option ℕ) → begins_quote l b ≡ true
    → quoted_value (b ∷ bs) ≡ value → BeginsWith l (b ∷ bs) (numbered value (quoted_length (b ∷ bs)))
unfolding piece_of
quote_begins l b bs value e is = let no = quote_byte l b e in record {
  some = omega arith;
  is = sym (cond-false (is_white_space b) _ _ no.0 ∙ cond-false (b == 35) _ _ no.1
      ∙ cond-false (begins_name b) _ _ no.2 ∙ cond-false (is_ascii_digit b) _ _ no.3
      ∙ cond-true (begins_quote l b) _ _ e ∙ ap (λ v. numbered v (quoted_length (b ∷ bs))) is);
}

-- a name that is too long
long_name_begins : (l : Language) (word rest : List ℕ) → IsWord word → Stops class.Word rest
    → MAX_NAME_BYTES < length word → BeginsWith l (word ++ rest) piece.LongName
long_name_begins l word rest is stops long = record {
  some = front_nonempty word rest (omega arith);
  is = sym (word_run l word rest is stops ∙ cond-true (nat_lt MAX_NAME_BYTES (length word)) _ _
      (lt-ltb MAX_NAME_BYTES (length word) long));
}

-- what the rules say is what a scan returns
pub rules_scan : {l : Language} {place : ℕ} {text : List ℕ} {r : Result (List Lexeme) LexFault} → Reads l place text r
    → scan l 0 place text ≡ r
rules_scan done = refl
rules_scan {l} {place} (white {b} {rest} e more) = scan_white l place b rest e ∙ rules_scan more
rules_scan {l} {place} (comment said rest all stops more) =
    scan_gap l (35 ∷ said ++ rest) place (length (35 ∷ said)) (comment_begins l said rest all stops)
    ∙ ap (λ after. scan l 0 (place + length (35 ∷ said)) after) (drop_at (35 ∷ said) rest (length (35 ∷ said)) refl)
    ∙ rules_scan more
rules_scan {l} {place} (spelled t bytes rest is ends more) =
    scan_spelled l place t bytes rest is ends ∙ ap (λ r. cons_lexeme (record { token = t; start = place }) r)
    (rules_scan more)
rules_scan {l} {place} (nothing {b} {bs} none) = scan_none l (b ∷ bs) place (nothing_begins l b bs none)
rules_scan {l} {place} (bad_number digits rest all first stops bad) =
    scan_none l (digits ++ rest) place (bad_number_begins l digits rest all first stops bad)
rules_scan {l} {place} (quoted {b} {bs} value e is more) =
    scan_token l (b ∷ bs) place (quoted_length (b ∷ bs)) (token.Number value) (quote_begins l b bs (Some value) e is)
    ∙ ap (λ r. cons_lexeme (record { token = token.Number value; start = place }) r) (rules_scan more)
rules_scan {l} {place} (bad_quoted {b} {bs} e is) = scan_none l (b ∷ bs) place (quote_begins l b bs None e is)
rules_scan {l} {place} (long_name word rest is stops long) =
    scan_long l (word ++ rest) place (long_name_begins l word rest is stops long)
