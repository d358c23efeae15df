-- A scan follows the rules: each piece that it takes is what some rule says.
use Rattle.kpn_text_tokens.proofs.Common.{◌≡◌, ℕ, zero, suc, ◌+◌, ◌<◌, ◌≤◌, ⊎_elim, inl, inr, true, false, ◌&&◌, List, [], ◌∷◌, ◌++◌, length, drop, Option, Some, None, Result, Err, nat_le, nat_lt, refl, sym, ap, subst, arith, length-drop, is_ascii_digit, starts_with, ◌==◌, nat_eq, slice_index, digits_value, and_cases, and_parts, cond_both, eqb-true, leb-false, leb-true, ltb-false, ltb-true, or_left, or_right, Decides-eqb, MAX_DIGITS, MAX_NAME_BYTES, MAX_NUMBER, LexFault, Piece, Keyword, Language, Lexeme, Mark, Token, IsWord, IsSpelled, EndsBefore, Reads, done, white, comment, spelled, nothing, bad_number, long_name, quoted, bad_quoted, begins_quote, numeral_value, quoted_length, quoted_value, Class}
use Rattle.std.specs.Str.{bytes_eq}
use Rattle.std.proofs.lemmas.Slice.Eq.{bytes_eq-Decides, starts_is}
use Rattle.kpn_text_tokens.specs.declared.lexer.Class.TheVariants as class
use Rattle.kpn_text_tokens.specs.declared.lexer.LexFault.TheVariants as fault
use Rattle.kpn_text_tokens.specs.declared.lexer.Piece.TheVariants as piece
use Rattle.kpn_text_tokens.specs.declared.tokens.Language.TheVariants as language
use Rattle.kpn_text_tokens.specs.declared.tokens.Token.TheVariants as token
use Rattle.kpn_text_tokens.specs.Lexing.{is_white_space, begins_name, run, word_token, word_piece, number_piece, numbered, is_in, number_class, numeral_piece, marked, piece_of, cons_lexeme, scan}
use Rattle.kpn_text_tokens.specs.Spelling.{has_keyword, keyword_bytes, keyword_of, keywords, mark_at, mark_bytes}
use Rattle.kpn_text_tokens.proofs.Pieces.{find_passes, mark_stands, run-cons}
use Rattle.kpn_text_tokens.proofs.Runs.{IsRunOf, run_is}
use Rattle.kpn_text_tokens.proofs.Scanning.{BeginsWith, begins_fits, scan_gap, scan_token, scan_none, scan_long}
use Rattle.kpn_text_tokens.proofs.Tables.{mark_ends, no_mark_is_found}

-- what the rules make of a text that begins with a piece
abbrev pub IsRule : Language → ℕ → List ℕ → Piece → Type 0
IsRule l place text (piece.Gap n) = (r : Result (List Lexeme) LexFault) → Reads l (place + n) (drop n text) r
    → Reads l place text r
IsRule l place text (piece.Token t n) = (r : Result (List Lexeme) LexFault) → Reads l (place + n) (drop n text) r
    → Reads l place text (cons_lexeme (record { token = t; start = place }) r)
IsRule l place text piece.NoToken = Reads l place text (Err (fault.Token place))
IsRule l place text piece.LongName = Reads l place text (Err (fault.TooLong place))

module _ (l : Language) (place : ℕ) (text : List ℕ) where
  -- the front of a text spells a token
  token_rule : (t : Token) (bytes : List ℕ) → text ≡ bytes ++ drop (length bytes) text → IsSpelled l t bytes
      → EndsBefore l t (drop (length bytes) text) → IsRule l place text (piece.Token t (length bytes))
  token_rule t bytes whole is ends r more =
      let result = cons_lexeme (record { token = t; start = place }) r in
      subst (λ (all : List ℕ). Reads l place all result) (sym whole)
      (spelled t bytes (drop (length bytes) text) is ends more)

  -- a word is a reserved word or a name
  word_rule : (word : List ℕ) → IsRunOf class.Word text word → IsWord word → length word ≤ MAX_NAME_BYTES
      → (found : Option Keyword) → keyword_of l word ≡ found
      → IsRule l place text (piece.Token (word_token found word) (length word))
  unfolding keyword_of
  word_rule word front is short (Some k) found =
      let passes = and_parts (bytes_eq (keyword_bytes k) word) (has_keyword l k)
      (find_passes (λ k. bytes_eq (keyword_bytes k) word && has_keyword l k) keywords k found) in
      let same : keyword_bytes k ≡ word = (bytes_eq-Decides (keyword_bytes k) word).0 passes.0 in
      token_rule (token.Keyword k) word front.whole (passes.1, sym same) front.stops
  word_rule word front is short None found =
      token_rule (token.Name word) word front.whole (record { word = is; short = short; free = found }, refl)
      front.stops

  -- the front of a text is a word
  word_piece_rule : (word : List ℕ) → IsRunOf class.Word text word → IsWord word
      → IsRule l place text (word_piece l word)
  word_piece_rule word front is =
      let too_long = Reads l place text (Err (fault.TooLong place)) in
      cond_both (nat_lt MAX_NAME_BYTES (length word)) piece.LongName
      (piece.Token (word_token (keyword_of l word) word) (length word)) (IsRule l place text)
      (λ e. subst (λ (bytes : List ℕ). Reads l place bytes (Err (fault.TooLong place))) (sym front.whole)
      (long_name word (drop (length word) text) is front.stops (ltb-true MAX_NAME_BYTES (length word) e)))
      (λ e. word_rule word front is (ltb-false MAX_NAME_BYTES (length word) e) (keyword_of l word) refl)

  -- the front of a text is a mark
  mark_rule : (m : Mark) → mark_at l text ≡ Some m → IsRule l place text
      (piece.Token (token.Mark m) (length (mark_bytes m)))
  mark_rule m found =
      let stands = mark_stands l text m found in
      let whole : text ≡ mark_bytes m ++ drop (length (mark_bytes m)) text =
      (starts_is Decides-eqb text (mark_bytes m) (starts_with nat_eq text (mark_bytes m)) refl).0 stands.starts in
      let P : List ℕ → Type 0 = λ bytes. mark_at l bytes ≡ Some m in
      token_rule (token.Mark m) (mark_bytes m) whole (stands.has, refl)
      (mark_ends l m (drop (length (mark_bytes m)) text) (subst P whole found))

first_there : (digits : List ℕ) → is_ascii_digit (slice_index digits 0) ≡ true → 0 < length digits
first_there [] e = absurd (cc)
first_there (b ∷ bs) e = omega arith

-- the front of a text is a number of language 1
digits_rule : (place : ℕ) (text digits : List ℕ) → IsRunOf class.Digit text digits
    → is_ascii_digit (slice_index digits 0) ≡ true → IsRule language.One place text (number_piece digits)
digits_rule place text digits front first =
    let few = nat_le (length digits) MAX_DIGITS in
    let small = nat_le (digits_value 10 digits) MAX_NUMBER in
    cond_both (few && small) (piece.Token (token.Number (digits_value 10 digits)) (length digits)) piece.NoToken
    (IsRule language.One place text)
    (λ e. let both = and_parts few small e in
    token_rule language.One place text (token.Number (digits_value 10 digits)) digits front.whole
    (record {
      digits = front.all;
      some = first_there digits first;
      few = leb-true (length digits) MAX_DIGITS both.0;
      has_value = refl;
      small = leb-true (digits_value 10 digits) MAX_NUMBER both.1;
    }) front.stops)
    (λ e. subst (λ (bytes : List ℕ). Reads language.One place bytes (Err (fault.Token place))) (sym front.whole)
    (bad_number digits (drop (length digits) text) front.all first front.stops
    (⊎_elim (λ f. inl (leb-false (length digits) MAX_DIGITS f))
    (λ f. inr (leb-false (digits_value 10 digits) MAX_NUMBER f)) (and_cases few small e))))

-- and of language 2
numeral_rule : (place : ℕ) (text word : List ℕ) → IsRunOf class.Word text word
    → is_ascii_digit (slice_index word 0) ≡ true → (value : Option ℕ) → numeral_value word ≡ value
    → IsRule language.Two place text (numbered value (length word))
numeral_rule place text word front first (Some v) is =
    token_rule language.Two place text (token.Number v) word front.whole
    (record { begins = first; goes_on = front.all; has_value = is }) front.stops
numeral_rule place text word front first None is =
    subst (λ (bytes : List ℕ). Reads language.Two place bytes (Err (fault.Token place))) (sym front.whole)
    (bad_number word (drop (length word) text) front.all first front.stops is)

-- the run of a number begins with its digit
number_begins : (c : Class) (b : ℕ) (bs : List ℕ) → is_in c b ≡ true → is_ascii_digit b ≡ true
    → is_ascii_digit (slice_index (run c (b ∷ bs)) 0) ≡ true
number_begins c b bs here e =
    let Q : List ℕ → Type 0 = λ l. is_ascii_digit (slice_index l 0) ≡ true in
    subst Q (sym (run-cons c b bs here)) e

number_rule : (l : Language) (place b : ℕ) (bs : List ℕ) → is_ascii_digit b ≡ true
    → IsRule l place (b ∷ bs) (numeral_piece l (run (number_class l) (b ∷ bs)))
number_rule language.One place b bs e =
    digits_rule place (b ∷ bs) (run class.Digit (b ∷ bs)) (run_is class.Digit (b ∷ bs))
    (number_begins class.Digit b bs e e)
number_rule language.Two place b bs e =
    let word : List ℕ = run class.Word (b ∷ bs) in
    numeral_rule place (b ∷ bs) word (run_is class.Word (b ∷ bs))
    (number_begins class.Word b bs (or_right (begins_name b) (is_ascii_digit b) e) e) (numeral_value word) refl

-- a quote
quote_rule : (l : Language) (place b : ℕ) (bs : List ℕ) → begins_quote l b ≡ true → (value : Option ℕ)
    → quoted_value (b ∷ bs) ≡ value → IsRule l place (b ∷ bs) (numbered value (quoted_length (b ∷ bs)))
quote_rule l place b bs e (Some v) is = λ r more. quoted v e is more
quote_rule l place b bs e None is = bad_quoted e is

-- a comment
comment_rule : (l : Language) (place : ℕ) (bs : List ℕ)
    → IsRule l place (35 ∷ bs) (piece.Gap (length (run class.Comment (35 ∷ bs))))
comment_rule l place bs =
    let front = run_is class.Comment bs in
    let said = run class.Comment bs in
    let P : ℕ → Type 0 = λ n. IsRule l place (35 ∷ bs) (piece.Gap n) in
    subst P (sym (ap length (run-cons class.Comment 35 bs refl)))
    (λ r more. subst (λ (bytes : List ℕ). Reads l place bytes r) (ap (λ all. 35 ∷ all) (sym front.whole))
    (comment said (drop (length said) bs) front.all front.stops more))

-- no piece of another kind: a mark, or nothing
mark_piece_rule : (l : Language) (place b : ℕ) (bs : List ℕ) → is_white_space b ≡ false → (b == 35) ≡ false
    → begins_name b ≡ false → is_ascii_digit b ≡ false → begins_quote l b ≡ false → (found : Option Mark)
    → mark_at l (b ∷ bs) ≡ found
    → IsRule l place (b ∷ bs) (marked found)
mark_piece_rule l place b bs no_space no_comment no_word no_number no_quote (Some m) found = mark_rule l place (b ∷ bs) m found
mark_piece_rule l place b bs no_space no_comment no_word no_number no_quote None found =
    nothing (record {
      no_space = no_space;
      no_comment = no_comment;
      no_word = no_word;
      no_number = no_number;
      no_quote = no_quote;
      no_mark =
          no_mark_is_found l (b ∷ bs) found;
    })

-- the run of a word is a word
word_is : (b : ℕ) (bs : List ℕ) → begins_name b ≡ true → IsWord (run class.Word (b ∷ bs))
word_is b bs e =
    let Q : List ℕ → Type 0 = λ l. begins_name (slice_index l 0) ≡ true in
    record {
      begins = subst Q (sym (run-cons class.Word b bs (or_left (begins_name b) (is_ascii_digit b) e))) e;
      goes_on = (run_is class.Word (b ∷ bs)).all;
    }

-- each piece is what a rule says
piece_rule : (l : Language) (place b : ℕ) (bs : List ℕ) → IsRule l place (b ∷ bs) (piece_of l b (b ∷ bs))
unfolding piece_of
piece_rule l place b bs =
    let P = IsRule l place (b ∷ bs) in
    cond_both (is_white_space b) _ _ P
    (λ e r more. white e more)
    (λ no_space. cond_both (b == 35) _ _ P
    (λ e. let Q : ℕ → Type 0 = λ c. IsRule l place (c ∷ bs) (piece.Gap (length (run class.Comment (c ∷ bs)))) in
    subst Q (sym (eqb-true b 35 e)) (comment_rule l place bs))
    (λ no_comment. cond_both (begins_name b) _ _ P
    (λ e. word_piece_rule l place (b ∷ bs) (run class.Word (b ∷ bs)) (run_is class.Word (b ∷ bs)) (word_is b bs e))
    (λ no_word. cond_both (is_ascii_digit b) _ _ P
    (λ e. number_rule l place b bs e)
    (λ no_number. cond_both (begins_quote l b) _ _ P
    (λ e. quote_rule l place b bs e (quoted_value (b ∷ bs)) refl)
    (λ no_quote. mark_piece_rule l place b bs no_space no_comment no_word no_number no_quote (mark_at l (b ∷ bs))
    refl)))))

-- from the piece at the front on
follows_piece : (l : Language) (place : ℕ) (text : List ℕ) (p : Piece) → BeginsWith l text p → IsRule l place text p
    → ((q : ℕ) (shorter : List ℕ) → length shorter < length text → Reads l q shorter (scan l 0 q shorter))
    → Reads l place text (scan l 0 place text)
follows_piece l place text (piece.Gap n) begins rule more =
    let fits = begins_fits l text (piece.Gap n) begins in
    subst (λ (r : Result (List Lexeme) LexFault). Reads l place text r) (sym (scan_gap l text place n begins))
    (rule (scan l 0 (place + n) (drop n text)) (more (place + n) (drop n text)
    (omega (arith, length-drop n text, fits.0, fits.1))))
follows_piece l place text (piece.Token t n) begins rule more =
    let fits = begins_fits l text (piece.Token t n) begins in
    subst (λ (r : Result (List Lexeme) LexFault). Reads l place text r) (sym (scan_token l text place n t begins))
    (rule (scan l 0 (place + n) (drop n text)) (more (place + n) (drop n text)
    (omega (arith, length-drop n text, fits.0, fits.1))))
follows_piece l place text piece.NoToken begins rule more =
    subst (λ (r : Result (List Lexeme) LexFault). Reads l place text r) (sym (scan_none l text place begins)) rule
follows_piece l place text piece.LongName begins rule more =
    subst (λ (r : Result (List Lexeme) LexFault). Reads l place text r) (sym (scan_long l text place begins)) rule

-- a scan of a text of fewer than n bytes follows the rules
follows_below : (l : Language) (n place : ℕ) (text : List ℕ) → length text < n
    → Reads l place text (scan l 0 place text)
follows_below l zero place text short = absurd (omega arith)
follows_below l (suc n) place [] short = done
follows_below l (suc n) place (b ∷ bs) short =
    follows_piece l place (b ∷ bs) (piece_of l b (b ∷ bs)) (record { some = omega arith; is = refl })
    (piece_rule l place b bs) (λ q shorter less. follows_below l n q shorter (omega arith))

-- what a scan returns is what the rules say
pub scan_rules : (l : Language) (place : ℕ) (text : List ℕ) → Reads l place text (scan l 0 place text)
scan_rules l place text = follows_below l (suc (length text)) place text (omega arith)
