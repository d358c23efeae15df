-- The piece at the front of a text takes a byte or more, and no more than the text has.
use Rattle.kpn_text_tokens.proofs.Common.{◌≡◌, ℕ, suc, ◌<◌, ◌≤◌, Bool, true, false, cond, ◌&&◌, List, [], ◌∷◌, length, take, Option, Some, None, refl, sym, ap, ◌∙◌, subst, eqb, nat_lt, nat_le, arith, lit≤, length-take, digit_value, is_ascii_digit, pointwise, IsInRange, find, prefix_len, starts_with, nat_eq, ◌==◌, slice_index, AllDigits, digits_value, and_parts, cond_both, cond-true, leb-true, or_left, or_right, nat_tests, take_while-cons, digit_value_digit, MAX_DIGITS, MAX_NAME_BYTES, MAX_NUMBER, Class, Piece, Language, Mark, begins_quote, numeral_value, quoted_length, quoted_value}
use Rattle.kpn_text_tokens.specs.declared.lexer.Class.TheVariants as class
use Rattle.kpn_text_tokens.specs.declared.lexer.Piece.TheVariants as piece
use Rattle.kpn_text_tokens.specs.declared.tokens.Language.TheVariants as language
use Rattle.kpn_text_tokens.specs.declared.tokens.Mark.TheVariants as mark
use Rattle.kpn_text_tokens.specs.declared.tokens.Token.TheVariants as token
use Rattle.kpn_text_tokens.specs.Lexing.{is_white_space, begins_name, is_in, TakesWithin, run, word_token, word_piece, number_piece, numbered, number_class, numeral_piece, marked, mark_piece, piece_of}
use Rattle.kpn_text_tokens.proofs.NumeralLaws.{is_quoted}
use Rattle.kpn_text_tokens.specs.Spelling.{has_mark, keyword_of, mark_at, mark_bytes, marks}

-- what find returns passes the test
pub find_passes : {X : Type 0} (p : X → Bool) (xs : List X) (x : X) → find p xs ≡ Some x → p x ≡ true
find_passes p [] x found = cc
find_passes {X} p (y ∷ ys) x found =
    let Q : Option X → Type 0 = λ o. o ≡ Some x → p x ≡ true in
    cond_both (p y) (Some y) (find p ys) Q (λ passes same. let e : y ≡ x = cc in ap p (sym e) ∙ passes)
    (λ _ same. find_passes p ys x same) found

-- lists that agree element by element are as long as each other
pointwise_length : (xs ys : List ℕ) → pointwise nat_eq xs ys ≡ true → length xs ≡ length ys
pointwise_length [] [] e = refl
pointwise_length [] (y ∷ ys) e = cc
pointwise_length (x ∷ xs) [] e = cc
pointwise_length (x ∷ xs) (y ∷ ys) e = ap suc (pointwise_length xs ys
    (and_parts (eqb x y) (pointwise nat_eq xs ys) e).1)

-- a text is no shorter than what it begins with
starts_within : (text p : List ℕ) → starts_with nat_eq text p ≡ true → length p ≤ length text
starts_within text p e = omega (arith, pointwise_length p (take (length p) text) e, length-take (length p) text)

-- a run goes on if the next byte is of its class
pub run-cons : (c : Class) (b : ℕ) (bs : List ℕ) → is_in c b ≡ true → run c (b ∷ bs) ≡ b ∷ run c bs
run-cons c b bs e = take_while-cons (is_in c) b bs ∙ cond-true (is_in c b) (b ∷ run c bs) [] e

-- the first n bytes are a piece's
abbrev pub Takes : ℕ → ℕ → Type 0
Takes n available = (1 ≤ n) × (n ≤ available)

pub run_takes : (c : Class) (b : ℕ) (bs : List ℕ) → is_in c b ≡ true → Takes (length (run c (b ∷ bs))) (suc (length bs))
run_takes c b bs e =
    let first = ap length (run-cons c b bs e) in
    (omega arith, omega (arith, first, length-take (prefix_len (is_in c) bs) bs))

pub mark_nonempty : (m : Mark) → 1 ≤ length (mark_bytes m)
mark_nonempty mark.LessOrEqual = lit≤ tt
mark_nonempty _ = lit≤ tt

-- what a search for a mark returns is a mark of the language, and the text begins with it
pub record StandsAt (l : Language) (m : Mark) (text : List ℕ) : Type 0 where
  pub starts : starts_with nat_eq text (mark_bytes m) ≡ true
  pub has : has_mark l m ≡ true

pub mark_stands : (l : Language) (text : List ℕ) (m : Mark) → mark_at l text ≡ Some m → StandsAt l m text
unfolding mark_at
mark_stands l text m e =
    let both = and_parts (starts_with nat_eq text (mark_bytes m)) (has_mark l m)
    (find_passes (λ m. starts_with nat_eq text (mark_bytes m) && has_mark l m) marks m e) in
    record { starts = both.0; has = both.1 }

marked_fits : (l : Language) (text : List ℕ) (found : Option Mark) → mark_at l text ≡ found
    → TakesWithin (marked found) (length text)
marked_fits l text None e = tt
marked_fits l text (Some m) e = (mark_nonempty m, starts_within text (mark_bytes m) (mark_stands l text m e).starts)

-- the same of the mark at the front
pub mark_takes : (l : Language) (text : List ℕ) → TakesWithin (mark_piece l text) (length text)
mark_takes l text = marked_fits l text (mark_at l text) refl

word_fits : (l : Language) (b : ℕ) (bs : List ℕ) → is_in class.Word b ≡ true
    → TakesWithin (word_piece l (run class.Word (b ∷ bs))) (suc (length bs))
word_fits l b bs e =
    let word = run class.Word (b ∷ bs) in
    let size = suc (length bs) in
    cond_both (nat_lt MAX_NAME_BYTES (length word)) piece.LongName
    (piece.Token (word_token (keyword_of l word) word) (length word)) (λ p. TakesWithin p size) (λ _. tt)
    (λ _. run_takes class.Word b bs e)

number_fits : (b : ℕ) (bs : List ℕ) → is_in class.Digit b ≡ true
    → TakesWithin (number_piece (run class.Digit (b ∷ bs))) (suc (length bs))
number_fits b bs e =
    let digits = run class.Digit (b ∷ bs) in
    let size = suc (length bs) in
    cond_both (nat_le (length digits) MAX_DIGITS && nat_le (digits_value 10 digits) MAX_NUMBER)
    (piece.Token (token.Number (digits_value 10 digits)) (length digits)) piece.NoToken (λ p. TakesWithin p size)
    (λ _. run_takes class.Digit b bs e) (λ _. tt)

numeral_fits : (b : ℕ) (bs : List ℕ) (value : Option ℕ) → is_in class.Word b ≡ true
    → TakesWithin (numbered value (length (run class.Word (b ∷ bs)))) (suc (length bs))
numeral_fits b bs (Some v) e = run_takes class.Word b bs e
numeral_fits b bs None e = tt

digit_fits : (l : Language) (b : ℕ) (bs : List ℕ) → is_ascii_digit b ≡ true
    → TakesWithin (numeral_piece l (run (number_class l) (b ∷ bs))) (suc (length bs))
digit_fits language.One b bs e = number_fits b bs e
digit_fits language.Two b bs e =
    numeral_fits b bs (numeral_value (run class.Word (b ∷ bs))) (or_right (begins_name b) (is_ascii_digit b) e)

-- the same of a text that begins with the digit
pub digit_takes : (l : Language) (text : List ℕ) → is_ascii_digit (slice_index text 0) ≡ true
    → TakesWithin (numeral_piece l (run (number_class l) text)) (length text)
digit_takes l [] e = absurd (cc)
digit_takes l (b ∷ bs) e = digit_fits l b bs e

pub quote_fits : (text : List ℕ) (value : Option ℕ) → quoted_value text ≡ value
    → TakesWithin (numbered value (quoted_length text)) (length text)
quote_fits text None is = tt
quote_fits text (Some v) is =
    (length_some (slice_index text 1 == 92), (is_quoted text v is).within)
  where
    length_some : (b : Bool) → 1 ≤ cond b 4 3
    length_some true = omega arith
    length_some false = omega arith

-- a piece takes at least a byte, and no more than there are
pub piece_fits : (l : Language) (b : ℕ) (bs : List ℕ) → TakesWithin (piece_of l b (b ∷ bs)) (suc (length bs))
unfolding piece_of
piece_fits l b bs =
    let text = b ∷ bs in
    let P : Piece → Type 0 = λ p. TakesWithin p (suc (length bs)) in
    cond_both (is_white_space b) _ _ P
    (λ _. (omega arith, omega arith))
    (λ _. cond_both (b == 35) _ _ P
    (λ e. let hash : is_in class.Comment b ≡ true = grind (arith, nat_tests) in run_takes class.Comment b bs hash)
    (λ _. cond_both (begins_name b) _ _ P
    (λ e. word_fits l b bs (or_left (begins_name b) (is_ascii_digit b) e))
    (λ _. cond_both (is_ascii_digit b) _ _ P
    (λ e. digit_fits l b bs e)
    (λ _. cond_both (begins_quote l b) _ _ P
    (λ _. quote_fits text (quoted_value text) refl)
    (λ _. marked_fits l text (mark_at l text) refl)))))

digit_below_ten : (b : ℕ) → is_ascii_digit b ≡ true → digit_value b < 10
digit_below_ten b e =
    let both = and_parts (nat_le 48 b) (nat_le b 57) e in
    let low = leb-true 48 b both.0 in
    let high = leb-true b 57 both.1 in
    let range : IsInRange 48 57 b = (low, high) in
    omega (arith, digit_value_digit b range)

-- a run of digits is made of digits
pub run_of_digits : (text : List ℕ) → AllDigits 10 (run class.Digit text)
run_of_digits [] = tt
run_of_digits (b ∷ bs) =
    let P : List ℕ → Type 0 = AllDigits 10 in
    subst P (sym (take_while-cons is_ascii_digit b bs)) (cond_both (is_ascii_digit b) (b ∷ run class.Digit bs) [] P
    (λ e. (digit_below_ten b e, run_of_digits bs)) (λ _. tt))
