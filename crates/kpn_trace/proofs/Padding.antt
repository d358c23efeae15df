-- A word that spells an item is its canonical form if no zero stands in front of its other digits.
use Rattle.kpn_trace.proofs.Common.{◌≡◌, ℕ, zero, suc, ◌^◌, ◌<◌, Bool, true, false, eqb, List, [], ◌∷◌, length, get_or, drop, refl, sym, ap, ◌∙◌, subst, arith, lit<, ℤ, pos, negsuc, neg_ℤ, FitsSigned, w64, decimal, signed_decimal, AllDigits, digits_value, cond-false, eqb-true, nat_tests, decimal_digit, decimal_is_IsNumeral, decimal-digits_value, first_decimal, ints, SpellsItem, IsShortNumeral, without_minus}
use Rattle.std.proofs.Math.Nat.{pow-le-pow_right}
use Rattle.std.proofs.lemmas.Int.Digits.{digits_value-lt}
use Rattle.std.proofs.lemmas.Str.Parse.{numerals_by_value, tells_digits}

-- a number above 0 begins with no zero
no_zero : (n : ℕ) (ds : List ℕ) → 0 < n → n < 2 ^ 64 → 48 ∷ ds ≡ decimal n → ⊥
no_zero n ds some small e = let first = first_decimal n some small in omega (arith, ap (λ l. get_or l 0 0) e)

-- no number begins with a minus
no_minus : (n : ℕ) (ds : List ℕ) → n < 2 ^ 64 → 45 ∷ ds ≡ decimal n → ⊥
no_minus n ds small e =
    let digit = (subst (AllDigits 10) (sym e) (decimal_is_IsNumeral n small).0.1).0 in
    grind (arith, nat_tests)

-- what some bytes begin with
begins : (d : ℕ) (ds : List ℕ) → 0 < length ds → get_or ds 0 0 ≡ d → ds ≡ d ∷ drop 1 ds
begins d [] some e = absurd (omega arith)
begins d (c ∷ ds) some e = ap (λ b. b ∷ ds) e

-- digits without a zero in front are what is written of their value
written : (ds : List ℕ) → IsShortNumeral ds → (get_or ds 0 0 ≡ 48 → length ds ≡ 1) → decimal (digits_value 10 ds) ≡ ds
written ds numeral bare =
    decimal-digits_value (numerals_by_value _ tells_digits) ds numeral.0.1 numeral.0.0 bare
    (omega (arith, digits_value-lt 10 ds numeral.0.1, pow-le-pow_right {n = 10} (lit< tt) numeral.1))

-- and after a minus
below_zero : (ds : List ℕ) (n : ℕ) → decimal n ≡ ds → (get_or ds 0 0 ≡ 48 → ⊥)
    → 45 ∷ ds ≡ signed_decimal (neg_ℤ (pos n))
below_zero ds zero e bare = absurd (bare (ap (λ l. get_or l 0 0) (sym e ∙ decimal_digit 0 (omega arith))))
below_zero ds (suc n) e bare = ap (λ l. 45 ∷ l) (sym e)

-- one digit after a minus is two bytes
after_minus : (ds : List ℕ) (item : ℤ) → SpellsItem (45 ∷ ds) item → (get_or ds 0 0 ≡ 48 → length (45 ∷ ds) ≡ 1)
    → 45 ∷ ds ≡ signed_decimal item
after_minus ds item spells bare =
    let some : 0 < length ds = spells.numeral.0.0 in
    let no : get_or ds 0 0 ≡ 48 → ⊥ = λ e. omega (arith, some, bare e) in
    below_zero ds (digits_value 10 ds) (written ds spells.numeral (λ e. absurd (no e))) no
    ∙ ap signed_decimal (sym spells.value)

-- a form after a minus has no zero in front
form_after_minus : (ds : List ℕ) (item : ℤ) → FitsSigned w64 item → 0 < length ds → 45 ∷ ds ≡ signed_decimal item
    → get_or ds 0 0 ≡ 48 → ⊥
form_after_minus ds (pos n) fits some e first = no_minus n ds (omega (arith, ints)) e
form_after_minus ds (negsuc n) fits some e first =
    let tail : ds ≡ decimal (suc n) = cc in
    no_zero (suc n) (drop 1 ds) (omega arith) (omega (arith, ints)) (sym (begins 48 ds some first) ∙ tail)

-- and one without a minus only if it is 0
form_bare : (c : ℕ) (ds : List ℕ) (item : ℤ) → FitsSigned w64 item → c ≡ 48 → c ∷ ds ≡ signed_decimal item
    → length (c ∷ ds) ≡ 1
form_bare c ds (pos zero) fits zero_first e = ap length (e ∙ decimal_digit 0 (omega arith))
form_bare c ds (pos (suc n)) fits zero_first e =
    absurd (no_zero (suc n) ds (omega arith) (omega (arith, ints)) (ap (λ b. b ∷ ds) (sym zero_first) ∙ e))
form_bare c ds (negsuc n) fits zero_first e = absurd (omega (arith, ap (λ l. get_or l 0 0) e))

bare_word : (c : ℕ) (ds : List ℕ) (item : ℤ) → eqb c 45 ≡ false → SpellsItem (c ∷ ds) item
    → (c ≡ 48 → length (c ∷ ds) ≡ 1) → c ∷ ds ≡ signed_decimal item
bare_word c ds item none spells bare =
    let whole : without_minus (c ∷ ds) ≡ c ∷ ds = cond-false _ _ _ none in
    let value : item ≡ pos (digits_value 10 (c ∷ ds)) =
    spells.value ∙ cond-false _ _ _ none ∙ ap (λ l. pos (digits_value 10 l)) whole in
    sym (written (c ∷ ds) (subst IsShortNumeral whole spells.numeral) bare) ∙ ap signed_decimal (sym value)

-- no zero stands in front of other digits
abbrev pub IsBare : List ℕ → Type 0
IsBare word = get_or (without_minus word) 0 0 ≡ 48 → length word ≡ 1

by_minus : (c : ℕ) (ds : List ℕ) (item : ℤ) (minus : Bool) → eqb c 45 ≡ minus → SpellsItem (c ∷ ds) item
    → (IsBare (c ∷ ds) → c ∷ ds ≡ signed_decimal item) × (c ∷ ds ≡ signed_decimal item → IsBare (c ∷ ds))
by_minus c ds item true is spells =
    let same : c ≡ 45 = eqb-true c 45 is in
    subst (λ b. SpellsItem (b ∷ ds) item
    → (IsBare (b ∷ ds) → b ∷ ds ≡ signed_decimal item) × (b ∷ ds ≡ signed_decimal item → IsBare (b ∷ ds)))
    (sym same)
    (λ s. (
      after_minus ds item s,
      λ form first. absurd (form_after_minus ds item s.in_range s.numeral.0.0 form first),
    ))
    spells
by_minus c ds item false is spells =
    let whole : without_minus (c ∷ ds) ≡ c ∷ ds = cond-false _ _ _ is in
    let first : get_or (without_minus (c ∷ ds)) 0 0 ≡ c = ap (λ l. get_or l 0 0) whole in (
      λ bare. bare_word c ds item is spells (λ at. bare (first ∙ at)),
      λ form at. form_bare c ds item spells.in_range (sym first ∙ at) form,
    )

-- such a word is the canonical form of its item, and no other is
pub canonical : (word : List ℕ) (item : ℤ) → SpellsItem word item
    → (IsBare word → word ≡ signed_decimal item) × (word ≡ signed_decimal item → IsBare word)
canonical [] item spells = absurd (omega (arith, spells.numeral.0.0))
canonical (c ∷ ds) item spells = by_minus c ds item (eqb c 45) refl spells
