-- The laws of item files.
use Rattle.kpn_text_items.proofs.Common.{◌≡◌, ℕ, suc, ◌-◌, ◌^◌, ◌<◌, ◌≤◌, false, eqb, List, [], ◌∷◌, ◌++◌, length, get_or, refl, sym, ap, ◌∙◌, subst, arith, append_assoc, All, AllZip, lines, strip_carriage_return, AllDigits, IsNumeral, digits_value, starts_with_minus, ne_eqb, cond-false, nat_tests, ints, MAX_DIGITS, SpellsItem, without_minus, item_text}
use Rattle.std.specs.Prelude.{ℤ, pos, negsuc, neg_ℤ, FitsSigned}
use Rattle.std.specs.Int.{w64}
use Rattle.std.specs.Fmt.{decimal, signed_decimal}
use Rattle.std.proofs.lemmas.Fmt.{decimal_is_IsNumeral, length-decimal-le}
use Rattle.std.proofs.lemmas.List.Elements.{All-nil, All-cons}
use Rattle.kpn_text_items.specs.Laws.{ReadsBack, IsUnambiguous, ExcludesSpelling}
use Rattle.kpn_text_items.proofs.LineLemmas.{lines-feed}

-- ---- one spelling at most

same_items : (ls : List (List ℕ)) (xs ys : List ℤ) → AllZip SpellsItem ls xs → AllZip SpellsItem ls ys → xs ≡ ys
same_items [] [] [] h k = refl
same_items [] [] (y ∷ ys) h k = absurd k
same_items [] (x ∷ xs) ys h k = absurd h
same_items (l ∷ ls) [] ys h k = absurd h
same_items (l ∷ ls) (x ∷ xs) [] h k = absurd k
same_items (l ∷ ls) (x ∷ xs) (y ∷ ys) h k = λ i. (h.0.value ∙ sym k.0.value) i ∷ same_items ls xs ys h.1 k.1 i

pub is_unambiguous : IsUnambiguous
is_unambiguous bytes xs ys h k = same_items (lines bytes) xs ys h k

-- ---- a first bad line

bad_among : (before : List (List ℕ)) (bad : List ℕ) (after : List (List ℕ)) (items : List ℤ)
    → ((item : ℤ) → SpellsItem bad item → ⊥) → AllZip SpellsItem (before ++ bad ∷ after) items → ⊥
bad_among [] bad after [] none h = h
bad_among [] bad after (x ∷ items) none h = none x h.0
bad_among (l ∷ before) bad after [] none h = h
bad_among (l ∷ before) bad after (x ∷ items) none h = bad_among before bad after items none h.1

same_place : (xs ys : List (List ℕ)) (a b : List ℕ) (as' bs : List (List ℕ)) (is js : List ℤ) → xs ++ a ∷ as' ≡ ys ++ b
    ∷ bs → AllZip SpellsItem xs is → AllZip SpellsItem ys js
    → ((item : ℤ) → SpellsItem a item → ⊥) → ((item : ℤ) → SpellsItem b item → ⊥) → length xs ≡ length ys
same_place [] [] a b as' bs is js e h k none nor = refl
same_place [] (y ∷ ys) a b as' bs is [] e h k none nor = absurd k
same_place [] (y ∷ ys) a b as' bs is (j ∷ js) e h k none nor =
    let head : a ≡ y = cc in
    absurd (none j (subst (λ l. SpellsItem l j) (sym head) k.0))
same_place (x ∷ xs) [] a b as' bs [] js e h k none nor = absurd h
same_place (x ∷ xs) [] a b as' bs (i ∷ is) js e h k none nor =
    let head : x ≡ b = cc in
    absurd (nor i (subst (λ l. SpellsItem l i) head h.0))
same_place (x ∷ xs) (y ∷ ys) a b as' bs [] js e h k none nor = absurd h
same_place (x ∷ xs) (y ∷ ys) a b as' bs (i ∷ is) [] e h k none nor = absurd k
same_place (x ∷ xs) (y ∷ ys) a b as' bs (i ∷ is) (j ∷ js) e h k none nor =
    let tails : xs ++ a ∷ as' ≡ ys ++ b ∷ bs = cc in
    ap suc (same_place xs ys a b as' bs is js tails h.1 k.1 none nor)

pub excludes_spelling : ExcludesSpelling
excludes_spelling bytes m bad = (
  λ items h. bad_among bad.before bad.bad bad.after items bad.spells_none
      (subst (λ ls. AllZip SpellsItem ls items) bad.whole h),
  λ n other.
      let same = same_place other.before bad.before other.bad bad.bad other.after bad.after other.items bad.items
      (sym other.whole ∙ bad.whole) other.spelled bad.spelled other.spells_none bad.spells_none in
      omega (arith, other.counted, bad.counted),
)

-- ---- what is written is read back

-- digits and a minus are above the two bytes that end lines
pub digits-high : (ds : List ℕ) → AllDigits 10 ds → All (λ b. 45 ≤ b) ds
digits-high [] all = All-nil (λ b. 45 ≤ b)
digits-high (d ∷ ds) all =
    let digit = all.0 in
    All-cons (λ b. 45 ≤ b) d ds (grind (arith, nat_tests)) (digits-high ds all.1)

digits_no_minus : (ds : List ℕ) → AllDigits 10 ds → starts_with_minus ds ≡ false
digits_no_minus [] all = refl
digits_no_minus (d ∷ ds) all =
    let digit = all.0 in
    grind (arith, nat_tests)

no_feed : (line : List ℕ) → All (λ b. 45 ≤ b) line → All (λ b. eqb b 10 ≡ false) line
no_feed line high = λ k d inside. let at = high k d inside in ne_eqb (get_or line k d) 10 (λ e. omega arith)

no_return : (line : List ℕ) → All (λ b. 45 ≤ b) line → strip_carriage_return line ≡ line
no_return [] high = refl
no_return (b ∷ bs) high =
    let at = high (length (b ∷ bs) - 1) 0 (omega arith) in
    cond-false _ _ _ (ne_eqb (get_or (b ∷ bs) (length (b ∷ bs) - 1) 0) 13 (λ e. omega arith))

-- digits without a minus spell their number
spells_digits : (ds : List ℕ) (n : ℕ) → IsNumeral 10 ds → length ds ≤ MAX_DIGITS → digits_value 10 ds ≡ n
    → FitsSigned w64 (pos n) → SpellsItem ds (pos n)
spells_digits ds n numeral short value fits =
    let plain = digits_no_minus ds numeral.1 in
    let bare : without_minus ds ≡ ds = cond-false _ _ _ plain in
    record {
      numeral = subst (λ l. IsNumeral 10 l × (length l ≤ MAX_DIGITS)) (sym bare) (numeral, short);
      value = ap pos (sym value ∙ ap (digits_value 10) (sym bare)) ∙ sym (cond-false _ _ _ plain);
      in_range = fits;
    }

-- and after a minus its negative
spells_minus : (ds : List ℕ) (n : ℕ) → IsNumeral 10 ds → length ds ≤ MAX_DIGITS → digits_value 10 ds ≡ suc n
    → FitsSigned w64 (negsuc n) → SpellsItem (45 ∷ ds) (negsuc n)
spells_minus ds n numeral short value fits = record {
  numeral = (numeral, short);
  value = ap (λ m. neg_ℤ (pos m)) (sym value);
  in_range = fits;
}

pub spells_decimal : (item : ℤ) → FitsSigned w64 item → SpellsItem (signed_decimal item) item
    × All (λ b. 45 ≤ b) (signed_decimal item)
spells_decimal (pos n) fits =
    let small : n < 2 ^ 63 = omega (arith, ints) in
    let read = decimal_is_IsNumeral n (omega arith) in (
      spells_digits (decimal n) n read.0 (length-decimal-le 19 n (omega arith) (omega arith) (omega arith)) read.1 fits,
      digits-high (decimal n) read.0.1,
    )
spells_decimal (negsuc n) fits =
    let small : n < 2 ^ 63 = omega (arith, ints) in
    let read = decimal_is_IsNumeral (suc n) (omega arith) in (
      spells_minus (decimal (suc n)) n read.0 (length-decimal-le 19 (suc n) (omega arith) (omega arith) (omega arith))
          read.1 fits,
      All-cons (λ b. 45 ≤ b) 45 (decimal (suc n)) (omega arith) (digits-high (decimal (suc n)) read.0.1),
    )

-- the first line of a text is that of its first item
lines-text : (item : ℤ) (items : List ℤ) → All (λ b. 45 ≤ b) (signed_decimal item)
    → lines (item_text (item ∷ items)) ≡ signed_decimal item ∷ lines (item_text items)
lines-text item items high =
    let line = signed_decimal item in
    ap lines (append_assoc line (10 ∷ []) (item_text items)) ∙ lines-feed line (item_text items) (no_feed line high)
    ∙ ap (λ l. l ∷ lines (item_text items)) (no_return line high)

pub reads_back : ReadsBack
reads_back [] fits = tt
reads_back (item ∷ items) fits =
    let first = spells_decimal item (fits 0 item (omega arith)) in
    subst (λ ls. AllZip SpellsItem ls (item ∷ items)) (sym (lines-text item items first.1))
    (first.0, reads_back items (λ k d inside. fits (suc k) d (omega arith)))
