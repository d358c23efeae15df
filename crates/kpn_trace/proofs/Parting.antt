-- Words: what comes before the first byte that parts them, and which bytes numbers and words lack.
use Rattle.kpn_trace.proofs.Common.{◌≡◌, ℕ, zero, suc, ◌+◌, ◌-◌, ◌^◌, ◌<◌, ◌≤◌, Bool, true, false, eqb, List, [], ◌∷◌, ◌++◌, length, get_or, take, drop, Some, None, refl, sym, ap, ◌∙◌, subst, arith, ℤ, pos, negsuc, FitsSigned, ◌||◌, w64, list_any, position, position_or_len, decimal, signed_decimal, AllDigits, ne_eqb, eqb-true, nat_tests, common_steps, take_rest, decimal_is_IsNumeral, decimal_injective, signed_decimal_injective, ints, MatchOption, Result, Ok, Err, unsigned_abs, FitsUnsignedBits, OkIff, result_ok, SpellsItem, LacksByte}
use Rattle.std.proofs.lemmas.List.Quantifiers.{position-Some}
use Rattle.std.proofs.lemmas.List.Sums.{fails_before_first}
use Rattle.std.proofs.Math.Seq.{take-length}
use lib.Signed.{mag}
use Rattle.kpn_text_items.proofs.LawLemmas.{spells_decimal}

-- ---- bytes that lack one byte

either : (a b : Bool) → (a || b) ≡ false → (a ≡ false) × (b ≡ false)
either true b e = absurd (cc)
either false b e = (refl, e)

both : (a b : Bool) → a ≡ false → b ≡ false → (a || b) ≡ false
both true b e f = absurd (cc)
both false b e f = f

tests_itself : (s : ℕ) → eqb s s ≡ false → ⊥
tests_itself s e = grind (arith, nat_tests)

lacks_rest : (s x : ℕ) (xs : List ℕ) → LacksByte s (x ∷ xs) → LacksByte s xs
lacks_rest s x xs lacks = (either (eqb x s) (list_any (λ b. eqb b s) xs) lacks).1

lacks_first : (s x : ℕ) (xs : List ℕ) → LacksByte s (x ∷ xs) → x ≡ s → ⊥
lacks_first s x xs lacks same =
    tests_itself s (subst (λ b. eqb b s ≡ false) same (either (eqb x s) (list_any (λ b. eqb b s) xs) lacks).0)

pub LacksByte-append : (s : ℕ) (xs ys : List ℕ) → LacksByte s xs → LacksByte s ys → LacksByte s (xs ++ ys)
LacksByte-append s [] ys lacks also = also
LacksByte-append s (x ∷ xs) ys lacks also =
    let parts = either (eqb x s) (list_any (λ b. eqb b s) xs) lacks in
    both (eqb x s) (list_any (λ b. eqb b s) (xs ++ ys)) parts.0 (LacksByte-append s xs ys parts.1 also)

-- what comes before the first such byte, and what after it
pub cut : (s : ℕ) (w v a b : List ℕ) → LacksByte s w → LacksByte s v → w ++ s ∷ a ≡ v ++ s ∷ b → (w ≡ v) × (a ≡ b)
cut s [] [] a b lacks also e = (refl, cc)
cut s [] (y ∷ v) a b lacks also e =
    let same : y ≡ s = cc in
    absurd (lacks_first s y v also same)
cut s (x ∷ w) [] a b lacks also e =
    let same : x ≡ s = cc in
    absurd (lacks_first s x w lacks same)
cut s (x ∷ w) (y ∷ v) a b lacks also e =
    let first : x ≡ y = cc in
    let tails : w ++ s ∷ a ≡ v ++ s ∷ b = cc in
    let rest = cut s w v a b (lacks_rest s x w lacks) (lacks_rest s y v also) tails in
    (cc (first, rest.0), rest.1)

-- ---- the first place of a byte

split_at : (s : ℕ) (xs : List ℕ) (i : ℕ) → i < length xs → get_or xs i 0 ≡ s → xs ≡ take i xs ++ s ∷ drop (i + 1) xs
split_at s xs i inside at = grind (arith, common_steps)

-- none of those before a place is the byte
pub LacksByte-before : (s : ℕ) (xs : List ℕ) (i : ℕ) → i ≤ length xs → ((k : ℕ) → k < i → eqb (get_or xs k 0) s ≡ false)
    → LacksByte s (take i xs)
LacksByte-before s [] i within none = grind (arith, common_steps)
LacksByte-before s (x ∷ xs) zero within none = refl
LacksByte-before s (x ∷ xs) (suc i) within none =
    both (eqb x s) (list_any (λ b. eqb b s) (take i xs)) (none 0 (omega arith))
    (LacksByte-before s xs i (omega arith) (λ k below. none (suc k) (omega arith)))

-- bytes without a first place of the byte
pub LacksByte-nowhere : (s : ℕ) (xs : List ℕ) → position (λ b. eqb b s) xs ≡ None → LacksByte s xs
LacksByte-nowhere s xs none =
    let past : length xs ≤ position_or_len (λ b. eqb b s) xs = grind (arith, nat_tests) in
    subst (LacksByte s) (take-length xs)
    (LacksByte-before s xs (length xs) (omega arith)
    (λ k below. fails_before_first (λ b. eqb b s) xs k 0 (omega (arith, past))))

-- bytes parted at the first place of the byte
pub parted_at : (s : ℕ) (xs : List ℕ) (i : ℕ) → position (λ b. eqb b s) xs ≡ Some i
    → (xs ≡ take i xs ++ s ∷ take (length xs - (i + 1)) (drop (i + 1) xs)) × LacksByte s (take i xs)
parted_at s xs i found =
    let at = position-Some (λ b. eqb b s) xs i 0 found in
    let is : get_or xs i 0 ≡ s = eqb-true (get_or xs i 0) s at.1 in
    let split : xs ≡ take i xs ++ s ∷ drop (i + 1) xs = split_at s xs i at.0 is in (
      split ∙ ap (λ r. take i xs ++ s ∷ r) (sym (take_rest xs (i + 1))),
      LacksByte-before s xs i (omega (arith, at.0)) (λ k below. at.2 k below),
    )

-- ---- numbers

-- digits and a minus are above spaces and line feeds
digits_lack : (s : ℕ) (ds : List ℕ) → s < 45 → AllDigits 10 ds → LacksByte s ds
digits_lack s [] low all = refl
digits_lack s (d ∷ ds) low all =
    let digit = all.0 in
    let apart : eqb d s ≡ false = grind (arith, nat_tests) in
    both (eqb d s) (list_any (λ b. eqb b s) ds) apart (digits_lack s ds low all.1)

pub decimal_lacks : (s n : ℕ) → s < 45 → n < 2 ^ 64 → LacksByte s (decimal n)
decimal_lacks s n low small = digits_lack s (decimal n) low (decimal_is_IsNumeral n small).0.1

pub item_lacks : (s : ℕ) (item : ℤ) → s < 45 → FitsSigned w64 item → LacksByte s (signed_decimal item)
item_lacks s (pos n) low fits = decimal_lacks s n low (omega (arith, ints))
item_lacks s (negsuc n) low fits =
    let minus : eqb 45 s ≡ false = ne_eqb 45 s (λ e. omega arith) in
    both (eqb 45 s) (list_any (λ b. eqb b s) (decimal (suc n))) minus
    (decimal_lacks s (suc n) low (omega (arith, ints)))

-- one number and what follows after a space
pub front : (m n : ℕ) (a b : List ℕ) → m < 2 ^ 16 → n < 2 ^ 16 → decimal m ++ 32 ∷ a ≡ decimal n ++ 32 ∷ b
    → (m ≡ n) × (a ≡ b)
front m n a b small few e =
    let parts =
    cut 32 (decimal m) (decimal n) a b (decimal_lacks 32 m (omega arith) (omega arith))
    (decimal_lacks 32 n (omega arith) (omega arith)) e in
    (decimal_injective m n (omega arith) (omega arith) parts.0, parts.1)

-- the same of one text that begins with both
pub same_rest : (text : List ℕ) (m n : ℕ) (a b : List ℕ) → m < 2 ^ 16 → n < 2 ^ 16 → text ≡ decimal m ++ 32 ∷ a
    → text ≡ decimal n ++ 32 ∷ b → a ≡ b
same_rest text m n a b small few e f = (front m n a b small few (sym e ∙ f)).1

pub same_number : (m n : ℕ) → m < 2 ^ 16 → n < 2 ^ 16 → decimal m ≡ decimal n → m ≡ n
same_number m n small few e = decimal_injective m n (omega arith) (omega arith) e

mag_small : (item : ℤ) → FitsSigned w64 item → mag item < 2 ^ 63
mag_small (pos n) fits = omega (arith, ints)
mag_small (negsuc n) fits = omega (arith, ints)

pub same_item : (a b : ℤ) → FitsSigned w64 a → FitsSigned w64 b → signed_decimal a ≡ signed_decimal b → a ≡ b
same_item a b fits also e = signed_decimal_injective a b (mag_small a fits) (mag_small b also) e

-- ---- what a word writes

-- a word that spells no item is the form of none
pub no_item : (word : List ℕ) → ((item : ℤ) → SpellsItem word item → ⊥) → (item : ℤ) → FitsSigned w64 item
    → word ≡ signed_decimal item → ⊥
no_item word none item fits e = none item (subst (λ l. SpellsItem l item) (sym e) (spells_decimal item fits).0)

-- a word that spells an item and is not its form is the form of none
pub other_form : (word : List ℕ) (item other : ℤ) → SpellsItem word item → (word ≡ signed_decimal item → ⊥)
    → FitsSigned w64 other → word ≡ signed_decimal other → ⊥
other_form word item other spells differs fits e =
    let also = subst (λ l. SpellsItem l other) (sym e) (spells_decimal other fits).0 in
    differs (e ∙ ap signed_decimal (also.value ∙ sym spells.value))

-- an item that is a number from 0 to 65535, or is none
pub number_read : {E : Type 0} (word : List ℕ) (item : ℤ) (r : Result ℕ E) → word ≡ signed_decimal item
    → FitsSigned w64 item → OkIff r (FitsUnsignedBits 16 item) (unsigned_abs item)
    → MatchOption (result_ok r) ((n : ℕ) → n < 2 ^ 16 → word ≡ decimal n → ⊥) (λ n. word ≡ decimal n)
number_read word (pos m) (Ok x) e fits iff = e ∙ ap decimal (sym iff.1)
number_read word (negsuc m) (Ok x) e fits iff = absurd iff.0
number_read word item (Err x) e fits iff =
    λ n small f.
    let same : item ≡ pos n = same_item item (pos n) fits (omega (arith, ints)) (sym e ∙ f) in
    iff (subst (FitsUnsignedBits 16) (sym same) small)

-- the same of a number of 32 bits
pub large_number_read : {E : Type 0} (word : List ℕ) (item : ℤ) (r : Result ℕ E) → word ≡ signed_decimal item
    → FitsSigned w64 item → OkIff r (FitsUnsignedBits 32 item) (unsigned_abs item)
    → MatchOption (result_ok r) ((n : ℕ) → n < 2 ^ 32 → word ≡ decimal n → ⊥) (λ n. word ≡ decimal n)
large_number_read word (pos m) (Ok x) e fits iff = e ∙ ap decimal (sym iff.1)
large_number_read word (negsuc m) (Ok x) e fits iff = absurd iff.0
large_number_read word item (Err x) e fits iff =
    λ n small f.
    let same : item ≡ pos n = same_item item (pos n) fits (omega (arith, ints)) (sym e ∙ f) in
    iff (subst (FitsUnsignedBits 32) (sym same) small)
