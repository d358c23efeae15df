-- Decimal digits as the code reads them, and the number that they write.
use Rattle.kpn_text_items.proofs.Common.{◌≡◌, ℕ, zero, suc, ◌+◌, ◌-◌, ◌*◌, ◌^◌, ◌<◌, ◌≤◌, true, false, List, [], ◌∷◌, length, get_or, take, length-take, arith, lit<, AllDigits, digits_value, nat_tests, MAX_DIGITS}
use Rattle.std.specs.Char.{is_ascii_digit, digit_value}
use Rattle.std.proofs.Math.Nat.{pow-le-pow_right}
use Rattle.std.proofs.lemmas.Int.Digits.{digits_more, digits_value_more, digits_value-lt}

-- a byte that passes the test is a digit
pub digit-passes : (b : ℕ) → is_ascii_digit b ≡ true → (digit_value b < 10) × (digit_value b ≡ b - 48)
digit-passes b h = (grind (arith, nat_tests), grind (arith, nat_tests))

-- and one that fails it is none
pub digit-fails : (b : ℕ) → is_ascii_digit b ≡ false → digit_value b < 10 → ⊥
digit-fails b h k = grind (arith, nat_tests)

-- each of some digits is one
pub AllDigits-at : (ds : List ℕ) (i : ℕ) → AllDigits 10 ds → i < length ds → digit_value (get_or ds i 0) < 10
AllDigits-at [] i all inside = absurd (omega arith)
AllDigits-at (d ∷ ds) zero all inside = all.0
AllDigits-at (d ∷ ds) (suc i) all inside = AllDigits-at ds i all.1 (omega arith)

-- the number that at most 18 digits write
pub digits_value-small : (ds : List ℕ) (i : ℕ) → i < length ds → length ds ≤ MAX_DIGITS → AllDigits 10 (take i ds)
    → digits_value 10 (take i ds) < 10 ^ 18
digits_value-small ds i inside short all =
    let few : length (take i ds) ≤ 18 = omega (arith, length-take i ds) in
    omega (arith, digits_value-lt 10 (take i ds) all, pow-le-pow_right {n = 10} (lit< tt) few)

-- one digit more
pub digits-step : (ds : List ℕ) (i number digit : ℕ) → i < length ds → AllDigits 10 (take i ds)
    × (number ≡ digits_value 10 (take i ds)) → is_ascii_digit (get_or ds i 0) ≡ true → digit ≡ get_or ds i 0 - 48
    → AllDigits 10 (take (i + 1) ds) × (number * 10 + digit ≡ digits_value 10 (take (i + 1) ds))
digits-step ds i number digit inside so_far passes is =
    let read = digit-passes (get_or ds i 0) passes in
    (digits_more 10 ds i inside so_far.0 read.0, omega (arith, digits_value_more 10 ds i inside, read.1, so_far.1))
