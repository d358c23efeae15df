-- Reading a few decimal digits, one after the other.
use Rattle.kpn_text_tokens.proofs.Common.{◌≡◌, ℕ, ◌+◌, ◌-◌, ◌*◌, ◌<◌, ◌≤◌, ◌^◌, List, length, get_or, take, ap, ◌∙◌, arith, IsInRange, AllDigits, digits_value, digit_value_digit, digit_at, digits_value-take-le, MAX_DIGITS}
use Rattle.std.proofs.Math.Nat.{pow-le-pow_right}
use Rattle.std.proofs.lemmas.Int.Digits.{digits_value_more, digits_value-lt}

-- a value of at most 19 digits
digits_value_small : (ds : List ℕ) → AllDigits 10 ds → length ds ≤ MAX_DIGITS → digits_value 10 ds < 10 ^ 19
digits_value_small ds digits few =
    let ten : 0 < 10 = omega arith in
    let bound : 10 ^ length ds ≤ 10 ^ 19 = pow-le-pow_right ten few in
    omega (arith, digits_value-lt 10 ds digits, bound)

-- the digit at i, and what it makes of the value before it
pub record ReadsDigit (ds : List ℕ) (i : ℕ) : Type 0 where
  pub digit : 48 ≤ get_or ds i 0
  pub more : digits_value 10 (take (i + 1) ds) ≡ digits_value 10 (take i ds) * 10 + (get_or ds i 0 - 48)
  pub small : digits_value 10 (take (i + 1) ds) < 10 ^ 19

pub reads_digit : (ds : List ℕ) (i : ℕ) → AllDigits 10 ds → length ds ≤ MAX_DIGITS → i < length ds → ReadsDigit ds i
reads_digit ds i digits few within =
    let range : IsInRange 48 57 (get_or ds i 0) = digit_at ds i digits within in
    let value = digit_value_digit (get_or ds i 0) range in
    record {
      digit = omega arith;
      more = digits_value_more 10 ds i within ∙ ap (λ d. digits_value 10 (take i ds) * 10 + d) (omega arith);
      small = omega (arith, digits_value-take-le 10 ds (i + 1) (omega arith), digits_value_small ds digits few);
    }
