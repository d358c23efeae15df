-- Floats of 32 bits, as IEEE 754 has them, and the items that they write: an item n is the float n / 2^power.
use Rattle.std.specs.Prelude.{ℕ, ◌+◌, ◌*◌, ◌/◌, ◌%◌, ◌^◌, ◌-◌, max, min, Bool, true, false, nat_eq, nat_lt, nat_le, if◌then◌else◌, ℤ, pos, neg_ℤ, int_lt, unsigned_abs, Option, Some, None}
use Rattle.std.specs.Int.{w64, leading_zeros}

-- a / b, rounded to the nearest number, and to the even one of two that are nearest
abbrev pub rounded : (a b : ℕ) → ℕ
rounded a b =
    a / b + (if nat_lt b (2 * (a % b)) then 1 else (if nat_eq (2 * (a % b)) b then a / b % 2 else 0))

-- ---- reading

-- the significand and the exponent of a float with these bits: its size is significand * 2 ^ exponent / 2 ^ 150
abbrev pub significand_of : (exponent fraction : ℕ) → ℕ
significand_of exponent fraction = if nat_eq exponent 0 then fraction else fraction + 2 ^ 23

-- the size of the float, times 2^power
abbrev pub size_of : (power exponent fraction : ℕ) → ℕ
size_of power exponent fraction =
    rounded (significand_of exponent fraction * 2 ^ (max exponent 1 + power)) (2 ^ 150)

-- a number of this size, if it has 64 bits
abbrev pub with_sign : (is_negative : Bool) → (size : ℕ) → Option ℤ
with_sign true size = if nat_le size (2 ^ 63) then Some (neg_ℤ (pos size)) else None
with_sign false size = if nat_lt size (2 ^ 63) then Some (pos size) else None

-- the item that a float with these bits writes: none is written by infinity, by what is no number, and by what 64 bits
-- can't hold. A power above 62 counts as 62.
abbrev pub float_item : (power bits : ℕ) → Option ℤ
float_item power bits =
    if nat_eq (bits / 2 ^ 23 % 2 ^ 8) 255 then None
    else with_sign (nat_le (2 ^ 31) bits) (size_of (min power 62) (bits / 2 ^ 23 % 2 ^ 8) (bits % 2 ^ 23))

-- ---- writing

-- the place of the highest bit of a number that is not 0
abbrev pub highest_bit : ℕ → ℕ
highest_bit size = 63 - leading_zeros w64 size

-- the bits of size / 2^power, rounded to 24 places: the exponent, and the significand, which begins with a 1
abbrev pub size_bits : (power size : ℕ) → ℕ
size_bits power size =
    if nat_eq size 0 then 0
    else (highest_bit size + 126 - power) * 2 ^ 23 + rounded (size * 2 ^ 23) (2 ^ highest_bit size)

-- the bits of the float that writes an item
abbrev pub float_bits : (power : ℕ) → ℤ → ℕ
float_bits power item =
    (if int_lt item (pos 0) then 2 ^ 31 else 0) + size_bits (min power 62) (unsigned_abs item)
