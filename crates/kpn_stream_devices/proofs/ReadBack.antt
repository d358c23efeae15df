-- A float that was written for an item that fits is read again.
use Rattle.std.proofs.Common.{◌≡◌, ℕ, suc, ◌+◌, ◌*◌, ◌/◌, ◌%◌, ◌-◌, ◌^◌, ◌<◌, ◌≤◌, false, true, nat_eq, nat_lt, nat_le, refl, sym, ap, ◌∙◌, subst, inl, inr, arith, max, min}
use Rattle.std.specs.Prelude.{unsigned_abs, Bool, Option, Some, None, ℤ, pos, negsuc, neg_ℤ, int_lt, IsSome, if◌then◌else◌}
use Rattle.kpn_stream_devices.proofs.Common.{count_leading_zeros, leb→le, cases_lt, cases_eq, lt-ltb, eq-eqb, pow-add, le-div, pow_pos, pow-le-pow_right, mul-le-mul, mul_assoc, div-le_self, rounded, significand_of, size_of, with_sign, float_item, size_bits, float_bits, FormatHolds, F32, Samples}
use Rattle.kpn_stream_devices.proofs.Rounding.{whole_units, small_is, adds_few, adds_none, scaled, scaled_up, scaled_down, size_is, highest_is, significand_fits}

not_equal : (a b : ℕ) → (a ≡ b → ⊥) → nat_eq a b ≡ false
not_equal a b differ = grind arith

-- ---- the bits of a float

-- the exponent and the fraction in the bits of a size, whose significand begins with a 1
exponent_in : (e significand : ℕ) → e < 200 → 2 ^ 23 ≤ significand → significand < 2 ^ 24
    → (e * 2 ^ 23 + significand) / 2 ^ 23 % 2 ^ 8 ≡ e + 1
exponent_in e significand low some few = omega (arith, low, some, few)

fraction_in : (e significand : ℕ) → 2 ^ 23 ≤ significand → significand < 2 ^ 24
    → (e * 2 ^ 23 + significand) % 2 ^ 23 + 2 ^ 23 ≡ significand
fraction_in e significand some few = omega (arith, some, few)

-- and of one whose significand was rounded up to the next power of two
exponent_up : (e : ℕ) → e < 200 → (e * 2 ^ 23 + 2 ^ 24) / 2 ^ 23 % 2 ^ 8 ≡ e + 2
exponent_up e low = omega (arith, low)

fraction_up : (e : ℕ) → (e * 2 ^ 23 + 2 ^ 24) % 2 ^ 23 ≡ 0
fraction_up e = omega arith

-- ---- how large it is

rounded_few : (a b : ℕ) → rounded a b ≤ a + 1
rounded_few a b = omega (arith, div-le_self a b, adds_few b (a % b) (a / b))

-- so it is below 2^62 if its highest bit is
low_fits : (significand highest : ℕ) → significand ≤ 2 ^ 24 → highest < 62
    → scaled significand (highest + 127) < 2 ^ 63
low_fits significand highest few low = elim (cases_lt (highest + 127) 150) [
  | inl small ↦
      omega (arith, few, scaled_down significand (highest + 127) small, rounded_few significand (2 ^ (150 - (highest + 127))))
  | inr large ↦
      let power : 2 ^ (highest + 127 - 150) ≤ 2 ^ 38 =
      pow-le-pow_right {n = 2} (omega arith) {i = highest + 127 - 150} {j = 38} (omega (arith, low)) in
      let product : significand * 2 ^ (highest + 127 - 150) ≤ 2 ^ 24 * 2 ^ 38 = mul-le-mul few power in
      omega (arith, product, scaled_up significand (highest + 127) large)
]

-- the significand of what is nearer to a number below 2^63
below_top : (size : ℕ) → size ≤ 2 ^ 63 - 2 ^ 38 - 1 → rounded (size * 2 ^ 23) (2 ^ 62) ≤ 2 ^ 24 - 1
below_top size small = elim (cases_lt (size * 2 ^ 23 / 2 ^ 62) (2 ^ 24 - 1)) [
  | inl less ↦
      omega (arith, less, adds_few (2 ^ 62) ((size * 2 ^ 23) % 2 ^ 62) (size * 2 ^ 23 / 2 ^ 62))
  | inr least ↦
      let rest : 2 * ((size * 2 ^ 23) % 2 ^ 62) < 2 ^ 62 = omega (arith, small, least) in
      let whole : size * 2 ^ 23 / 2 ^ 62 ≤ 2 ^ 24 - 1 = omega (arith, small) in
      omega (arith, whole, adds_none (2 ^ 62) ((size * 2 ^ 23) % 2 ^ 62) (size * 2 ^ 23 / 2 ^ 62) rest)
]

-- what is read of a size with this highest bit
abbrev read_of : (size highest : ℕ) → ℕ
read_of size highest = scaled (rounded (size * 2 ^ 23) (2 ^ highest)) (highest + 127)

record Fits (size value : ℕ) : Type 0 where
  most : value ≤ 2 ^ 63
  less : size ≤ 2 ^ 63 - 2 ^ 38 - 1 → value < 2 ^ 63
  exact : size < 2 ^ 24 → value ≡ size

top_fits : (size : ℕ) → 2 ^ 62 ≤ size → size < 2 ^ 62 * 2 → Fits size (read_of size 62)
top_fits size some below =
    let is = scaled_up (rounded (size * 2 ^ 23) (2 ^ 62)) 189 (omega arith) in
    record {
      most = omega (arith, is, significand_fits size 62 below);
      less = λ small. omega (arith, is, below_top size small);
      exact = λ few. absurd (omega (arith, few, some));
    }

-- a number of 24 places or fewer is not rounded
exact_at : (size highest : ℕ) → highest < 24 → read_of size highest ≡ size
exact_at size highest few =
    let sum : 23 ≡ 23 - highest + highest = omega (arith, few) in
    let power : 2 ^ 23 ≡ 2 ^ (23 - highest) * 2 ^ highest =
    ap (λ (n : ℕ). 2 ^ n) sum ∙ pow-add 2 (23 - highest) highest in
    let whole : size * 2 ^ 23 ≡ size * 2 ^ (23 - highest) * 2 ^ highest =
    ap (λ (n : ℕ). size * n) power ∙ sym (mul_assoc size (2 ^ (23 - highest)) (2 ^ highest)) in
    let significand : rounded (size * 2 ^ 23) (2 ^ highest) ≡ size * 2 ^ (23 - highest) =
    ap (λ (n : ℕ). rounded n (2 ^ highest)) whole ∙ whole_units (size * 2 ^ (23 - highest)) highest in
    let places : 23 - highest + (highest + 127) ≡ 150 = omega (arith, few) in
    let all : 2 ^ (23 - highest) * 2 ^ (highest + 127) ≡ 2 ^ 150 =
    sym (pow-add 2 (23 - highest) (highest + 127)) ∙ ap (λ (n : ℕ). 2 ^ n) places in
    let scale : size * 2 ^ (23 - highest) * 2 ^ (highest + 127) ≡ size * 2 ^ 150 =
    mul_assoc size (2 ^ (23 - highest)) (2 ^ (highest + 127)) ∙ ap (λ (n : ℕ). size * n) all in
    ap (λ (n : ℕ). scaled n (highest + 127)) significand ∙ ap (λ (n : ℕ). rounded n (2 ^ 150)) scale
    ∙ whole_units size 150

few_places : (size highest : ℕ) → 2 ^ highest ≤ size → size < 2 ^ 24 → highest < 24
few_places size highest some few = elim (cases_lt highest 24) [
  | inl low ↦ low
  | inr high ↦
      let power : 2 ^ 24 ≤ 2 ^ highest = pow-le-pow_right {n = 2} (omega arith) {i = 24} {j = highest} high in
      absurd (omega (arith, power, some, few))
]

fits_at : (size highest : ℕ) → 2 ^ highest ≤ size → size < 2 ^ highest * 2 → highest < 64 → size ≤ 2 ^ 63
    → Fits size (read_of size highest)
fits_at size highest some below within all = elim (cases_lt highest 62) [
  | inl low ↦
      let less = low_fits (rounded (size * 2 ^ 23) (2 ^ highest)) highest (significand_fits size highest below) low in
      record {
        most = omega (arith, less);
        less = λ small. less;
        exact = λ few. exact_at size highest (few_places size highest some few);
      }
  | inr high ↦ elim (cases_eq highest 62) [
    | inl top ↦
        subst (λ (h : ℕ). Fits size (read_of size h)) (sym top)
        (top_fits size (subst (λ (h : ℕ). 2 ^ h ≤ size) top some) (subst (λ (h : ℕ). size < 2 ^ h * 2) top below))
    | inr other ↦
        let last : highest ≡ 63 = omega (arith, high, other, within) in
        let least : 2 ^ 63 ≤ size = subst (λ (h : ℕ). 2 ^ h ≤ size) last some in
        let whole : size ≡ 2 ^ 63 = omega (arith, least, all) in
        let value : read_of size highest ≡ 2 ^ 63 =
        ap (λ (h : ℕ). read_of size h) last ∙ ap (λ (n : ℕ). read_of n 63) whole in
        record {
          most = omega (arith, value);
          less = λ small. absurd (omega (arith, small, whole));
          exact = λ few. absurd (omega (arith, few, whole));
        }
  ]
]

-- ---- a size is read as it was rounded

-- twice the significand is the next scale
doubled : (scale : ℕ) → scaled (2 ^ 23) (scale + 1) ≡ scaled (2 ^ 24) scale
doubled scale =
    let power : 2 ^ (scale + 1) ≡ 2 ^ scale * 2 ^ 1 = pow-add 2 scale 1 in
    ap (λ (n : ℕ). rounded n (2 ^ 150)) (omega (arith, power))

module _ (power size highest : ℕ) (low : power ≤ 62) (within : highest < 64) where
  abbrev significand : ℕ
  significand = rounded (size * 2 ^ 23) (2 ^ highest)

  abbrev exponent : ℕ
  exponent = highest + 126 - power

  abbrev bits : ℕ
  bits = exponent * 2 ^ 23 + significand

  -- the bits are those of a number, which is what was rounded
  record Reads : Type 0 where
    short : bits < 2 ^ 31
    number : nat_eq (bits / 2 ^ 23 % 2 ^ 8) 255 ≡ false
    value : size_of power (bits / 2 ^ 23 % 2 ^ 8) (bits % 2 ^ 23) ≡ read_of size highest

  reads_whole : 2 ^ 23 ≤ significand → significand < 2 ^ 24 → Reads
  reads_whole some few =
      let exponent_is = exponent_in exponent significand (omega (arith, within)) some few in
      record {
        short = omega (arith, within, few);
        number = not_equal (bits / 2 ^ 23 % 2 ^ 8) 255 (λ e. omega (arith, e, exponent_is, within));
        value =
            sym (size_is power (bits / 2 ^ 23 % 2 ^ 8) (bits % 2 ^ 23) significand (highest + 127)
            (λ e. omega (arith, e, exponent_is)) (sym (fraction_in exponent significand some few))
            (omega (arith, exponent_is, low)));
      }

  reads_up : significand ≡ 2 ^ 24 → Reads
  reads_up is =
      let exponent_is : bits / 2 ^ 23 % 2 ^ 8 ≡ exponent + 2 =
      ap (λ (n : ℕ). (exponent * 2 ^ 23 + n) / 2 ^ 23 % 2 ^ 8) is ∙ exponent_up exponent (omega (arith, within)) in
      let fraction_is : bits % 2 ^ 23 ≡ 0 =
      ap (λ (n : ℕ). (exponent * 2 ^ 23 + n) % 2 ^ 23) is ∙ fraction_up exponent in
      record {
        short = omega (arith, within, is);
        number = not_equal (bits / 2 ^ 23 % 2 ^ 8) 255 (λ e. omega (arith, e, exponent_is, within));
        value =
            sym (size_is power (bits / 2 ^ 23 % 2 ^ 8) (bits % 2 ^ 23) (2 ^ 23) (highest + 127 + 1)
            (λ e. omega (arith, e, exponent_is)) (omega (arith, fraction_is))
            (omega (arith, exponent_is, low)))
            ∙ doubled (highest + 127) ∙ ap (λ (n : ℕ). scaled n (highest + 127)) (sym is);
      }

  reads : 2 ^ highest ≤ size → size < 2 ^ highest * 2 → Reads
  reads some below =
      let product : 2 ^ 23 * 2 ^ highest ≤ size * 2 ^ 23 = omega (arith, some) in
      let least : 2 ^ 23 ≤ size * 2 ^ 23 / 2 ^ highest =
      le-div (2 ^ 23) (size * 2 ^ 23) (2 ^ highest) (pow_pos highest) product in
      let most = significand_fits size highest below in
      elim (cases_eq significand (2 ^ 24)) [
        | inl is ↦ reads_up is
        | inr other ↦ reads_whole (omega (arith, least)) (omega (arith, most, other))
      ]

-- ---- the whole

record IsRead (power size : ℕ) : Type 0 where
  short : size_bits power size < 2 ^ 31
  number : nat_eq (size_bits power size / 2 ^ 23 % 2 ^ 8) 255 ≡ false
  fits : Fits size (size_of power (size_bits power size / 2 ^ 23 % 2 ^ 8) (size_bits power size % 2 ^ 23))

read_none : (power : ℕ) → power ≤ 62 → IsRead power 0
read_none power low =
    let none = small_is power 0 0 low (omega arith) refl in
    record {
      short = omega arith;
      number = refl;
      fits = record { most = omega (arith, none); less = λ small. omega (arith, none); exact = λ few. sym none };
    }

read_some : (power size : ℕ) → power ≤ 62 → (size ≡ 0 → ⊥) → size ≤ 2 ^ 63 → IsRead power size
read_some power size low some all =
    let top = highest_is size (omega (arith, some)) (omega (arith, all)) in
    let highest : ℕ = 63 - count_leading_zeros 64 size in
    let is : size_bits power size ≡ bits power size highest low top.2 =
    ap (λ b. if b then 0 else bits power size highest low top.2) (not_equal size 0 some) in
    let found = reads power size highest low top.2 top.0 top.1 in
    record {
      short = subst (λ (b : ℕ). b < 2 ^ 31) (sym is) found.short;
      number = subst (λ (b : ℕ). nat_eq (b / 2 ^ 23 % 2 ^ 8) 255 ≡ false) (sym is) found.number;
      fits =
          subst (λ (b : ℕ). Fits size (size_of power (b / 2 ^ 23 % 2 ^ 8) (b % 2 ^ 23))) (sym is)
          (subst (λ (v : ℕ). Fits size v) (sym found.value) (fits_at size highest top.0 top.1 top.2 all));
    }

is_read : (power size : ℕ) → power ≤ 62 → size ≤ 2 ^ 63 → IsRead power size
is_read power size low all = elim (cases_eq size 0) [
  | inl none ↦ subst (λ (n : ℕ). IsRead power n) (sym none) (read_none power low)
  | inr some ↦ read_some power size low some all
]

item_of : (power bits : ℕ) (negative : Bool) → nat_eq (bits / 2 ^ 23 % 2 ^ 8) 255 ≡ false
    → nat_le (2 ^ 31) bits ≡ negative
    → float_item power bits
    ≡ with_sign negative (size_of (min power 62) (bits / 2 ^ 23 % 2 ^ 8) (bits % 2 ^ 23))
item_of power bits negative number sign =
    ap (λ b. if b then None
    else with_sign (nat_le (2 ^ 31) bits) (size_of (min power 62) (bits / 2 ^ 23 % 2 ^ 8) (bits % 2 ^ 23))) number
    ∙ ap (λ b. with_sign b (size_of (min power 62) (bits / 2 ^ 23 % 2 ^ 8) (bits % 2 ^ 23))) sign

has_positive : (size : ℕ) → size < 2 ^ 63 → IsSome (with_sign false size)
has_positive size less =
    subst (λ (x : Option ℤ). IsSome x) (sym (ap (λ b. if b then Some (pos size) else None) (lt-ltb size (2 ^ 63) less))) refl

has_negative : (size : ℕ) → size ≤ 2 ^ 63 → IsSome (with_sign true size)
has_negative size most =
    subst (λ (x : Option ℤ). IsSome x)
    (sym (ap (λ b. if b then Some (neg_ℤ (pos size)) else None) (le_true size (2 ^ 63) most))) refl
  where
    le_true : (a b : ℕ) → a ≤ b → nat_le a b ≡ true
    le_true a b less = grind arith

-- the sign does not change the exponent and the fraction
below_sign : (b : ℕ) → b < 2 ^ 31 → ((2 ^ 31 + b) / 2 ^ 23 % 2 ^ 8 ≡ b / 2 ^ 23 % 2 ^ 8) × ((2 ^ 31 + b) % 2 ^ 23 ≡ b % 2 ^ 23)
below_sign b short = (omega (arith, short), omega (arith, short))

-- what is read of the bits of a size, by its sign
record IsSigned (size : ℕ) (negative : Bool) (item : Option ℤ) : Type 0 where
  value : ℕ
  is : item ≡ with_sign negative value
  fits : Fits size value

positive_read : (power size : ℕ) → size ≤ 2 ^ 63 → IsSigned size false (float_item power (size_bits (min power 62) size))
positive_read power size all =
    let p : ℕ = min power 62 in
    let read = is_read p size (omega arith) all in
    let b : ℕ = size_bits p size in
    record {
      value = size_of p (b / 2 ^ 23 % 2 ^ 8) (b % 2 ^ 23);
      is = item_of power b false read.number (le_false (2 ^ 31) b read.short);
      fits = read.fits;
    }
  where
    le_false : (a b : ℕ) → b < a → nat_le a b ≡ false
    le_false a b less = grind arith

negative_read : (power size : ℕ) → size ≤ 2 ^ 63
    → IsSigned size true (float_item power (2 ^ 31 + size_bits (min power 62) size))
negative_read power size all =
    let p : ℕ = min power 62 in
    let read = is_read p size (omega arith) all in
    let b : ℕ = size_bits p size in
    let same = below_sign b read.short in
    let number : nat_eq ((2 ^ 31 + b) / 2 ^ 23 % 2 ^ 8) 255 ≡ false = ap (λ (n : ℕ). nat_eq n 255) same.0 ∙ read.number in
    let value : size_of p ((2 ^ 31 + b) / 2 ^ 23 % 2 ^ 8) ((2 ^ 31 + b) % 2 ^ 23) ≡ size_of p (b / 2 ^ 23 % 2 ^ 8) (b % 2 ^ 23) =
    ap (λ (n : ℕ). size_of p n ((2 ^ 31 + b) % 2 ^ 23)) same.0 ∙ ap (size_of p (b / 2 ^ 23 % 2 ^ 8)) same.1 in
    record {
      value = size_of p (b / 2 ^ 23 % 2 ^ 8) (b % 2 ^ 23);
      is =
          item_of power (2 ^ 31 + b) true number (le_true (2 ^ 31) (2 ^ 31 + b) (omega arith))
          ∙ ap (with_sign true) value;
      fits = read.fits;
    }
  where
    le_true : (a b : ℕ) → a ≤ b → nat_le a b ≡ true
    le_true a b less = grind arith

-- the bits of an item
bits_positive : (power n : ℕ) → float_bits power (pos n) ≡ size_bits (min power 62) n
bits_positive power n =
    ap (λ b. (if b then 2 ^ 31 else 0) + size_bits (min power 62) n) (not_negative n)
    ∙ plain (size_bits (min power 62) n)
  where
    not_negative : (n : ℕ) → int_lt (pos n) (pos 0) ≡ false
    not_negative n = grind arith

    plain : (m : ℕ) → 0 + m ≡ m
    plain m = omega arith

pub float_reads : (power : ℕ) (item : ℤ) → FormatHolds (Samples (F32 power)) item
    → IsSome (float_item power (float_bits power item))
float_reads power (pos n) has =
    let small : n ≤ 2 ^ 63 - 2 ^ 38 - 1 = leb→le n (2 ^ 63 - 2 ^ 38 - 1) has.1.le in
    let read = positive_read power n (omega (arith, small)) in
    subst (λ (b : ℕ). IsSome (float_item power b)) (sym (bits_positive power n))
    (subst (λ (x : Option ℤ). IsSome x) (sym read.is) (has_positive read.value (read.fits.less small)))
float_reads power (negsuc n) has =
    let read = negative_read power (suc n) (omega (arith, leb→le n (2 ^ 63 - 1) has.0.le)) in
    subst (λ (x : Option ℤ). IsSome x) (sym read.is) (has_negative read.value read.fits.most)

-- and as the same item if its size has 24 places or fewer
pub float_exact : (power : ℕ) (item : ℤ) → unsigned_abs item < 2 ^ 24
    → float_item power (float_bits power item) ≡ Some item
float_exact power (pos n) few =
    let read = positive_read power n (omega (arith, few)) in
    ap (float_item power) (bits_positive power n) ∙ read.is ∙ ap (with_sign false) (read.fits.exact few)
    ∙ ap (λ b. if b then Some (pos n) else None) (lt-ltb n (2 ^ 63) (omega (arith, few)))
float_exact power (negsuc n) few =
    let read = negative_read power (suc n) (omega (arith, few)) in
    read.is ∙ ap (with_sign true) (read.fits.exact few)
    ∙ ap (λ b. if b then Some (negsuc n) else None) (le_true (suc n) (2 ^ 63) (omega (arith, few)))
  where
    le_true : (a b : ℕ) → a ≤ b → nat_le a b ≡ true
    le_true a b less = grind arith

-- the bits are 32
pub float_short : (power : ℕ) (item : ℤ) → unsigned_abs item < 2 ^ 24 → float_bits power item < 2 ^ 32
float_short power (pos n) few =
    let read = is_read (min power 62) n (omega arith) (omega (arith, few)) in
    subst (λ (b : ℕ). b < 2 ^ 32) (sym (bits_positive power n)) (omega (arith, read.short))
float_short power (negsuc n) few =
    let read = is_read (min power 62) (suc n) (omega arith) (omega (arith, few)) in
    omega (arith, read.short)
