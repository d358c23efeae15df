-- Rounding, and powers of two.
use Rattle.std.proofs.Common.{◌≡◌, ℕ, zero, suc, ◌+◌, ◌*◌, ◌/◌, ◌%◌, ◌-◌, ◌^◌, ◌<◌, ◌≤◌, false, nat_eq, nat_lt, refl, sym, ap, ◌∙◌, subst, inl, inr, arith, max}
use Rattle.kpn_stream_devices.proofs.Common.{if◌then◌else◌, bit_and, count_leading_zeros, cases_lt, cases_eq, lt-ltb, le-ltb, eq-eqb, pow_pos, pow-add, and_mask, one_shl, mod-mul-add, leading_top, div-add-mod, mod-lt, mul-div-mul_right, mul-lt-mul_of_pos_right, mod-eq_of_lt, div-eq_of_lt, pow-le-pow_right, div-lt_iff_lt-mul, mul-le-mul, mul_assoc, pow-suc, rounded, size_of}

-- what rounding adds to a quotient, by the rest
abbrev pub adds : (unit rest whole : ℕ) → ℕ
adds unit rest whole =
    if nat_lt unit (2 * rest) then 1 else (if nat_eq (2 * rest) unit then whole % 2 else 0)

adds_one : (unit rest whole : ℕ) → unit < 2 * rest → adds unit rest whole ≡ 1
adds_one unit rest whole more = ap (λ b. if b then 1 else (if nat_eq (2 * rest) unit then whole % 2 else 0)) (lt-ltb unit (2 * rest) more)

adds_even : (unit rest whole : ℕ) → 2 * rest ≡ unit → adds unit rest whole ≡ whole % 2
adds_even unit rest whole half =
    ap (λ b. if b then 1 else (if nat_eq (2 * rest) unit then whole % 2 else 0))
    (le-ltb unit (2 * rest) (omega (arith, half)))
    ∙ ap (λ b. if b then whole % 2 else 0) (eq-eqb (2 * rest) unit half)

not_equal : (a b : ℕ) → a < b → nat_eq a b ≡ false
not_equal a b less = grind arith

pub adds_none : (unit rest whole : ℕ) → 2 * rest < unit → adds unit rest whole ≡ 0
adds_none unit rest whole less =
    ap (λ b. if b then 1 else (if nat_eq (2 * rest) unit then whole % 2 else 0))
    (le-ltb unit (2 * rest) (omega (arith, less)))
    ∙ ap (λ b. if b then whole % 2 else 0) (not_equal (2 * rest) unit less)

-- one at most
pub adds_few : (unit rest whole : ℕ) → adds unit rest whole ≤ 1
adds_few unit rest whole = elim (cases_lt unit (2 * rest)) [
  | inl more ↦ omega (arith, adds_one unit rest whole more)
  | inr least ↦ elim (cases_eq (2 * rest) unit) [
    | inl half ↦ omega (arith, adds_even unit rest whole half)
    | inr other ↦
        let less : 2 * rest < unit = omega (arith, least, other) in
        omega (arith, adds_none unit rest whole less)
  ]
]

-- ---- a common factor changes nothing

adds_same : (unit rest whole factor : ℕ) → 0 < factor
    → adds (unit * factor) (rest * factor) whole ≡ adds unit rest whole
adds_same unit rest whole factor some = elim (cases_lt unit (2 * rest)) [
  | inl more ↦
      let large : unit * factor < 2 * rest * factor = mul-lt-mul_of_pos_right more some in
      adds_one (unit * factor) (rest * factor) whole (omega (arith, large)) ∙ sym (adds_one unit rest whole more)
  | inr least ↦ elim (cases_eq (2 * rest) unit) [
    | inl half ↦
        adds_even (unit * factor) (rest * factor) whole (omega (arith, ap (λ (n : ℕ). n * factor) half))
        ∙ sym (adds_even unit rest whole half)
    | inr other ↦
        let less : 2 * rest < unit = omega (arith, least, other) in
        let small : 2 * rest * factor < unit * factor = mul-lt-mul_of_pos_right less some in
        adds_none (unit * factor) (rest * factor) whole (omega (arith, small)) ∙ sym (adds_none unit rest whole less)
  ]
]

rest_same : (a b factor : ℕ) → 0 < b → 0 < factor → (a * factor) % (b * factor) ≡ a % b * factor
rest_same a b factor some also =
    let below : a % b * factor < b * factor = mul-lt-mul_of_pos_right (mod-lt a some) also in
    let whole : a * factor ≡ a / b * (b * factor) + a % b * factor =
    omega (arith, ap (λ (n : ℕ). n * factor) (div-add-mod a b)) in
    ap (λ (n : ℕ). n % (b * factor)) whole ∙ mod-mul-add (a / b) (b * factor) (a % b * factor) below

pub rounded_same : (a b factor : ℕ) → 0 < b → 0 < factor → rounded (a * factor) (b * factor) ≡ rounded a b
rounded_same a b factor some also =
    let whole : a * factor / (b * factor) ≡ a / b = mul-div-mul_right a b also in
    ap (λ (n : ℕ). n + adds (b * factor) ((a * factor) % (b * factor)) n) whole
    ∙ ap (λ (n : ℕ). a / b + adds (b * factor) n (a / b)) (rest_same a b factor some also)
    ∙ ap (λ (n : ℕ). a / b + n) (adds_same b (a % b) (a / b) factor also)

-- ---- the code's rest

pub unit_is : (power : ℕ) → power < 64 → 1 * 2 ^ power % 2 ^ 128 ≡ 2 ^ power
unit_is power small = one_shl power 128 (omega (arith, small))

pub rest_is : (number power unit : ℕ) → unit ≡ 2 ^ power → bit_and number (unit - 1) ≡ number % 2 ^ power
rest_is number power unit is = ap (λ (n : ℕ). bit_and number (n - 1)) is ∙ and_mask number power

pub up_is : (number power unit rest : ℕ) → unit ≡ 2 ^ power → rest ≡ number % 2 ^ power → unit < 2 * rest
    → number / 2 ^ power + 1 ≡ rounded number (2 ^ power)
up_is number power unit rest is at more =
    ap (λ (n : ℕ). number / 2 ^ power + n)
    (sym (adds_one (2 ^ power) (number % 2 ^ power) (number / 2 ^ power) (omega (arith, is, at, more))))

pub even_is : (number power unit rest : ℕ) → unit ≡ 2 ^ power → rest ≡ number % 2 ^ power → 2 * rest ≡ unit
    → number / 2 ^ power + number / 2 ^ power % 2 ≡ rounded number (2 ^ power)
even_is number power unit rest is at half =
    ap (λ (n : ℕ). number / 2 ^ power + n)
    (sym (adds_even (2 ^ power) (number % 2 ^ power) (number / 2 ^ power) (omega (arith, is, at, half))))

pub down_is : (number power unit rest : ℕ) → unit ≡ 2 ^ power → rest ≡ number % 2 ^ power → 2 * rest < unit
    → number / 2 ^ power ≡ rounded number (2 ^ power)
down_is number power unit rest is at less =
    let none : adds (2 ^ power) (number % 2 ^ power) (number / 2 ^ power) ≡ 0 =
    adds_none (2 ^ power) (number % 2 ^ power) (number / 2 ^ power) (omega (arith, is, at, less)) in
    omega (arith, none)

-- ---- sizes

abbrev pub scaled : (significand exponent : ℕ) → ℕ
scaled significand exponent = rounded (significand * 2 ^ exponent) (2 ^ 150)

by_one : (a : ℕ) → rounded a 1 ≡ a
by_one a =
    let none : adds 1 (a % 1) (a / 1) ≡ 0 = adds_none 1 (a % 1) (a / 1) (omega arith) in
    omega (arith, none)

-- a number of whole units is not rounded
pub whole_units : (a power : ℕ) → rounded (a * 2 ^ power) (2 ^ power) ≡ a
whole_units a power =
    let one : 2 ^ power ≡ 1 * 2 ^ power = omega arith in
    ap (rounded (a * 2 ^ power)) one ∙ rounded_same a 1 (2 ^ power) (omega arith) (pow_pos power) ∙ by_one a

some_exponent : (exponent : ℕ) → (exponent ≡ 0 → ⊥) → nat_eq exponent 0 ≡ false
some_exponent exponent some = grind arith

at_least_one : (exponent : ℕ) → (exponent ≡ 0 → ⊥) → max exponent 1 ≡ exponent
at_least_one zero some = absurd (some refl)
at_least_one (suc n) some = omega arith

-- the size of a float that is not too small for a whole significand
pub size_is : (power exponent fraction significand scale : ℕ) → (exponent ≡ 0 → ⊥) → significand ≡ fraction + 2 ^ 23
    → scale ≡ exponent + power → scaled significand scale ≡ size_of power exponent fraction
size_is power exponent fraction significand scale some is sum =
    ap (λ (n : ℕ). scaled n scale) is ∙ ap (scaled (fraction + 2 ^ 23)) sum
    ∙ sym (ap (λ b. rounded ((if b then fraction else fraction + 2 ^ 23) * 2 ^ (max exponent 1 + power)) (2 ^ 150))
    (some_exponent exponent some)
    ∙ ap (λ (n : ℕ). scaled (fraction + 2 ^ 23) (n + power)) (at_least_one exponent some))

-- from 2^135 on nothing is rounded
pub scaled_up : (significand exponent : ℕ) → 150 ≤ exponent
    → scaled significand exponent ≡ significand * 2 ^ (exponent - 150)
scaled_up significand exponent large =
    let sum : exponent ≡ exponent - 150 + 150 = omega (arith, large) in
    let power : 2 ^ exponent ≡ 2 ^ (exponent - 150) * 2 ^ 150 =
    ap (λ (n : ℕ). 2 ^ n) sum ∙ pow-add 2 (exponent - 150) 150 in
    let whole : significand * 2 ^ exponent ≡ significand * 2 ^ (exponent - 150) * 2 ^ 150 =
    ap (λ (n : ℕ). significand * n) power ∙ sym (mul_assoc significand (2 ^ (exponent - 150)) (2 ^ 150)) in
    ap (λ (n : ℕ). rounded n (2 ^ 150)) whole
    ∙ rounded_same (significand * 2 ^ (exponent - 150)) 1 (2 ^ 150) (omega arith) (pow_pos 150)
    ∙ by_one (significand * 2 ^ (exponent - 150))

-- below it is
pub scaled_down : (significand exponent : ℕ) → exponent < 150
    → scaled significand exponent ≡ rounded significand (2 ^ (150 - exponent))
scaled_down significand exponent small =
    let sum : 150 ≡ 150 - exponent + exponent = omega (arith, small) in
    let power : 2 ^ 150 ≡ 2 ^ (150 - exponent) * 2 ^ exponent =
    ap (λ (n : ℕ). 2 ^ n) sum ∙ pow-add 2 (150 - exponent) exponent in
    ap (λ (n : ℕ). rounded (significand * 2 ^ exponent) n) power
    ∙ rounded_same significand (2 ^ (150 - exponent)) (2 ^ exponent) (pow_pos (150 - exponent)) (pow_pos exponent)

-- and far below nothing is left
pub scaled_none : (significand exponent : ℕ) → significand < 2 ^ 24 → exponent < 124 → scaled significand exponent ≡ 0
scaled_none significand exponent few small =
    let large : 2 ^ 25 ≤ 2 ^ (150 - exponent) = pow-le-pow_right {n = 2} (omega arith) {i = 25} {j = 150 - exponent} (omega (arith, small)) in
    let below : significand < 2 ^ (150 - exponent) = omega (arith, few, large) in
    let whole : significand / 2 ^ (150 - exponent) ≡ 0 = div-eq_of_lt below in
    let rest : significand % 2 ^ (150 - exponent) ≡ significand = mod-eq_of_lt below in
    let none : adds (2 ^ (150 - exponent)) (significand % 2 ^ (150 - exponent)) (significand / 2 ^ (150 - exponent)) ≡ 0 =
    adds_none (2 ^ (150 - exponent)) (significand % 2 ^ (150 - exponent)) (significand / 2 ^ (150 - exponent)) (omega (arith, rest, few, large)) in
    scaled_down significand exponent (omega (arith, small)) ∙ omega (arith, whole, none)

-- far above it is too large
pub scaled_large : (significand exponent : ℕ) → 2 ^ 23 ≤ significand → 190 < exponent → 2 ^ 64 ≤ scaled significand exponent
scaled_large significand exponent many large =
    let power : 2 ^ 41 ≤ 2 ^ (exponent - 150) = pow-le-pow_right {n = 2} (omega arith) {i = 41} {j = exponent - 150} (omega (arith, large)) in
    let product : 2 ^ 23 * 2 ^ 41 ≤ significand * 2 ^ (exponent - 150) = mul-le-mul many power in
    omega (arith, product, scaled_up significand exponent (omega (arith, large)))

-- nor is anything left of a float that has no whole significand
pub small_is : (power exponent fraction : ℕ) → power ≤ 62 → fraction < 2 ^ 23 → exponent ≡ 0
    → 0 ≡ size_of power exponent fraction
small_is power exponent fraction low few none =
    sym (ap (λ (n : ℕ). size_of power n fraction) none
    ∙ scaled_none fraction (1 + power) (omega (arith, few)) (omega (arith, low)))

-- ---- writing

-- the highest bit of a number of 64 bits
pub highest_is : (size : ℕ) → 0 < size → size < 2 ^ 64 → (2 ^ (63 - count_leading_zeros 64 size) ≤ size)
    × (size < 2 ^ (63 - count_leading_zeros 64 size) * 2) × (63 - count_leading_zeros 64 size < 64)
highest_is size some small =
    let top = leading_top 64 size some small in
    let j : ℕ = top.0 in
    let same : 63 - count_leading_zeros 64 size ≡ j = omega (arith, top.1) in
    subst (λ (n : ℕ). (2 ^ n ≤ size) × (size < 2 ^ n * 2) × (n < 64)) (sym same)
    (top.2, omega (arith, top.3, pow-suc 2 j), omega (arith, top.1))

-- a significand of 24 places, or 2^24
pub significand_fits : (size highest : ℕ) → size < 2 ^ highest * 2 → rounded (size * 2 ^ 23) (2 ^ highest) ≤ 2 ^ 24
significand_fits size highest below =
    let large : size * 2 ^ 23 < 2 ^ highest * 2 * 2 ^ 23 = mul-lt-mul_of_pos_right below (pow_pos 23) in
    let whole : size * 2 ^ 23 / 2 ^ highest < 2 ^ 24 =
    (div-lt_iff_lt-mul {k = 2 ^ highest} {x = size * 2 ^ 23} {y = 2 ^ 24} (pow_pos highest)).1 (omega (arith, large)) in
    omega (
      arith,
      whole,
      adds_few (2 ^ highest) ((size * 2 ^ 23) % 2 ^ highest) (size * 2 ^ 23 / 2 ^ highest),
    )

-- a number of 64 bits, shifted
pub shifted_is : (number size : ℕ) → number ≡ size → size < 2 ^ 64 → number * 2 ^ 23 % 2 ^ 128 ≡ size * 2 ^ 23
shifted_is number size is small =
    mod-eq_of_lt {n = number * 2 ^ 23} {m = 2 ^ 128} (omega (arith, is, small)) ∙ ap (λ (n : ℕ). n * 2 ^ 23) is

-- a significand of 24 places, shifted
pub kept_is : (significand exponent : ℕ) → significand < 2 ^ 24 → exponent ≤ 190
    → significand * 2 ^ (exponent - 150) % 2 ^ 64 ≡ significand * 2 ^ (exponent - 150)
kept_is significand exponent few small =
    let power : 2 ^ (exponent - 150) ≤ 2 ^ 40 =
    pow-le-pow_right {n = 2} (omega arith) {i = exponent - 150} {j = 40} (omega (arith, small)) in
    let product : significand * 2 ^ (exponent - 150) ≤ (2 ^ 24 - 1) * 2 ^ 40 =
    mul-le-mul {n₁ = significand} {m₁ = 2 ^ (exponent - 150)} {n₂ = 2 ^ 24 - 1} {m₂ = 2 ^ 40} (omega (arith, few)) power in
    mod-eq_of_lt {n = significand * 2 ^ (exponent - 150)} {m = 2 ^ 64} (omega (arith, product))
