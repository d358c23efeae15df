-- A sample that was written for an item that it writes exactly is read again as this item.
use Rattle.std.proofs.Common.{◌≡◌, ℕ, zero, suc, ◌+◌, ◌*◌, ◌%◌, ◌-◌, ◌^◌, ◌<◌, ◌≤◌, refl, ap, ◌∙◌, arith, List, ◌++◌, w64, Some}
use Rattle.std.specs.Prelude.{ℤ, pos, negsuc, neg_ℤ, ◌-ℤ◌, ◌≤ℤ◌, if◌then◌else◌}
use Rattle.kpn_stream_devices.proofs.Common.{leb→le, lt-ltb, le-ltb, ints, pow_pos, pow-add, mod-mul-add, mod-eq_of_lt, pow-suc, low_bytes, twos_complement, little_number-reads_back, SampleFormat, U8, S8, S16, S24, S32, S64, F32, Samples, float_bits, float_item, FormatHolds, IsExact, number_bytes, sample_bytes, sample_value, signed_value}
use Rattle.kpn_stream_devices.proofs.ReadBack.{float_exact, float_short}

-- the lowest bytes of an item within the range of this many bytes
low_of : (width n : ℕ) → n < 2 ^ (8 * width) → low_bytes w64 width (pos n) ≡ n
low_of width n within = mod-eq_of_lt within

double : (width : ℕ) → 1 ≤ width → 2 ^ (8 * width) ≡ 2 * 2 ^ (8 * width - 1)
double width some =
    let next : 8 * width ≡ suc (8 * width - 1) = omega (arith, some) in
    omega (arith, ap (λ (k : ℕ). 2 ^ k) next, pow-suc 2 (8 * width - 1))

low_less : (width n : ℕ) → 1 ≤ width → width ≤ 8 → suc n ≤ 2 ^ (8 * width - 1)
    → low_bytes w64 width (negsuc n) ≡ 2 ^ (8 * width) - suc n
low_less width n some few within =
    let sum : 64 ≡ 64 - 8 * width + 8 * width = omega (arith, few) in
    let whole : 2 ^ 64 ≡ 2 ^ (64 - 8 * width) * 2 ^ (8 * width) =
    ap (λ (k : ℕ). 2 ^ k) sum ∙ pow-add 2 (64 - 8 * width) (8 * width) in
    let twice : 2 ^ (8 * width) ≡ 2 * 2 ^ (8 * width - 1) = double width some in
    let one : 1 ≤ 2 ^ (64 - 8 * width) = pow_pos (64 - 8 * width) in
    let split : 2 ^ 64 - suc n ≡ (2 ^ (64 - 8 * width) - 1) * 2 ^ (8 * width) + (2 ^ (8 * width) - suc n) =
    parts (2 ^ (64 - 8 * width)) (2 ^ (8 * width)) n (2 ^ 64) one (omega (arith, within, twice)) whole in
    ap (λ (k : ℕ). k % 2 ^ (8 * width)) split
    ∙ mod-mul-add (2 ^ (64 - 8 * width) - 1) (2 ^ (8 * width)) (2 ^ (8 * width) - suc n)
    (omega (arith, pow_pos (8 * width), within, twice))
  where
    parts : (a b n whole : ℕ) → 1 ≤ a → suc n ≤ b → whole ≡ a * b → whole - suc n ≡ (a - 1) * b + (b - suc n)
    parts zero b n whole some within is = absurd (omega arith)
    parts (suc a) b n whole some within is = grind (arith, is, within)

signed_of : (width n : ℕ) → n < 2 ^ (8 * width - 1) → twos_complement width n ≡ pos n
signed_of width n small =
    ap (λ b. if b then pos n else pos n -ℤ pos (2 ^ (8 * width))) (lt-ltb n (2 ^ (8 * width - 1)) small)

signed_less : (width n : ℕ) → 1 ≤ width → suc n ≤ 2 ^ (8 * width - 1)
    → twos_complement width (2 ^ (8 * width) - suc n) ≡ negsuc n
signed_less width n some within =
    let twice : 2 ^ (8 * width) ≡ 2 * 2 ^ (8 * width - 1) = double width some in
    ap (λ b. if b then pos (2 ^ (8 * width) - suc n) else pos (2 ^ (8 * width) - suc n) -ℤ pos (2 ^ (8 * width)))
    (le-ltb (2 ^ (8 * width) - suc n) (2 ^ (8 * width - 1)) (omega (arith, within, twice)))
    ∙ less (2 ^ (8 * width)) n (omega (arith, within, twice))
  where
    less : (whole n : ℕ) → suc n ≤ whole → pos (whole - suc n) -ℤ pos whole ≡ negsuc n
    less whole n within = omega (arith, ints, within)

-- ---- two's complement

-- the size of an item is below this half, or it is the negative half
abbrev IsWithin : (half : ℕ) → ℤ → Type 0
IsWithin half (pos n) = n < half
IsWithin half (negsuc n) = suc n ≤ half

within : (most : ℕ) (item : ℤ) → neg_ℤ (pos (suc most)) ≤ℤ item → item ≤ℤ pos most → IsWithin (suc most) item
within most (pos n) least greatest = omega (arith, leb→le n most greatest.le)
within most (negsuc n) least greatest = omega (arith, leb→le n most least.le)

signed_back : (width : ℕ) (item : ℤ) (more : List ℕ) → 1 ≤ width → width ≤ 8 → 256 ^ width ≡ 2 ^ (8 * width)
    → IsWithin (2 ^ (8 * width - 1)) item → signed_value width (number_bytes width item ++ more) ≡ item
signed_back width (pos n) more some few all within =
    let twice : 2 ^ (8 * width) ≡ 2 * 2 ^ (8 * width - 1) = double width some in
    let low = low_of width n (omega (arith, within, twice)) in
    ap (twos_complement width)
    (little_number-reads_back width (low_bytes w64 width (pos n)) more (omega (arith, low, all, within, twice)) ∙ low)
    ∙ signed_of width n within
signed_back width (negsuc n) more some few all within =
    let low = low_less width n some few within in
    ap (twos_complement width)
    (little_number-reads_back width (low_bytes w64 width (negsuc n)) more (omega (arith, low, all, pow_pos (8 * width)))
    ∙ low)
    ∙ signed_less width n some within

-- ---- each sample

plain_back : (item : ℤ) (more : List ℕ) → FormatHolds (Samples U8) item
    → sample_value U8 (sample_bytes U8 item ++ more) ≡ Some item
plain_back (pos n) more has =
    let small : n ≤ 2 ^ 8 - 1 = leb→le n (2 ^ 8 - 1) has.1.le in
    let low = low_of 1 n (omega (arith, small)) in
    ap (λ (k : ℕ). Some (pos k))
    (little_number-reads_back 1 (low_bytes w64 1 (pos n)) more (omega (arith, low, small)) ∙ low)
plain_back (negsuc n) more has = absurd has.0.le

float_back : (power : ℕ) (item : ℤ) (more : List ℕ) → IsExact (F32 power) item
    → sample_value (F32 power) (sample_bytes (F32 power) item ++ more) ≡ Some item
float_back power item more few =
    let short = float_short power item few in
    let low = low_of 4 (float_bits power item) short in
    ap (float_item power)
    (little_number-reads_back 4 (low_bytes w64 4 (pos (float_bits power item))) more (omega (arith, low, short)) ∙ low)
    ∙ float_exact power item few

pub sample_back : (sample : SampleFormat) (item : ℤ) (more : List ℕ) → FormatHolds (Samples sample) item
    → IsExact sample item → sample_value sample (sample_bytes sample item ++ more) ≡ Some item
sample_back U8 item more has exact = plain_back item more has
sample_back S8 item more has exact =
    ap Some (signed_back 1 item more (omega arith) (omega arith) refl (within (2 ^ 7 - 1) item has.0 has.1))
sample_back S16 item more has exact =
    ap Some (signed_back 2 item more (omega arith) (omega arith) refl (within (2 ^ 15 - 1) item has.0 has.1))
sample_back S24 item more has exact =
    ap Some (signed_back 3 item more (omega arith) (omega arith) refl (within (2 ^ 23 - 1) item has.0 has.1))
sample_back S32 item more has exact =
    ap Some (signed_back 4 item more (omega arith) (omega arith) refl (within (2 ^ 31 - 1) item has.0 has.1))
sample_back S64 item more has exact =
    ap Some (signed_back 8 item more (omega arith) (omega arith) refl (within (2 ^ 63 - 1) item has.0 has.1))
sample_back (F32 power) item more has exact = float_back power item more exact
