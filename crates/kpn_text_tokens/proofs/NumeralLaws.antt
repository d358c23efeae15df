-- Numbers of language 2: how great they are, how many bytes a quote takes, and what decimal digits are among them.
use Rattle.kpn_text_tokens.proofs.Common.{◌≡◌, ℕ, zero, suc, ◌+◌, ◌*◌, ◌<◌, ◌≤◌, ◌^◌, Bool, true, false, cond, ◌&&◌, List, [], ◌∷◌, ◌++◌, length, drop, eqb, nat_le, nat_lt, Option, Some, None, refl, sym, ap, ◌∙◌, subst, arith, digit_value, is_digit, is_ascii_digit, IsInRange, starts_with, list_all, AllDigits, digits_value, digits_value_after, and_from, and_parts, cond_both, cond-true, cond-false, eqb-true, false_from_ne_true, leb-true, le-leb, lt-ltb, true≢false, nat_tests, digit_from_value, MAX_NUMBER, Language, with_digit, digits_behind, digits_in, numeral_value, is_plain, escape_value, quoted_value, quoted_length, IsNumber}
use Rattle.std.specs.Option.{option_and_then}
use Rattle.std.specs.Prelude.{◌==◌, nat_eq, slice_index, codes}
use Rattle.kpn_text_tokens.specs.declared.tokens.Language.TheVariants as language

-- ---- how great a number is

some_is : (x y : ℕ) → ◌≡◌ {A = Option ℕ} (Some x) (Some y) → x ≡ y
some_is x y e = cc

digit_small : (base value b v : ℕ) → value ≤ MAX_NUMBER → with_digit base value b ≡ Some v → v ≤ MAX_NUMBER
digit_small base value b v small =
    let Q : Option ℕ → Type 0 = λ o. o ≡ Some v → v ≤ MAX_NUMBER in
    let next : ℕ = value * base + digit_value b in
    cond_both (b == 95) _ _ Q
    (λ _ e. subst (λ n. n ≤ MAX_NUMBER) (some_is value v e) small)
    (λ _. cond_both (is_digit b base && nat_le next MAX_NUMBER) (Some next) None Q
    (λ fits e. subst (λ n. n ≤ MAX_NUMBER) (some_is next v e)
    (leb-true next MAX_NUMBER (and_parts (is_digit b base) (nat_le next MAX_NUMBER) fits).1))
    (λ _ e. absurd (cc)))

-- a digit that was read, and what follows it
after_digit : (o : Option ℕ) (f : ℕ → Option ℕ) (v : ℕ) → option_and_then f o ≡ Some v
    → (n : ℕ) × (o ≡ Some n) × (f n ≡ Some v)
after_digit (Some n) f v e = (n, refl, e)
after_digit None f v e = absurd (cc)

behind_small : (base value : ℕ) (bs : List ℕ) (v : ℕ) → value ≤ MAX_NUMBER → digits_behind base value bs ≡ Some v
    → v ≤ MAX_NUMBER
behind_small base value [] v small e = subst (λ n. n ≤ MAX_NUMBER) (some_is value v e) small
behind_small base value (b ∷ bs) v small e =
    let next = after_digit (with_digit base value b) (λ n. digits_behind base n bs) v e in
    behind_small base next.0 bs v (digit_small base value b next.0 small next.1) next.2

digits_small : (base : ℕ) (bs : List ℕ) (v : ℕ) → digits_in base bs ≡ Some v → v ≤ MAX_NUMBER
digits_small base [] v = λ e. absurd (cc)
digits_small base (b ∷ bs) v =
    cond_both (b == 95) None (digits_behind base 0 (b ∷ bs)) (λ o. o ≡ Some v → v ≤ MAX_NUMBER) (λ _ e. absurd (cc))
    (λ _ e. behind_small base 0 (b ∷ bs) v (omega arith) e)

pub numeral_small : (word : List ℕ) (v : ℕ) → numeral_value word ≡ Some v → v ≤ MAX_NUMBER
numeral_small word v =
    let Q : Option ℕ → Type 0 = λ o. o ≡ Some v → v ≤ MAX_NUMBER in
    cond_both (starts_with nat_eq word (codes "0x")) _ _ Q (λ _ e. digits_small 16 (drop 2 word) v e)
    (λ _. cond_both (starts_with nat_eq word (codes "0b")) _ _ Q (λ _ e. digits_small 2 (drop 2 word) v e)
    (λ _ e. digits_small 10 word v e))

pub number_small : (l : Language) (v : ℕ) (bytes : List ℕ) → IsNumber l v bytes → v < 2 ^ 63
number_small language.One v bytes is = omega (arith, is.small)
number_small language.Two v bytes is = omega (arith, numeral_small bytes v is.has_value)

-- ---- a byte in quotes

escape_small : (b v : ℕ) → escape_value b ≡ Some v → v < 2 ^ 63
escape_small b v =
    let Q : Option ℕ → Type 0 = λ o. o ≡ Some v → v < 2 ^ 63 in
    cond_both (b == 110) _ _ Q (λ _ e. subst (λ n. n < 2 ^ 63) (some_is 10 v e) (omega arith))
    (λ _. cond_both (b == 92) _ _ Q (λ _ e. subst (λ n. n < 2 ^ 63) (some_is 92 v e) (omega arith))
    (λ _. cond_both (b == 39) _ _ Q (λ _ e. subst (λ n. n < 2 ^ 63) (some_is 39 v e) (omega arith))
    (λ _. cond_both (b == 48) _ _ Q (λ _ e. subst (λ n. n < 2 ^ 63) (some_is 0 v e) (omega arith))
    (λ _ e. absurd (cc)))))

plain_small : (b : ℕ) → is_plain b ≡ true → b < 2 ^ 63
plain_small b e =
    let shows = (and_parts (nat_le 32 b && nat_le b 126) _ e).0 in
    omega (arith, leb-true b 126 (and_parts (nat_le 32 b) (nat_le b 126) shows).1)

-- a quote that stands at a place is within the text
quote_within : (text : List ℕ) (k : ℕ) → (slice_index text k == 39) ≡ true → k < length text
quote_within [] k e = absurd (cc)
quote_within (b ∷ bs) zero e = omega arith
quote_within (b ∷ bs) (suc k) e = let there = quote_within bs k e in omega (arith, there)

pub record IsQuoted (v n available : ℕ) : Type 0 where
  pub small : v < 2 ^ 63
  pub within : n ≤ available

pub is_quoted : (text : List ℕ) (v : ℕ) → quoted_value text ≡ Some v → IsQuoted v (quoted_length text) (length text)
is_quoted text v = quoted_by (slice_index text 1 == 92)
  where
    quoted_by : (b : Bool)
        → cond b (cond (slice_index text 3 == 39) (escape_value (slice_index text 2)) None)
        (cond (is_plain (slice_index text 1) && slice_index text 2 == 39) (Some (slice_index text 1)) None)
        ≡ Some v
        → IsQuoted v (cond b 4 3) (length text)
    quoted_by true =
        cond_both (slice_index text 3 == 39) _ _ (λ o. o ≡ Some v → IsQuoted v 4 (length text))
        (λ there e. let last = quote_within text 3 there in
        record { small = escape_small (slice_index text 2) v e; within = omega (arith, last) })
        (λ _ e. absurd (cc))
    quoted_by false =
        cond_both (is_plain (slice_index text 1) && slice_index text 2 == 39) _ _
        (λ o. o ≡ Some v → IsQuoted v 3 (length text))
        (λ both e. let parts = and_parts (is_plain (slice_index text 1)) (slice_index text 2 == 39) both in
        let last = quote_within text 2 parts.1 in
        record {
          small = subst (λ n. n < 2 ^ 63) (some_is (slice_index text 1) v e) (plain_small (slice_index text 1) parts.0);
          within = omega (arith, last);
        })
        (λ _ e. absurd (cc))

-- ---- a line feed is in no quote

none_if : (b : Bool) → cond {A = Option ℕ} b None None ≡ None
none_if true = refl
none_if false = refl

never : (b : Bool) (v : ℕ) → cond {A = Option ℕ} (b && false) (Some v) None ≡ None
never true v = refl
never false v = refl

pub value_before : (b : ℕ) (bs more : List ℕ) → quoted_value ((b ∷ bs) ++ 10 ∷ more) ≡ quoted_value (b ∷ bs)
value_before b [] more = refl
value_before b (c ∷ []) more =
    (λ i. cond (c == 92) (none_if (slice_index more 0 == 39) i) (never (is_plain c) c i))
    ∙ sym (λ i. cond (c == 92) None (never (is_plain c) c i))
value_before b (c ∷ d ∷ []) more = refl
value_before b (c ∷ d ∷ e ∷ bs) more = refl

pub length_before : (b : ℕ) (bs more : List ℕ) → quoted_length ((b ∷ bs) ++ 10 ∷ more) ≡ quoted_length (b ∷ bs)
length_before b [] more = refl
length_before b (c ∷ bs) more = refl

-- ---- decimal digits

after_least : (n : ℕ) (ds : List ℕ) → n ≤ digits_value_after 10 n ds
after_least n [] = omega arith
after_least n (d ∷ ds) = let more = after_least (n * 10 + digit_value d) ds in omega (arith, more)

digit_is : (value b : ℕ) → digit_value b < 10 → value * 10 + digit_value b ≤ MAX_NUMBER
    → with_digit 10 value b ≡ Some (value * 10 + digit_value b)
digit_is value b digit small =
    let next : ℕ = value * 10 + digit_value b in
    let range : IsInRange 48 57 b = digit_from_value b digit in
    let other : (b == 95) ≡ false = grind (arith, nat_tests) in
    cond-false (b == 95) _ _ other
    ∙ cond-true (is_digit b 10 && nat_le next MAX_NUMBER) _ _
    (and_from (is_digit b 10) (nat_le next MAX_NUMBER) (lt-ltb (digit_value b) 10 digit) (le-leb next MAX_NUMBER small))

behind_is : (value : ℕ) (ds : List ℕ) → AllDigits 10 ds → digits_value_after 10 value ds ≤ MAX_NUMBER
    → digits_behind 10 value ds ≡ Some (digits_value_after 10 value ds)
behind_is value [] digits small = refl
behind_is value (d ∷ ds) digits small =
    let next : ℕ = value * 10 + digit_value d in
    let least = after_least next ds in
    ap (option_and_then (λ n. digits_behind 10 n ds)) (digit_is value d digits.0 (omega (arith, least, small)))
    ∙ behind_is next ds digits.1 small

-- digits are no prefix of another base
no_prefix : (c : ℕ) (ds : List ℕ) → AllDigits 10 ds → 10 ≤ digit_value c
    → starts_with nat_eq ds (48 ∷ c ∷ []) ≡ false
no_prefix c [] digits other = refl
no_prefix c (d ∷ []) digits other = false_from_ne_true _ (λ e. absurd (let p = and_parts (eqb 48 d) false e in cc))
no_prefix c (d ∷ b ∷ ds) digits other =
    false_from_ne_true _
    (λ e. let p = and_parts (eqb 48 d) (eqb c b && true) e in
    let q = and_parts (eqb c b) true p.1 in
    let same : digit_value c < 10 = subst (λ x. digit_value x < 10) (sym (eqb-true c b q.0)) digits.1.0 in
    absurd (omega (arith, other, same)))

pub decimal_numeral : (d : ℕ) (ds : List ℕ) → AllDigits 10 (d ∷ ds) → digits_value 10 (d ∷ ds) ≤ MAX_NUMBER
    → numeral_value (d ∷ ds) ≡ Some (digits_value 10 (d ∷ ds))
decimal_numeral d ds digits small =
    let range : IsInRange 48 57 d = digit_from_value d digits.0 in
    let other : (d == 95) ≡ false = grind (arith, nat_tests) in
    cond-false _ _ _ (no_prefix 120 (d ∷ ds) digits (omega arith))
    ∙ cond-false _ _ _ (no_prefix 98 (d ∷ ds) digits (omega arith))
    ∙ cond-false (d == 95) _ _ other ∙ behind_is 0 (d ∷ ds) digits small
