-- A growth of a trace of version 1 stands for the channel's first capacity, and one more for each growth so far.
use Rattle.std.proofs.Common.{◌≡◌, ℕ, zero, suc, ◌+◌, ◌<◌, Bool, true, false, cond, List, [], ◌∷◌, ◌++◌, length, take, count_by, Option, Some, None, slice_get, refl, sym, ap, ◌∙◌, add_assoc, eq-eqb, arith}
use Rattle.kpn_audit.proofs.Common.{nat_lt, if◌then◌else◌, lt-ltb, Tables, channel_at, capacity, grown_capacity, Event, Grow, is_growth_of, after_growths, capacity_after, one_larger, told, told_behind}
use Rattle.std.specs.Option.{option_map}
use Rattle.std.proofs.lemmas.List.Sums.{sum_by-cons, sum_by_push}
use Rattle.kpn_net.specs.declared.tables.Growth.TheVariants as growth

-- if a growth makes a capacity one larger, `times` growths make it `times` larger
one_each : (t : Tables) → t.growth ≡ growth.One → (times cap : ℕ) → after_growths t times cap ≡ cap + times
one_each t one zero cap = omega arith
one_each t one (suc times) cap =
    let here = one_each t one times cap in
    ap (λ g. grown_capacity g t.limit (after_growths t times cap)) one ∙ omega (arith, here)

-- the event of the history is a growth of the channel if that of the trace is
growth_told : (t : Tables) (B : List Event) (c : ℕ) (e : Event) → is_growth_of c (told t B e) ≡ is_growth_of c e
growth_told t B c (Grow p d n) = refl
growth_told t B c e = refl

-- how many growths of channel c there are
abbrev growths : (c : ℕ) → List Event → ℕ
growths c H = count_by (is_growth_of c) H

-- one growth more after these
one_more : (t : Tables) → t.growth ≡ growth.One → (B : List Event) (c n first : ℕ) → c < length t.channels
    → capacity (channel_at t c) ≡ Some first
    → (if nat_lt c (length t.channels) then one_larger (capacity_after t B c) n else n) ≡ first + (growths c B + 1)
one_more t one B c n first there is =
    let each = one_each t one (growths c B) first in
    ap (λ b. if b then one_larger (capacity_after t B c) n else n) (lt-ltb c (length t.channels) there)
    ∙ ap (λ o. one_larger (option_map (after_growths t (growths c B)) o) n) is
    ∙ omega (arith, each)

-- a growth as event k of those after B
pub growth_behind : (t : Tables) → t.growth ≡ growth.One → (B events : List Event) (k p c n first : ℕ)
    → slice_get events k ≡ Some (Grow p c n) → c < length t.channels → capacity (channel_at t c) ≡ Some first
    → slice_get (told_behind t B events) k
    ≡ Some (Grow p c (first + (growths c B + growths c (take (suc k) events))))
growth_behind t one B [] k p c n first at there is = absurd cc
growth_behind t one B (e ∷ events) zero p c n first at there is =
    let same : e ≡ Grow p c n = cc in
    let one_here : growths c (Grow p c n ∷ []) ≡ 1 =
    sum_by-cons (λ x. cond {A = ℕ} (is_growth_of c x) 1 0) (Grow p c n) []
    ∙ ap (λ b. cond {A = ℕ} b 1 0 + 0) (eq-eqb c c refl) in
    ap (λ x. Some (told t B x)) same
    ∙ ap (λ m. Some (Grow p c m)) (one_more t one B c n first there is)
    ∙ ap (λ m. Some (Grow p c (first + (growths c B + m)))) (sym one_here)
    ∙ ap (λ x. Some (Grow p c (first + (growths c B + growths c (x ∷ []))))) (sym same)
growth_behind t one B (e ∷ events) (suc k) p c n first at there is =
    let told_first = sum_by_push (λ x. cond {A = ℕ} (is_growth_of c x) 1 0) B (told t B e) in
    let same = ap (λ b. cond {A = ℕ} b 1 0) (growth_told t B c e) in
    let here : ℕ = cond {A = ℕ} (is_growth_of c e) 1 0 in
    let rest : ℕ = growths c (take (suc k) events) in
    let cons : growths c (e ∷ take (suc k) events) ≡ here + rest =
    sum_by-cons (λ x. cond {A = ℕ} (is_growth_of c x) 1 0) e (take (suc k) events) in
    growth_behind t one (B ++ told t B e ∷ []) events k p c n first at there is
    ∙ ap (λ m. Some (Grow p c (first + (m + rest)))) (told_first ∙ ap (λ m. growths c B + m) same)
    ∙ ap (λ m. Some (Grow p c (first + m))) (add_assoc (growths c B) here rest)
    ∙ ap (λ m. Some (Grow p c (first + (growths c B + m)))) (sym cons)
