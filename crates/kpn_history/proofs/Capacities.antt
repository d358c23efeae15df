-- Capacities after one more event: a growth makes one larger, no event makes one smaller, and they stay from 1 to the
-- limit.
use Rattle.std.specs.Option.{option_map, unwrap_or}
use Rattle.std.proofs.Common.{◌≡◌, ℕ, suc, ◌+◌, ◌<◌, ◌≤◌, Bool, true, false, cond, eqb, eq-eqb, List, [], ◌∷◌, ◌++◌, length, count_by, Option, Some, None, refl, sym, ap, ◌∙◌, subst, inl, inr, arith}
use Rattle.kpn_history.proofs.Common.{sum_by_push, eqb-true, false≢true, Tables, channel_at, capacity, larger_capacity, IsNetwork, Event, Grow, is_growth_of, after_growths, capacity_after, capacity_or_zero, capacity_then, OwesGrowth, MayFollow, Legal, capacity_in_range, larger_capacity_is_no_less, larger_capacity_in_range}
use Rattle.kpn_history.proofs.Legality.{Legal-last, Legal-before, by_events}

-- ---- one more event

-- a capacity, made larger by a growth
abbrev larger_if : Tables → Bool → ℕ → ℕ
larger_if t grows n = cond grows (larger_capacity t n) n

once_more : (t : Tables) (grows : Bool) (times n : ℕ)
    → after_growths t (times + cond grows 1 0) n ≡ larger_if t grows (after_growths t times n)
once_more t true times n = ap (λ k. after_growths t k n) (let next : times + 1 ≡ suc times = omega arith in next)
once_more t false times n = ap (λ k. after_growths t k n) (let same : times + 0 ≡ times = omega arith in same)

capacity_after-push : (t : Tables) (B : List Event) (e : Event) (c : ℕ)
    → capacity_after t (B ++ e ∷ []) c ≡ option_map (larger_if t (is_growth_of c e)) (capacity_after t B c)
capacity_after-push t B e c = by_capacity (capacity (channel_at t c))
  where
    by_capacity : (first : Option ℕ)
        → option_map (after_growths t (count_by (is_growth_of c) (B ++ e ∷ []))) first
        ≡ option_map (larger_if t (is_growth_of c e))
        (option_map (after_growths t (count_by (is_growth_of c) B)) first)
    by_capacity None = refl
    by_capacity (Some n) =
        ap Some
        (ap (λ times. after_growths t times n) (sum_by_push (λ x. cond (is_growth_of c x) 1 0) B e)
        ∙ once_more t (is_growth_of c e) (count_by (is_growth_of c) B) n)

no_growth : (t : Tables) (o : Option ℕ) → option_map (larger_if t false) o ≡ o
no_growth t None = refl
no_growth t (Some n) = refl

-- an event that is no growth of the channel leaves its capacity as it is
pub capacity_after-same : (t : Tables) (B : List Event) (e : Event) (c : ℕ) → is_growth_of c e ≡ false
    → capacity_after t (B ++ e ∷ []) c ≡ capacity_after t B c
capacity_after-same t B e c none =
    capacity_after-push t B e c
    ∙ ap (λ b. option_map (larger_if t b) (capacity_after t B c)) none
    ∙ no_growth t (capacity_after t B c)

pub capacity_after-next : (t : Tables) (B : List Event) (e : Event) (c : ℕ)
    → capacity_after t (B ++ e ∷ []) c ≡ capacity_then t c e (capacity_after t B c)
capacity_after-next t B (Grow p d n) c =
    capacity_after-push t B (Grow p d n) c ∙ if_here (eqb d c) (capacity_after t B c)
  where
    if_here : (b : Bool) (o : Option ℕ)
        → option_map (larger_if t b) o ≡ cond b (option_map (larger_capacity t) o) o
    if_here true o = refl
    if_here false o = no_growth t o
capacity_after-next t B event c = capacity_after-same t B event c refl

-- ---- no capacity falls

-- the channel of an owed growth is below the limit
pub below_limit : (t : Tables) (H : List Event) (p d : ℕ) → OwesGrowth t H p d → capacity_or_zero t H d < t.limit
below_limit t H p d (inl owed) = owed.below_limit
below_limit t H p d (inr owed) = owed.below_limit

-- a channel that may grow is below the limit
below_at_growth : (t : Tables) (B : List Event) (e : Event) (c n : ℕ) → MayFollow t B e
    → capacity_after t B c ≡ Some n → is_growth_of c e ≡ true → n < t.limit
below_at_growth t B (Grow p d m) c n follows was same =
    let below = below_limit t B p d follows.due in
    let room : capacity_or_zero t B d ≡ n =
    ap (λ x. capacity_or_zero t B x) (eqb-true d c same) ∙ ap (λ o. unwrap_or o 0) was in
    omega arith
below_at_growth t B e c n follows was same = absurd (false≢true same)

-- the capacity before was at most as large
pub record SmallerBefore (t : Tables) (B : List Event) (c cap : ℕ) : Type 0 where
  pub before : ℕ
  pub is : capacity_after t B c ≡ Some before
  pub at_most : before ≤ cap

no_less : (t : Tables) (B : List Event) (e : Event) → MayFollow t B e → (c n : ℕ) → capacity_after t B c ≡ Some n
    → n ≤ larger_if t (is_growth_of c e) n
no_less t B e follows c n was = by_growth (is_growth_of c e) (below_at_growth t B e c n follows was)
  where
    by_growth : (grows : Bool) → (grows ≡ true → n < t.limit) → n ≤ larger_if t grows n
    by_growth true below = larger_capacity_is_no_less t n (below refl)
    by_growth false below = omega arith

pub smaller_before : (t : Tables) (B : List Event) (e : Event) → MayFollow t B e → (c cap : ℕ)
    → capacity_after t (B ++ e ∷ []) c ≡ Some cap → SmallerBefore t B c cap
smaller_before t B e follows c cap is =
    by_capacity (capacity_after t B c) refl (sym (capacity_after-push t B e c) ∙ is)
  where
    by_capacity : (o : Option ℕ) → capacity_after t B c ≡ o
        → option_map (larger_if t (is_growth_of c e)) o ≡ Some cap → SmallerBefore t B c cap
    by_capacity None was f = absurd cc
    by_capacity (Some n) was f =
        let same : larger_if t (is_growth_of c e) n ≡ cap = cc in
        record { before = n; is = was; at_most = subst (λ m. n ≤ m) same (no_less t B e follows c n was) }

pub capacity_grows : (t : Tables) (B : List Event) (e : Event) → Legal t (B ++ e ∷ []) → (c : ℕ)
    → capacity_or_zero t B c ≤ capacity_or_zero t (B ++ e ∷ []) c
capacity_grows t B e legal c = rw (capacity_after-push t B e c) (by_capacity (capacity_after t B c) refl)
  where
    by_capacity : (o : Option ℕ) → capacity_after t B c ≡ o
        → unwrap_or o 0 ≤ unwrap_or (option_map (larger_if t (is_growth_of c e)) o) 0
    by_capacity None was = omega arith
    by_capacity (Some n) was = no_less t B e (Legal-last t B e legal) c n was

-- after a growth of a channel
pub capacity_of_growth : (t : Tables) (B : List Event) (p d n cap : ℕ) → capacity_after t B d ≡ Some cap
    → capacity_after t (B ++ Grow p d n ∷ []) d ≡ Some (larger_capacity t cap)
capacity_of_growth t B p d n cap is =
    capacity_after-push t B (Grow p d n) d
    ∙ ap (option_map (larger_if t (eqb d d))) is
    ∙ ap (λ b. Some (larger_if t b cap)) (eq-eqb d d refl)

-- ---- capacities are from 1 to the limit

-- the capacity of a channel of the network, if it has one, is from 1 to the limit
pub record IsInLimit (t : Tables) (H : List Event) : Type 0 where
  pub each : (c cap : ℕ) → c < length t.channels → capacity_after t H c ≡ Some cap → (0 < cap) × (cap ≤ t.limit)

in_limit_at_first : (t : Tables) → IsNetwork t → IsInLimit t []
in_limit_at_first t network =
    record { each = λ c cap there is. by_first c (capacity (channel_at t c)) refl cap there is }
  where
    by_first : (c : ℕ) (o : Option ℕ) → capacity (channel_at t c) ≡ o → (cap : ℕ) → c < length t.channels
        → option_map (after_growths t 0) o ≡ Some cap → (0 < cap) × (cap ≤ t.limit)
    by_first c None was cap there is = absurd cc
    by_first c (Some n) was cap there is =
        let same : n ≡ cap = cc in
        let bounds = capacity_in_range t network c n there was in
        let low = bounds.positive in
        let high = bounds.within in
        (omega arith, omega arith)

pub in_limit : (t : Tables) → IsNetwork t → (H : List Event) → Legal t H → IsInLimit t H
in_limit t network =
    by_events t (IsInLimit t) (in_limit_at_first t network)
    (λ B e legal h.
    record {
      each = λ c cap there is.
          by_before B e (Legal-last t B e legal) h c (capacity_after t B c) refl cap there
          (sym (capacity_after-push t B e c) ∙ is);
    })
  where
    stays : (n : ℕ) (grows : Bool) → (grows ≡ true → n < t.limit) → (0 < n) × (n ≤ t.limit)
        → (0 < larger_if t grows n) × (larger_if t grows n ≤ t.limit)
    stays n true below bounds =
        let larger = larger_capacity_in_range t n bounds.0 (below refl) in
        let low = larger.0 in
        (omega arith, larger.1)
    stays n false below bounds = bounds

    by_before : (B : List Event) (e : Event) → MayFollow t B e → IsInLimit t B → (c : ℕ) (o : Option ℕ)
        → capacity_after t B c ≡ o → (cap : ℕ) → c < length t.channels
        → option_map (larger_if t (is_growth_of c e)) o ≡ Some cap → (0 < cap) × (cap ≤ t.limit)
    by_before B e follows h c None was cap there is = absurd cc
    by_before B e follows h c (Some n) was cap there is =
        let same : larger_if t (is_growth_of c e) n ≡ cap = cc in
        subst (λ m. (0 < m) × (m ≤ t.limit)) same
        (stays n (is_growth_of c e) (below_at_growth t B e c n follows was) (h.each c n there was))

-- a growth makes the capacity larger
pub larger_by_growth : (t : Tables) → IsNetwork t → (B : List Event) (p d n cap : ℕ) → Legal t (B ++ Grow p d n ∷ [])
    → d < length t.channels → capacity_after t B d ≡ Some cap → cap < larger_capacity t cap
larger_by_growth t network B p d n cap legal there is =
    let some = ((in_limit t network B (Legal-before t B (Grow p d n) legal)).each d cap there is).0 in
    let below =
    below_at_growth t B (Grow p d n) d cap (Legal-last t B (Grow p d n) legal) is (eq-eqb d d refl) in
    (larger_capacity_in_range t cap some below).0
