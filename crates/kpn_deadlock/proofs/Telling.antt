-- Which of the cycles are rings, and that those told are final.
use Rattle.kpn_deadlock.proofs.Common.{Contains, All, ◌≡◌, ℕ, ◌<◌, true, false, List, [], ◌∷◌, length, Some, None, sym, ap, ◌∙◌, subst, inl, inr, refl, and_parts, and_from, both_ways, false≢true, All-nil, All-cons, Wait, Nobody, Empty, Full, Tables, IsNetwork, wait_at, Contains-first, Contains-later, Contains-cases, Contains-none, cycle_unique, cycle_below, AwaitsItem, IsRing, AreFinal, IsCycleFrom, IsRingFrom, AreRings, FindsFrom, is_wait_for_item, all_await_items}
use Rattle.kpn_deadlock.proofs.Final.{silent}

-- ---- waits on empty channels

awaits_item : (waits : List Wait) (p : ℕ) (w : Wait) → wait_at waits p ≡ w → is_wait_for_item w ≡ true → AwaitsItem waits p
awaits_item waits p Nobody is is_so = absurd (false≢true is_so)
awaits_item waits p (Empty c) is is_so = record { channel = c; is = is }
awaits_item waits p (Full c) is is_so = absurd (false≢true is_so)

each_awaits : (waits : List Wait) (members : List ℕ) → all_await_items waits members ≡ true → (q : ℕ)
    → Contains members q → AwaitsItem waits q
each_awaits waits [] all q h = absurd (Contains-none q h)
each_awaits waits (p ∷ members) all q h =
    let parts = and_parts (is_wait_for_item (wait_at waits p)) (all_await_items waits members) all in
    elim (Contains-cases p members q h) [
      | inl same ↦ subst (AwaitsItem waits) same (awaits_item waits p (wait_at waits p) refl parts.0)
      | inr later ↦ each_awaits waits members parts.1 q later
    ]

all_await : (waits : List Wait) (members : List ℕ) → ((q : ℕ) → Contains members q → AwaitsItem waits q)
    → all_await_items waits members ≡ true
all_await waits [] each = refl
all_await waits (p ∷ members) each =
    let first = each p (Contains-first p members) in
    and_from (is_wait_for_item (wait_at waits p)) (all_await_items waits members) (ap is_wait_for_item first.is)
    (all_await waits members (λ q h. each q (Contains-later p members q h)))

-- ---- what the walk from a process says of rings

module _ (t : Tables) (waits : List Wait) where
  pub one_cycle : (p : ℕ) (others more : List ℕ) → IsCycleFrom t waits p others → IsCycleFrom t waits p more
      → others ≡ more
  one_cycle p others more a b = cycle_unique t waits p others more a.cycle b.cycle

  pub cycle_there : (p : ℕ) (others : List ℕ) → IsCycleFrom t waits p others → p < length t.instances
  cycle_there p others h = cycle_below t waits p others h.cycle p (Contains-first p others)

  as_cycle : (p : ℕ) (others : List ℕ) → IsRingFrom t waits p others → IsCycleFrom t waits p others
  as_cycle p others h = record { cycle = h.ring.cycle; least = h.least }

  pub one_ring : (p : ℕ) (others more : List ℕ) → IsRingFrom t waits p others → IsRingFrom t waits p more
      → others ≡ more
  one_ring p others more a b = one_cycle p others more (as_cycle p others a) (as_cycle p more b)

  pub ring_there : (p : ℕ) (others : List ℕ) → IsRingFrom t waits p others → p < length t.instances
  ring_there p others h = cycle_there p others (as_cycle p others h)

  module _ (p : ℕ) (members : List ℕ) (found : FindsFrom (IsCycleFrom t waits) p (Some members)) where
    pub ring_of : all_await_items waits members ≡ true → FindsFrom (IsRingFrom t waits) p (Some members)
    ring_of all = (
      found.0,
      found.1,
      record {
        ring = record {
          cycle = found.2.cycle;
          empty = λ q h. each_awaits waits members all q (subst (λ xs. Contains xs q) (sym found.1) h);
        };
        least = found.2.least;
      },
    )

    pub no_ring_of : all_await_items waits members ≡ false → FindsFrom (IsRingFrom t waits) p None
    no_ring_of some = λ others h.
        let same = one_cycle p found.0 others found.2 (as_cycle p others h) in
        let is : members ≡ p ∷ others = found.1 ∙ ap (λ xs. p ∷ xs) same in
        both_ways (all_await_items waits members) some
        (all_await waits members (λ q k. h.ring.empty q (subst (λ xs. Contains xs q) is k)))

-- ---- those told are final

all_from : {X : Type 0} (P : X → Type 0) (xs : List X) → ((x : X) → Contains xs x → P x) → All P xs
all_from P [] each = All-nil P
all_from P (x ∷ xs) each =
    All-cons P x xs (each x (Contains-first x xs)) (all_from P xs (λ y h. each y (Contains-later x xs y h)))

pub told_are_final : (t : Tables) → IsNetwork t → (waits : List Wait) (told : List (List ℕ)) → AreRings t waits told
    → All (AreFinal t waits) told
told_are_final t network waits told are =
    all_from (AreFinal t waits) told
    (λ members h H more is legal q among event there.
    let one = are.each members h in
    silent t network one.first one.others more H legal
    (subst (λ w. IsRing t w one.first one.others) is one.so.ring) q
    (subst (λ xs. Contains xs q) one.is among) event there)
