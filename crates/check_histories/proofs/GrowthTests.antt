-- Plain tests of which growth a history owes, and what follows from a yes of each.
use Rattle.check_histories.proofs.Common.{nat_eq, nat_lt, last_or, ◌≡◌, ℕ, ◌<◌, ◌⊎◌, inl, inr, Bool, true, false, not, ◌&&◌, ◌||◌, List, [], ◌∷◌, length, Option, Some, None, refl, sym, ap, subst, ◌∙◌, eq-eqb, arith, and_parts, and_from, or_cases, or_left, or_right, eqb-true, ltb-true, ltb-false, not-true, both_ways, cases_Bool, Wait, Nobody, Empty, Full, Tables, IsSmallest, awaited_as_full, Event, has_ended, capacity_or_zero, wait_of, waits_of, full_in_cycle, HasStopped, IsSettled, waiter_of_last, OwesCycleGrowth, OwesStopGrowth, OwesGrowth, growth_after, smallest_unique, each_below, each_below-at, each_below-fails, Way, Round, Off, Lost, Allows, way_round, way_round-allows, way_round-cycle, is_nobody, is_settled, is_settled-true}
use Rattle.kpn_net.specs.declared.tables.Policy.{Policy}
use Rattle.kpn_net.specs.declared.tables.Policy.TheVariants.{Cycles, All}
use Rattle.kpn_history.proofs.Growth.{last_waiter}
use Rattle.check_histories.proofs.ListTests.{is_smallest, smallest, is_smallest-true}

-- ---- growth for a cycle

abbrev is_below_limit : Tables → List Event → (d : ℕ) → Bool
is_below_limit t B d = nat_lt (capacity_or_zero t B d) t.limit

-- the way comes round over a cycle whose smallest full channel is d, and that is below the limit
abbrev owes : Tables → List Event → (p d : ℕ) → Way → Bool
owes t B p d (Round others) =
    is_smallest (capacity_or_zero t B) (full_in_cycle t B p others) d && is_below_limit t B d
owes t B p d Off = false
owes t B p d Lost = false

abbrev is_at_limit : Tables → List Event → List ℕ → Option ℕ → Bool
is_at_limit t B [] found = true
is_at_limit t B (c ∷ channels) None = false
is_at_limit t B (c ∷ channels) (Some d) =
    is_smallest (capacity_or_zero t B) (c ∷ channels) d && not (is_below_limit t B d)

-- there is no cycle, or it has no full channel, or its smallest is at the limit
abbrev cycle_owes_none : Tables → List Event → (p : ℕ) → Way → Bool
cycle_owes_none t B p (Round others) =
    is_at_limit t B (full_in_cycle t B p others) (smallest (capacity_or_zero t B) (full_in_cycle t B p others))
cycle_owes_none t B p Off = true
cycle_owes_none t B p Lost = false

owes-by : (t : Tables) (B : List Event) (p d : ℕ) (w : Way) → way_round t B p ≡ w → owes t B p d w ≡ true
    → waiter_of_last (last_or None B) ≡ Some p → OwesCycleGrowth t B p d
owes-by t B p d (Round others) found e wait =
    let parts = and_parts _ _ e in
    record {
      wait = wait;
      others = others;
      cycle = way_round-cycle t B p others found;
      smallest = is_smallest-true _ _ d parts.0;
      below_limit = ltb-true _ _ parts.1;
    }
owes-by t B p d Off found e wait = absurd cc
owes-by t B p d Lost found e wait = absurd cc

owes-growth : (t : Tables) (B : List Event) (p d : ℕ) → owes t B p d (way_round t B p) ≡ true
    → waiter_of_last (last_or None B) ≡ Some p → OwesCycleGrowth t B p d
owes-growth t B p d = owes-by t B p d (way_round t B p) refl

-- the smallest full channel of the cycle is the one that was found
owes-one : (t : Tables) (B : List Event) (p d e : ℕ) (w : Way) (others : List ℕ) → owes t B p d w ≡ true
    → Allows w others → IsSmallest (capacity_or_zero t B) (full_in_cycle t B p others) e → d ≡ e
owes-one t B p d e (Round found) others told same small =
    let parts = and_parts _ _ told in
    let there : IsSmallest (capacity_or_zero t B) (full_in_cycle t B p others) d =
    subst (λ xs. IsSmallest (capacity_or_zero t B) (full_in_cycle t B p xs) d) same
    (is_smallest-true _ _ d parts.0) in
    smallest_unique (capacity_or_zero t B) (full_in_cycle t B p others) d e there small
owes-one t B p d e Off others told same small = absurd cc
owes-one t B p d e Lost others told same small = absurd cc

at_limit : (t : Tables) (B : List Event) (channels : List ℕ) (found : Option ℕ) (e : ℕ)
    → is_at_limit t B channels found ≡ true → IsSmallest (capacity_or_zero t B) channels e
    → capacity_or_zero t B e < t.limit → ⊥
at_limit t B [] found e told small below = omega (arith, small.among.1)
at_limit t B (c ∷ channels) None e told small below = cc
at_limit t B (c ∷ channels) (Some d) e told small below =
    let parts = and_parts _ _ told in
    let same : d ≡ e =
    smallest_unique (capacity_or_zero t B) (c ∷ channels) d e (is_smallest-true _ _ d parts.0) small in
    let not_below : is_below_limit t B d ≡ false = not-true _ parts.1 in
    let here : is_below_limit t B e ≡ false = subst (λ x. is_below_limit t B x ≡ false) same not_below in
    let lemma = ltb-false _ _ here in
    omega arith

cycle_owes_none-true : (t : Tables) (B : List Event) (p e : ℕ) (w : Way) (others : List ℕ)
    → cycle_owes_none t B p w ≡ true
    → Allows w others → IsSmallest (capacity_or_zero t B) (full_in_cycle t B p others) e
    → capacity_or_zero t B e < t.limit → ⊥
cycle_owes_none-true t B p e (Round found) others told same small below =
    let here : IsSmallest (capacity_or_zero t B) (full_in_cycle t B p found) e =
    subst (λ xs. IsSmallest (capacity_or_zero t B) (full_in_cycle t B p xs) e) (sym same) small in
    at_limit t B (full_in_cycle t B p found) _ e told here below
cycle_owes_none-true t B p e Off others told same small below = same
cycle_owes_none-true t B p e Lost others told same small below = cc

abbrev grows_for_cycle : Tables → List Event → (p d : ℕ) → Option ℕ → Bool
grows_for_cycle t B p d None = false
grows_for_cycle t B p d (Some q) = nat_eq q p && owes t B q d (way_round t B q)

grows_for_cycle-owed : (t : Tables) (B : List Event) (p d : ℕ) (w : Option ℕ) → last_waiter B ≡ w
    → grows_for_cycle t B p d w ≡ true
    → OwesCycleGrowth t B p d
grows_for_cycle-owed t B p d None is e = absurd cc
grows_for_cycle-owed t B p d (Some q) is e =
    let parts = and_parts _ _ e in
    subst (λ r. OwesCycleGrowth t B r d) (eqb-true q p parts.0) (owes-growth t B q d parts.1 is)

grows_for_cycle-one : (t : Tables) (B : List Event) (p d q e : ℕ) (w : Option ℕ) → last_waiter B ≡ w
    → grows_for_cycle t B p d w ≡ true
    → OwesCycleGrowth t B q e → growth_after t B p d ≡ growth_after t B q e
grows_for_cycle-one t B p d q e None is told owed = absurd cc
grows_for_cycle-one t B p d q e (Some r) is told owed =
    let parts : (nat_eq r p ≡ true) × (owes t B r d (way_round t B r) ≡ true) = and_parts _ _ told in
    let wait = owed.wait in
    let process : r ≡ q = cc in
    let first : r ≡ p = eqb-true r p parts.0 in
    let here : owes t B q d (way_round t B q) ≡ true =
    subst (λ s. owes t B s d (way_round t B s) ≡ true) process parts.1 in
    let channel : d ≡ e =
    owes-one t B q d e _ owed.others here (way_round-allows t B q owed.others owed.cycle) owed.smallest in
    λ i. growth_after t B ((sym first ∙ process) i) (channel i)

abbrev owes_nothing : Tables → List Event → Option ℕ → Bool
owes_nothing t B None = true
owes_nothing t B (Some p) = cycle_owes_none t B p (way_round t B p)

owes_nothing-true : (t : Tables) (B : List Event) (p d : ℕ) (w : Option ℕ) → last_waiter B ≡ w
    → owes_nothing t B w ≡ true → OwesCycleGrowth t B p d → ⊥
owes_nothing-true t B p d None is e owed = let wait = owed.wait in cc
owes_nothing-true t B p d (Some q) is e owed =
    let wait = owed.wait in
    let process : q ≡ p = cc in
    let here : cycle_owes_none t B p (way_round t B p) ≡ true =
    subst (λ s. cycle_owes_none t B s (way_round t B s) ≡ true) process e in
    cycle_owes_none-true t B p d _ owed.others here (way_round-allows t B p owed.others owed.cycle) owed.smallest
    owed.below_limit

-- ---- settled

-- a test of all numbers below one says yes if it says yes of each
all_below : (test : ℕ → Bool) (n : ℕ) → ((k : ℕ) → k < n → test k ≡ true) → each_below test n ≡ true
all_below test n each =
    elim (cases_Bool (each_below test n)) [
      | inl e ↦ e
      | inr e ↦
          let failing = each_below-fails test n e in
          absurd (both_ways _ failing.fails (each failing.number failing.below))
    ]

stopped_is : (t : Tables) (B : List Event) (p : ℕ) → HasStopped t B p
    → has_ended B p || not (is_nobody (wait_of t B p)) ≡ true
stopped_is t B p (inl ended) = or_left _ _ ended
stopped_is t B p (inr (inl empty)) = or_right (has_ended B p) (not (is_nobody (wait_of t B p))) (rw empty.blocked refl)
stopped_is t B p (inr (inr full)) = or_right (has_ended B p) (not (is_nobody (wait_of t B p))) (rw full.blocked refl)

shut_is : (source closed : Bool) → (source ≡ true → closed ≡ true) → not source || closed ≡ true
shut_is true closed is = is refl
shut_is false closed is = refl

emptied_is : (sink empty left : Bool) → (sink ≡ true → (empty ≡ true) ⊎ (left ≡ true))
    → not sink || (empty || left) ≡ true
emptied_is true empty left is =
    elim (is refl) [ inl none ↦ or_left empty left none | inr gone ↦ or_right empty left gone ]
emptied_is false empty left is = refl

-- the test of a settled history says yes of each
settled_is : (t : Tables) (B : List Event) → IsSettled t B → is_settled t B ≡ true
settled_is t B settled = and_from _ _
    (all_below _ (length t.instances) (λ p h. stopped_is t B p (settled.processes p h)))
    (and_from _ _
    (all_below _ (length t.channels) (λ c h. shut_is _ _ (settled.sources c h)))
    (all_below _ (length t.channels) (λ c h. emptied_is _ _ _ (settled.sinks c h))))

-- ---- growth for a stop

abbrev is_all : Policy → Bool
is_all Cycles = false
is_all All = true

is_all-true : (policy : Policy) → is_all policy ≡ true → policy ≡ All
is_all-true Cycles e = absurd cc
is_all-true All e = refl

abbrev awaited_in : Tables → List Event → List ℕ
awaited_in t B = awaited_as_full t (waits_of t B)

abbrev waits_on : (d : ℕ) → Wait → Bool
waits_on d Nobody = false
waits_on d (Empty c) = false
waits_on d (Full c) = nat_eq c d

waits_on-true : (d : ℕ) (w : Wait) → waits_on d w ≡ true → w ≡ Full d
waits_on-true d Nobody e = absurd cc
waits_on-true d (Empty c) e = absurd cc
waits_on-true d (Full c) e = ap Full (eqb-true c d e)

abbrev is_other_wait : Tables → List Event → (p d : ℕ) → (q : ℕ) → Bool
is_other_wait t B p d q = nat_eq p q || not (waits_on d (wait_of t B q))

-- no process but p waits on channel d as full
abbrev no_other_waits : Tables → List Event → (p d : ℕ) → Bool
no_other_waits t B p d = each_below (is_other_wait t B p d) (length t.instances)

-- d is the smallest awaited channel, it is below the limit, and p waits on it
abbrev is_next : Tables → List Event → (p d : ℕ) → Bool
is_next t B p d =
    is_smallest (capacity_or_zero t B) (awaited_in t B) d
    && (is_below_limit t B d && (nat_lt p (length t.instances) && waits_on d (wait_of t B p)))

-- all stand still under `all`, no growth is owed for a cycle, and d is next
abbrev stops_for : Tables → List Event → (p d : ℕ) → Bool
stops_for t B p d = is_all t.policy && (is_settled t B && (owes_nothing t B (last_waiter B) && is_next t B p d))

abbrev owes_at_stop : Tables → List Event → (p d : ℕ) → Bool
owes_at_stop t B p d = stops_for t B p d && no_other_waits t B p d

stops_for-true : (t : Tables) (B : List Event) (p d : ℕ) → stops_for t B p d ≡ true → OwesStopGrowth t B p d
stops_for-true t B p d e =
    let all = and_parts _ _ e in let settled = and_parts _ _ all.1 in let no_cycle = and_parts _ _ settled.1 in
    let least = and_parts _ _ no_cycle.1 in let below = and_parts _ _ least.1 in let last = and_parts _ _ below.1 in
    record {
      policy = is_all-true _ all.0;
      settled = is_settled-true t B settled.0;
      no_cycle = λ q c owed. owes_nothing-true t B q c _ refl no_cycle.0 owed;
      smallest = is_smallest-true _ _ d least.0;
      below_limit = ltb-true _ _ below.0;
      there = ltb-true _ _ last.0;
      waits = waits_on-true d _ last.1;
    }

owes_at_stop-true : (t : Tables) (B : List Event) (p d : ℕ) → owes_at_stop t B p d ≡ true
    → OwesStopGrowth t B p d
owes_at_stop-true t B p d e =
    stops_for-true t B p d (and_parts (stops_for t B p d) (no_other_waits t B p d) e).0

-- the channel is the smallest, and no other process waits on it
stops-one : (t : Tables) (B : List Event) (p d q e : ℕ) → owes_at_stop t B p d ≡ true → OwesStopGrowth t B q e
    → growth_after t B p d ≡ growth_after t B q e
stops-one t B p d q e told owed =
    let alone : no_other_waits t B p d ≡ true =
    (and_parts (stops_for t B p d) (no_other_waits t B p d) told).1 in
    let channel : d ≡ e =
    smallest_unique (capacity_or_zero t B) (awaited_in t B) d e (owes_at_stop-true t B p d told).smallest
    owed.smallest in
    let on_d : wait_of t B q ≡ Full d = subst (λ c. wait_of t B q ≡ Full c) (sym channel) owed.waits in
    let process : p ≡ q =
    only q (each_below-at (is_other_wait t B p d) (length t.instances) alone q owed.there) on_d in
    λ i. growth_after t B (process i) (channel i)
  where
    only : (q : ℕ) → is_other_wait t B p d q ≡ true → wait_of t B q ≡ Full d → p ≡ q
    only q other on_d = elim (or_cases _ _ other) [
      | inl same ↦ eqb-true p q same
      | inr off ↦
          absurd (both_ways _ (not-true _ off) (subst (λ w. waits_on d w ≡ true) (sym on_d) (eq-eqb d d refl)))
    ]

-- under `cycles`, before all stand still, or if the smallest awaited channel is at the limit
abbrev owes_none_at_stop : Tables → List Event → Bool
owes_none_at_stop t B =
    not (is_all t.policy)
    || (not (is_settled t B)
    || is_at_limit t B (awaited_in t B) (smallest (capacity_or_zero t B) (awaited_in t B)))

owes_none_at_stop-true : (t : Tables) (B : List Event) (p d : ℕ) → owes_none_at_stop t B ≡ true
    → OwesStopGrowth t B p d → ⊥
owes_none_at_stop-true t B p d e owed =
    elim (or_cases _ _ e) [
      | inl cycles ↦
          both_ways _ (not-true _ cycles) (subst (λ policy. is_all policy ≡ true) (sym owed.policy) refl)
      | inr later ↦
          elim (or_cases _ _ later) [
            | inl goes_on ↦ both_ways _ (not-true _ goes_on) (settled_is t B owed.settled)
            | inr limit ↦ at_limit t B (awaited_in t B) _ d limit owed.smallest owed.below_limit
          ]
    ]

-- ---- growth for either

abbrev pub grows : Tables → List Event → (p d : ℕ) → Bool
grows t B p d = grows_for_cycle t B p d (last_waiter B) || owes_at_stop t B p d

pub grows-owed : (t : Tables) (B : List Event) (p d : ℕ) → grows t B p d ≡ true → OwesGrowth t B p d
grows-owed t B p d e =
    elim (or_cases _ _ e) [
      | inl cycle ↦ inl (grows_for_cycle-owed t B p d _ refl cycle)
      | inr stop ↦ inr (owes_at_stop-true t B p d stop)
    ]

pub grows-one : (t : Tables) (B : List Event) (p d q e : ℕ) → grows t B p d ≡ true → OwesGrowth t B q e
    → growth_after t B p d ≡ growth_after t B q e
grows-one t B p d q e told (inl owed) =
    elim (or_cases _ _ told) [
      | inl cycle ↦ grows_for_cycle-one t B p d q e _ refl cycle owed
      | inr stop ↦ absurd ((owes_at_stop-true t B p d stop).no_cycle q e owed)
    ]
grows-one t B p d q e told (inr owed) =
    elim (or_cases _ _ told) [
      | inl cycle ↦ absurd (owed.no_cycle p d (grows_for_cycle-owed t B p d _ refl cycle))
      | inr stop ↦ stops-one t B p d q e stop owed
    ]

abbrev pub owes_none : Tables → List Event → Bool
owes_none t B = owes_nothing t B (last_waiter B) && owes_none_at_stop t B

pub owes_none-true : (t : Tables) (B : List Event) (p d : ℕ) → owes_none t B ≡ true → OwesGrowth t B p d → ⊥
owes_none-true t B p d e (inl owed) = owes_nothing-true t B p d _ refl (and_parts _ _ e).0 owed
owes_none-true t B p d e (inr owed) = owes_none_at_stop-true t B p d (and_parts _ _ e).1 owed
