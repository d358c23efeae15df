-- Growth: the search along the waits finds the growth that is owed, and the channel becomes what the event makes of it.
use Rattle.std.proofs.Common.{◌≡◌, ◌↔◌, ℕ, ◌<◌, ◌≤◌, Bool, true, false, not, cond, eq-eqb, ltb, IsTrue, List, [], ◌∷◌, ◌++◌, length, Option, Some, None, is_some, refl, sym, ap, ◌∙◌, subst, inl, inr, arith, IsSomeAnd, ◌||◌, append-nil, add-zero, slice_set}
use Rattle.kpn_machine.proofs.Common.{unwrap_or, option_map, false≢true, cases_lt, ltb-true, ltb-false, ne_eqb, get_or_past, get_or-map, ext_get_or, length-map, length-map-range_with_len, Found, Wait, Tables, channel_at, is_source, capacity, larger_capacity, writer_of, IsNetwork, wait_at, full_channel, IsOwnWait, AreWaits, Finds, full_at, cycle_below, full_cycle_unique, finding_unique, finding_with_same_capacities, Writes, Writes-writer_of, Writes-below, source_if_not_written, limit_in_range, larger_capacity_in_range, cap_in, opened, grown_to, MayGrowTo, Event, Grow, after_growths, capacity_after, capacity_or_zero, capacity_then, wait_of, waits_of, Legal, HasNumbers, OwesCycleGrowth, OwesGrowth, growth_after, waiter, by_events, Legal-last, capacity_after-next, Legal-exactly, Machine, channel_in, IsMachine, capacities, IsRun, IsOwed, IsAwaitedBelowLimit, channel_to_grow, is_wait, woken_at}
use Rattle.kpn_net.specs.declared.found.Found.TheVariants.{NoCycle, AllEmpty, Full}
use Rattle.kpn_net.specs.declared.wait.Wait.TheVariants as wait
use Rattle.kpn_limits.specs.declared.TheConstants.{MAX_CAPACITY}
use Rattle.kpn_history.proofs.EarlierWaits.{wait_at-waits_of}
use Rattle.kpn_history.proofs.OwedGrowth.{one_owed, owed_as_found}
use Rattle.kpn_machine.proofs.Parts.{or-false, keeps_reader, wakes-grow}
use Rattle.kpn_machine.proofs.Calls.{Made, made_on}

-- ---- what is found is what is owed

module _ (t : Tables) (s : Machine) (p : ℕ) where
  pub owed_by_finding : (found : Found) → Finds t s.waits (cap_in (capacities s)) p found → (d : ℕ)
      → (channel_to_grow (cap_in (capacities s)) t.limit found ≡ Some d) ↔ IsOwed t s p d
  owed_by_finding NoCycle finds d = (
    λ e. absurd cc,
    λ owed. absurd (finds owed.smallest.others owed.smallest.cycle),
  )
  owed_by_finding AllEmpty finds d = (
    λ e. absurd cc,
    λ owed. let same : AllEmpty ≡ Full d =
        finding_unique t s.waits (cap_in (capacities s)) p AllEmpty (Full d) finds owed.smallest in absurd cc,
  )
  owed_by_finding (Full c) finds d = by_test (ltb (cap_in (capacities s) c) t.limit) refl
    where
      by_test : (b : Bool) → ltb (cap_in (capacities s) c) t.limit ≡ b
          → (cond b (Some c) None ≡ Some d) ↔ IsOwed t s p d
      by_test true is = (
        λ e. let same : c ≡ d =
            cc in subst (λ x. IsOwed t s p x) same (record { smallest = finds; below_limit = ltb-true _ _ is }),
        λ owed. ap Some (full_cycle_unique t s.waits (cap_in (capacities s)) p c d finds owed.smallest),
      )
      by_test false is = (
        λ e. absurd cc,
        λ owed.
            let same : d ≡ c = full_cycle_unique t s.waits (cap_in (capacities s)) p d c owed.smallest finds in
            let below = subst (λ x. cap_in (capacities s) x < t.limit) same owed.below_limit in
            let above = ltb-false _ _ is in
            absurd (omega arith),
      )

-- ---- the tables of a history are those of the machine

module _ (t : Tables) (network : IsNetwork t) (H : List Event) (s : Machine) (run : IsRun t H s) where
  pub same_waits : s.waits ≡ waits_of t H
  same_waits =
      ext_get_or wait.Nobody s.waits (waits_of t H)
      (run.shape.waits.one_each ∙ sym (length-waits_of t H))
      (λ q below. let there : q < length t.instances = omega (arith, run.shape.waits.one_each) in
      run.leads.waits q there ∙ sym (wait_at-waits_of t H q there))
    where
      length-waits_of : (t : Tables) (H : List Event) → length (waits_of t H) ≡ length t.instances
      length-waits_of t H = length-map-range_with_len (wait_of t H) 0 (length t.instances)

  outside : (c : ℕ) → length t.channels ≤ c → (H : List Event) → Legal t H
      → capacity_after t H c ≡ capacity (channel_at t c)
  outside c past =
      by_events t (λ H. capacity_after t H c ≡ capacity (channel_at t c)) (first (capacity (channel_at t c)))
      (λ B e legal h. capacity_after-next t B e c ∙ none e (Legal-last t B e legal).numbers (capacity_after t B c)
      ∙ h)
    where
      first : (o : Option ℕ) → option_map (after_growths t 0) o ≡ o
      first None = refl
      first (Some n) = refl

      none : (e : Event) → HasNumbers t e → (o : Option ℕ) → capacity_then t c e o ≡ o
      none (Grow q d m) n o = let below =
          n.1 in ap (λ b. cond b (option_map (larger_capacity t) o) o) (ne_eqb d c (λ e. absurd (omega arith)))
      none event n o = refl

  pub same_capacity : (c : ℕ) → cap_in (capacities s) c ≡ capacity_or_zero t H c
  same_capacity c =
      elim (cases_lt c (length t.channels)) [
        | inl below ↦
            get_or-map (λ x. unwrap_or x.capacity 0) s.channels c (opened None false) 0
            (omega (arith, run.shape.channels))
            ∙ ap (λ o. unwrap_or o 0) (run.leads.channels c below).capacity
        | inr past ↦
            get_or_past (capacities s) c 0
            (let len = length-map s.channels (λ x. unwrap_or x.capacity 0) in omega (arith, run.shape.channels))
            ∙ sym
            (ap (λ o. unwrap_or o 0) (outside c past H run.legal)
            ∙ ap (λ ch. unwrap_or (capacity ch) 0) (get_or_past t.channels c _ past))
      ]

  -- what is owed by the history is what is owed by the machine
  pub finds_same : (p : ℕ) (found : Found) → Finds t s.waits (cap_in (capacities s)) p found
      → Finds t (waits_of t H) (capacity_or_zero t H) p found
  finds_same p found finds =
      finding_with_same_capacities t (waits_of t H) (subst (λ ws. AreWaits t ws) same_waits run.shape.waits)
      (cap_in (capacities s)) (capacity_or_zero t H) (λ c source. same_capacity c) p found
      (subst (λ ws. Finds t ws (cap_in (capacities s)) p found) same_waits finds)

module _ (t : Tables) (network : IsNetwork t) (B : List Event) (e : Event) (p : ℕ) (last : waiter e ≡ Some p)
    (s : Machine) (run : IsRun t (B ++ e ∷ []) s) where
  pub owed_by_history : (d : ℕ) → IsOwed t s p d ↔ OwesCycleGrowth t (B ++ e ∷ []) p d
  owed_by_history d = (
    λ owed.
        (owed_as_found t B e p last (Full d) (finds_same t network (B ++ e ∷ []) s run p (Full d) owed.smallest) d).1
        (refl, subst (λ n. n < t.limit) (same_capacity t network (B ++ e ∷ []) s run d) owed.below_limit),
    λ owes. record {
      smallest =
          finding_with_same_capacities t s.waits run.shape.waits (capacity_or_zero t (B ++ e ∷ []))
          (cap_in (capacities s)) (λ c source. sym (same_capacity t network (B ++ e ∷ []) s run c)) p (Full d)
          (subst (λ ws. Finds t ws (capacity_or_zero t (B ++ e ∷ [])) p (Full d))
          (sym (same_waits t network (B ++ e ∷ []) s run))
          (record { others = owes.others; cycle = owes.cycle; smallest = owes.smallest }));
      below_limit = subst (λ n. n < t.limit) (sym (same_capacity t network (B ++ e ∷ []) s run d)) owes.below_limit;
    },
  )

pub both : {P Q R : Type 0} → P ↔ Q → Q ↔ R → P ↔ R
both h k = (λ p. k.0 (h.0 p), λ r. h.1 (k.1 r))

-- ---- the channel made larger

pub full_wait : (w : Wait) (d : ℕ) → full_channel w ≡ Some d → w ≡ wait.Full d
full_wait wait.Nobody d is = absurd cc
full_wait (wait.Empty c) d is = absurd cc
full_wait (wait.Full c) d is = let same : c ≡ d = cc in ap wait.Full same

-- some member of the cycle waits on the channel whose growth is owed for the cycle
pub awaited_in_cycle : (t : Tables) (s : Machine) (p d : ℕ) → IsOwed t s p d → IsAwaitedBelowLimit t s d
awaited_in_cycle t s p d owed =
    let at = full_at s.waits (p ∷ owed.smallest.others) d owed.smallest.smallest.among in
    record {
      process = at.member;
      there = cycle_below t s.waits p owed.smallest.others owed.smallest.cycle at.member at.among;
      waits = full_wait (wait_at s.waits at.member) d at.full;
      below_limit = owed.below_limit;
    }

module _ (t : Tables) (network : IsNetwork t) (s : Machine) (shape : IsMachine t s) (p d : ℕ)
    (owed : IsAwaitedBelowLimit t s d) where
  written : Writes t owed.process d
  written =
      Writes-writer_of t owed.process d
      (subst (IsOwnWait t owed.process) owed.waits (shape.waits.own owed.process owed.there))

  pub owed_below : d < length t.channels
  owed_below = Writes-below t network owed.process d written

  no_source : is_source (channel_at t d) ≡ false
  no_source = source_if_not_written t network owed.process d written

  owed_capacity : (channel_in s d).capacity ≡ Some (cap_in (capacities s) d)
  owed_capacity =
      by_capacity (channel_in s d).capacity (shape.bounded d owed_below ∙ ap not no_source)
      (sym
      (get_or-map (λ x. unwrap_or x.capacity 0) s.channels d (opened None false) 0
      (let b = owed_below in omega (arith, shape.channels))))
    where
      by_capacity : (o : Option ℕ) → is_some o ≡ true → unwrap_or o 0 ≡ cap_in (capacities s) d
          → o ≡ Some (cap_in (capacities s) d)
      by_capacity None some is = absurd cc
      by_capacity (Some n) some is = ap Some is

  pub owed_may_grow : MayGrowTo (larger_capacity t (cap_in (capacities s) d)) (channel_in s d)
  owed_may_grow =
      let some = shape.positive d (cap_in (capacities s) d) owed_below owed_capacity in
      let larger = larger_capacity_in_range t (cap_in (capacities s) d) some owed.below_limit in
      let within = larger.1 in
      let limit : t.limit ≤ MAX_CAPACITY = (limit_in_range t network).1 in (
        subst (λ o. IsSomeAnd o (λ n. n < larger_capacity t (cap_in (capacities s) d))) (sym owed_capacity) larger.0,
        omega arith,
      )

  -- a process waits on the channel as full, so an item is reserved there
  pub owed_is_reserved : IsTrue (channel_in s d).is_reserved
  owed_is_reserved = shape.reserved owed.process d owed.there owed_below owed.waits

  pub Made-grown : (r : Bool) → IsTrue r → (waits : List Wait)
      → waits ≡ woken_at (is_wait (wait.Full d)) s.waits (writer_of t d) → (after : Machine)
      → after ≡ record s {
        channels = slice_set s.channels d
            (grown_to (larger_capacity t (cap_in (capacities s) d)) r (channel_in s d));
        waits = waits;
      }
      → (n : ℕ) → Made t (Grow p d n) s after
  Made-grown r room waits woke after is n =
      made_on t s shape (Grow p d n) d (grown_to (larger_capacity t (cap_in (capacities s) d)) r (channel_in s d))
      (wait.Full d) s.frames owed_below
      ((limit_in_range t network).0, larger_than)
      (record {
        journal = sym (append-nil (channel_in s d).journal);
        read = sym (add-zero (channel_in s d).read);
        capacity =
            sym
            (ap (λ o. capacity_then t d (Grow p d n) o) owed_capacity
            ∙ ap (λ b. cond b (Some (larger_capacity t (cap_in (capacities s) d))) (Some (cap_in (capacities s) d)))
            (eq-eqb d d refl));
        retired =
            sym
            (ap (λ b. (channel_in s d).is_retired || b) (keeps_reader t (Grow p d n) d (λ r. refl) refl)
            ∙ or-false (channel_in s d).is_retired);
        reserved = λ none was. room;
        most = refl;
        kept = refl;
      })
      (λ c differ.
      record {
        written = refl;
        read = refl;
        capacity = λ cap. ap (λ b. cond b (option_map (larger_capacity t) cap) cap) (ne_eqb d c (λ e. differ (sym e)));
        reader = keeps_reader t (Grow p d n) c (λ r. refl) refl;
      })
      (λ c. refl) (λ q end. refl) (λ e. absurd cc) (wakes-grow t p d n) refl (λ q is. absurd (false≢true is)) refl
      (λ q. refl) waits woke after is
    where
      larger_than : (cap : ℕ) → (channel_in s d).capacity ≡ Some cap → cap ≤ larger_capacity t cap
      larger_than cap is =
          let same : cap ≡ cap_in (capacities s) d = let e = sym is ∙ owed_capacity in cc in
          let some = shape.positive d cap owed_below is in
          let larger = (larger_capacity_in_range t cap some
          (subst (λ n. n < t.limit) (sym same) owed.below_limit)).0 in
          omega (arith, larger)

  -- the history gives the same larger capacity
  pub larger_by_history : (H : List Event) → IsRun t H s
      → larger_capacity t (cap_in (capacities s) d) ≡ larger_capacity t (capacity_or_zero t H d)
  larger_by_history H run = ap (larger_capacity t) (same_capacity t network H s run d)

  pub Legal-grown : (H : List Event) → p < length t.instances → IsRun t H s → OwesGrowth t H p d → (n : ℕ)
      → n ≡ larger_capacity t (cap_in (capacities s) d) → Legal t (H ++ Grow p d n ∷ [])
  Legal-grown H there run owes n is =
      (Legal-exactly t H (Grow p d n)).1 (
        run.legal,
        record {
          numbers = (there, owed_below);
          due = owes;
          growth = λ q e other. let same = one_owed t network H run.legal p d q e owes other in
              ap (λ m. Grow p d m) (is ∙ larger_by_history H run) ∙ ap (λ x. growth_after t H x d) same.0
              ∙ ap (λ x. growth_after t H q x) same.1;
        },
        tt,
      )
