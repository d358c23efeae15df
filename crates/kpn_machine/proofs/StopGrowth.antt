-- The growth that is owed at a stop: the machine and the history agree on it.
use Rattle.std.proofs.Common.{◌≡◌, ◌↔◌, ℕ, ◌<◌, ◌≤◌, Bool, true, false, cond, ltb, List, length, Option, Some, None, refl, sym, ◌∙◌, subst, arith}
use Rattle.std.specs.Prelude.{Contains, IfSome}
use Rattle.kpn_machine.proofs.Common.{ltb-true, ltb-false, Process, Tables, writer_of, IsNetwork, IsSmallest, FindsSmallest, IsOwnWait, awaited_as_full, Contains-none, smallest_unique, smallest_with_same_capacities, cap_in, Event, capacity_or_zero, waits_of, OwesStopGrowth, OwesNoCycleGrowth, Machine, IsMachine, capacities, wait_in, IsRun, IsSettledNow, IsOwedAtStop, IsAwaitedBelowLimit, channel_to_grow}
use Rattle.kpn_net.specs.declared.wait.Wait.TheVariants.{Full}
use Rattle.kpn_net.specs.declared.found.Found.TheVariants as found
use Rattle.kpn_net.specs.declared.tables.Policy.TheVariants.{All}
use Rattle.kpn_net.proofs.Awaited.{awaited_by}
use Rattle.kpn_machine.proofs.Growing.{same_waits, same_capacity, full_wait}
use Rattle.kpn_machine.proofs.Settling.{settled_now}

module _ (t : Tables) (network : IsNetwork t) (H : List Event) (s : Machine) (run : IsRun t H s) where
  smallest_same : (d : ℕ) → IsSmallest (cap_in (capacities s)) (awaited_as_full t s.waits) d
      ↔ IsSmallest (capacity_or_zero t H) (awaited_as_full t (waits_of t H)) d
  smallest_same d = (
    λ is. subst (λ ws. IsSmallest (capacity_or_zero t H) (awaited_as_full t ws) d) (same_waits t network H s run)
        (smallest_with_same_capacities (cap_in (capacities s)) (capacity_or_zero t H) (awaited_as_full t s.waits)
        (λ c among. same_capacity t network H s run c) d is),
    λ is. smallest_with_same_capacities (capacity_or_zero t H) (cap_in (capacities s)) (awaited_as_full t s.waits)
        (λ c among. sym (same_capacity t network H s run c)) d
        (subst (λ ws. IsSmallest (capacity_or_zero t H) (awaited_as_full t ws) d)
        (sym (same_waits t network H s run)) is),
  )

  pub stop_by_history : OwesNoCycleGrowth t H → (p d : ℕ) → IsOwedAtStop t s p d → OwesStopGrowth t H p d
  stop_by_history none p d owed = record {
    policy = owed.policy;
    settled = (settled_now t network H s run).0 owed.settled;
    no_cycle = none;
    smallest = (smallest_same d).0 owed.smallest;
    below_limit = subst (λ n. n < t.limit) (same_capacity t network H s run d) owed.below_limit;
    there = owed.there;
    waits = sym (run.leads.waits p owed.there) ∙ owed.waits;
  }

  pub stop_now : (p d : ℕ) → OwesStopGrowth t H p d → IsOwedAtStop t s p d
  stop_now p d owes = record {
    policy = owes.policy;
    settled = (settled_now t network H s run).1 owes.settled;
    smallest = (smallest_same d).1 owes.smallest;
    below_limit = subst (λ n. n < t.limit) (sym (same_capacity t network H s run d)) owes.below_limit;
    there = owes.there;
    waits = run.leads.waits p owes.there ∙ owes.waits;
  }

-- ---- what the code finds

pub awaited_at_stop : (t : Tables) (s : Machine) (p d : ℕ) → IsOwedAtStop t s p d → IsAwaitedBelowLimit t s d
awaited_at_stop t s p d owed =
    record { process = p; there = owed.there; waits = owed.waits; below_limit = owed.below_limit }

-- the smallest channel exists and is below the limit, and this is its writer
pub owed_by_smallest : (t : Tables) (s : Machine) → IsMachine t s → t.policy ≡ All → IsSettledNow t s
    → (p d : ℕ) → IsSmallest (cap_in (capacities s)) (awaited_as_full t s.waits) d
    → cap_in (capacities s) d < t.limit → writer_of t d ≡ Process p → IsOwedAtStop t s p d
owed_by_smallest t s shape all settled p d smallest below writer =
    let by = awaited_by t s.waits d smallest.among in
    let waits : wait_in s by.process ≡ Full d = full_wait (wait_in s by.process) d by.full in
    let writes : writer_of t d ≡ Process by.process =
    subst (IsOwnWait t by.process) waits (shape.waits.own by.process by.there) in
    let same : by.process ≡ p = one_writer (sym writes ∙ writer) in
    record {
      policy = all;
      settled = settled;
      smallest = smallest;
      below_limit = below;
      there = subst (λ q. q < length t.instances) same by.there;
      waits = subst (λ q. wait_in s q ≡ Full d) same waits;
    }
  where
    one_writer : {q r : ℕ} → Process q ≡ Process r → q ≡ r
    one_writer is = cc

-- nothing is owed if no process waits as full, or if the smallest channel is at the limit
pub none_by_smallest : (t : Tables) (s : Machine) (found : Option ℕ)
    → FindsSmallest (cap_in (capacities s)) (awaited_as_full t s.waits) found
    → IfSome found (λ d. t.limit ≤ cap_in (capacities s) d) → (p d : ℕ) → ¬ IsOwedAtStop t s p d
none_by_smallest t s None finds at_limit p d owed =
    Contains-none d (subst (λ xs. Contains xs d) finds owed.smallest.among)
none_by_smallest t s (Some c) finds at_limit p d owed =
    let same = smallest_unique (cap_in (capacities s)) (awaited_as_full t s.waits) c d finds owed.smallest in
    let most = subst (λ x. t.limit ≤ cap_in (capacities s) x) same at_limit in
    let below = owed.below_limit in
    omega arith

pub full_number : (c d : ℕ) → found.Full c ≡ found.Full d → c ≡ d
full_number c d is = cc

-- a channel that was found may grow if and only if it is below the limit
pub to_grow : (cap : ℕ → ℕ) (limit c d : ℕ) → channel_to_grow cap limit (found.Full c) ≡ Some d
    → (c ≡ d) × (cap d < limit)
to_grow cap limit c d is = by_test (ltb (cap c) limit) refl is
  where
    by_test : (b : Bool) → ltb (cap c) limit ≡ b → cond b (Some c) None ≡ Some d → (c ≡ d) × (cap d < limit)
    by_test true below e =
        let same : c ≡ d = cc in (same, subst (λ x. cap x < limit) same (ltb-true _ _ below))
    by_test false above e = absurd cc

pub not_to_grow : (cap : ℕ → ℕ) (limit c : ℕ) → channel_to_grow cap limit (found.Full c) ≡ None → limit ≤ cap c
not_to_grow cap limit c is = by_test (ltb (cap c) limit) refl is
  where
    by_test : (b : Bool) → ltb (cap c) limit ≡ b → ◌≡◌ {A = Option ℕ} (cond b (Some c) None) None → limit ≤ cap c
    by_test true below e = absurd cc
    by_test false above e = ltb-false _ _ above

-- the writer of a channel whose growth is owed is the process that waits on it
pub owed_writer : (t : Tables) (s : Machine) → IsMachine t s → (p d : ℕ) → IsOwedAtStop t s p d
    → writer_of t d ≡ Process p
owed_writer t s shape p d owed = subst (IsOwnWait t p) owed.waits (shape.waits.own p owed.there)
