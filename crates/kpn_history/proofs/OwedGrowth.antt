-- The growth that is owed is what a search for the cycle through the last waiter finds, if that is below the limit. Its
-- channel has a writer that waits on it as full.
use Rattle.kpn_history.proofs.Common.{unwrap_or, both_ways, cases_lt, false≢true, MAX_CAPACITY, Found, Tables, IsNetwork, End, Process, Cycles, All, wait_at, full_channel, awaited_as_full, IsSmallestOfCycle, Finds, Event, Get, Put, Feed, Grow, is_of, is_end_of, has_ended, capacity_after, capacity_or_zero, wait_of, waits_of, wait_made, wait_then, IsSettled, waiter, OwesCycleGrowth, OwesGrowth, Legal, OwesNothing, OwesNoCycleGrowth, OwesNoStopGrowth, lets_go_on, IsAwaitedByWriter, HasCapacityBelow, awaited_among, awaited_by, full_at, cycle_below, smallest_among, smallest_unique, limit_in_range}
use Rattle.std.proofs.Common.{◌≡◌, ◌↔◌, ℕ, ◌<◌, ◌≤◌, Bool, true, false, eq-eqb, List, [], ◌∷◌, ◌++◌, length, Some, refl, sym, ap, ◌∙◌, subst, inl, inr, arith}
use Rattle.kpn_net.specs.declared.found.Found.TheVariants.{Full}
use Rattle.kpn_net.specs.declared.wait.Wait.TheVariants as wait
use Rattle.kpn_net.proofs.Findings.{finding_unique}
use Rattle.kpn_history.proofs.Legality.{Legal-last, Legal-before}
use Rattle.kpn_history.proofs.AfterEvent.{has_ended-next, is_closed-next}
use Rattle.kpn_history.proofs.EarlierWaits.{wait_at-waits_of}
use Rattle.kpn_history.proofs.Growth.{Some-number, last_waiter, last_waiter-push, blocked_in_table, one_cycle_owed}
use Rattle.kpn_history.proofs.OwnWaits.{wait_on_full}
use Rattle.kpn_history.proofs.Stops.{is_filled, is_blocked}
use Rattle.kpn_history.proofs.Capacities.{below_limit}
use Rattle.kpn_history.proofs.WaitsAfter.{wait_of-more, alive_before, ended_is_not_blocked}
use Rattle.kpn_history.proofs.Waking.{wait_of-then}

-- ---- the cycle through the last waiter

module _ (t : Tables) (H : List Event) (p : ℕ) (last : last_waiter H ≡ Some p) (found : Found)
    (finds : Finds t (waits_of t H) (capacity_or_zero t H) p found) where
  finds_owed : (d : ℕ) → OwesCycleGrowth t H p d → found ≡ Full d
  finds_owed d owed =
      finding_unique t (waits_of t H) (capacity_or_zero t H) p found (Full d) finds
      (record { others = owed.others; cycle = owed.cycle; smallest = owed.smallest })

  owes_found : (d : ℕ) → found ≡ Full d → capacity_or_zero t H d < t.limit → OwesCycleGrowth t H p d
  owes_found d is below =
      let s : IsSmallestOfCycle t (waits_of t H) (capacity_or_zero t H) p d =
      subst (Finds t (waits_of t H) (capacity_or_zero t H) p) is finds in
      record {
        wait = last;
        others = s.others;
        cycle = s.cycle;
        smallest = s.smallest;
        below_limit = below;
      }

  owed_exactly : (d : ℕ) → OwesCycleGrowth t H p d ↔ ((found ≡ Full d) × (capacity_or_zero t H d < t.limit))
  owed_exactly d = (λ owed. (finds_owed d owed, owed.below_limit), λ h. owes_found d h.0 h.1)

  nothing_found : OwesNoCycleGrowth t H → (d : ℕ) → found ≡ Full d → t.limit ≤ capacity_or_zero t H d
  nothing_found nothing d is =
      elim (cases_lt (capacity_or_zero t H d) t.limit) [
        | inl below ↦ absurd (nothing p d (owes_found d is below))
        | inr large ↦ large
      ]

  nothing_owed : ((d : ℕ) → found ≡ Full d → t.limit ≤ capacity_or_zero t H d) → OwesNoCycleGrowth t H
  nothing_owed large q d owed =
      let same : q ≡ p = Some-number q p (sym owed.wait ∙ last) in
      let here : OwesCycleGrowth t H p d = subst (λ r. OwesCycleGrowth t H r d) same owed in
      let most = large d (finds_owed d here) in
      let below = here.below_limit in
      omega arith

  nothing_exactly : OwesNoCycleGrowth t H ↔ ((d : ℕ) → found ≡ Full d → t.limit ≤ capacity_or_zero t H d)
  nothing_exactly = (nothing_found, nothing_owed)

pub owed_as_found : (t : Tables) (B : List Event) (e : Event) (p : ℕ) → waiter e ≡ Some p → (found : Found)
    → Finds t (waits_of t (B ++ e ∷ [])) (capacity_or_zero t (B ++ e ∷ [])) p found → (d : ℕ)
    → OwesCycleGrowth t (B ++ e ∷ []) p d ↔ ((found ≡ Full d) × (capacity_or_zero t (B ++ e ∷ []) d < t.limit))
owed_as_found t B e p last = owed_exactly t (B ++ e ∷ []) p (last_waiter-push B e ∙ last)

pub nothing_as_found : (t : Tables) (B : List Event) (e : Event) (p : ℕ) → waiter e ≡ Some p → (found : Found)
    → Finds t (waits_of t (B ++ e ∷ [])) (capacity_or_zero t (B ++ e ∷ [])) p found
    → OwesNoCycleGrowth t (B ++ e ∷ []) ↔ ((d : ℕ) → found ≡ Full d → t.limit ≤ capacity_or_zero t (B ++ e ∷ []) d)
nothing_as_found t B e p last = nothing_exactly t (B ++ e ∷ []) p (last_waiter-push B e ∙ last)

-- ---- the channel of an owed growth

pub writer_awaits : (t : Tables) → IsNetwork t → (H : List Event) → Legal t H → (p d : ℕ) → OwesGrowth t H p d
    → IsAwaitedByWriter t H d
writer_awaits t network H legal p d (inl owed) =
    let at_d = full_at (waits_of t H) (p ∷ owed.others) d owed.smallest.among in
    let below = cycle_below t (waits_of t H) p owed.others owed.cycle at_d.member at_d.among in
    let waits = blocked_in_table t H at_d.member d below at_d.full in
    record {
      writer = at_d.member;
      there = below;
      writes = (wait_on_full t network H legal at_d.member d waits).writes;
      waits = waits;
    }
writer_awaits t network H legal p d (inr owed) =
    record {
      writer = p;
      there = owed.there;
      writes = (wait_on_full t network H legal p d owed.waits).writes;
      waits = owed.waits;
    }

pub owed_below_limit : (t : Tables) → IsNetwork t → (H : List Event) → Legal t H → (p d : ℕ) → OwesGrowth t H p d
    → HasCapacityBelow t H t.limit d
owed_below_limit t network H legal p d owed =
    let w = writer_awaits t network H legal p d owed in
    let at = wait_on_full t network H legal w.writer d w.waits in
    let filled = is_filled t network H legal d at.full in
    record {
      there = filled.there;
      capacity = filled.cap;
      is = filled.is;
      some = filled.some;
      below = subst (λ o. unwrap_or o 0 < t.limit) filled.is (below_limit t H p d owed);
    }

pub owed_below_most : (t : Tables) → IsNetwork t → (H : List Event) → Legal t H → (p d : ℕ) → OwesGrowth t H p d
    → HasCapacityBelow t H MAX_CAPACITY d
owed_below_most t network H legal p d owed =
    let h = owed_below_limit t network H legal p d owed in
    let below = h.below in
    let limit = (limit_in_range t network).1 in
    record {
      there = h.there;
      capacity = h.capacity;
      is = h.is;
      some = h.some;
      below = omega arith;
    }

-- ---- a growth for a stop

pub no_stop_under_cycles : (t : Tables) (H : List Event) → t.policy ≡ Cycles → OwesNoStopGrowth t H
no_stop_under_cycles t H cycles p d owed = let clash = sym cycles ∙ owed.policy in cc

-- at most one growth is owed
pub one_owed : (t : Tables) → IsNetwork t → (H : List Event) → Legal t H → (p d q e : ℕ) → OwesGrowth t H p d
    → OwesGrowth t H q e → (p ≡ q) × (d ≡ e)
one_owed t network H legal p d q e (inl owed) (inl other) = one_cycle_owed t H p d q e owed other
one_owed t network H legal p d q e (inl owed) (inr other) = absurd (other.no_cycle p d owed)
one_owed t network H legal p d q e (inr owed) (inl other) = absurd (owed.no_cycle q e other)
one_owed t network H legal p d q e (inr owed) (inr other) =
    let channel : d ≡ e =
    smallest_unique (capacity_or_zero t H) (awaited_as_full t (waits_of t H)) d e owed.smallest other.smallest in
    let writes = (wait_on_full t network H legal p d owed.waits).writes in
    let waits : wait_of t H q ≡ wait.Full d = subst (λ c. wait_of t H q ≡ wait.Full c) (sym channel) other.waits in
    let also = (wait_on_full t network H legal q d waits).writes in
    (same_process (sym writes ∙ also), channel)
  where
    same_process : ◌≡◌ {A = End} (Process p) (Process q) → p ≡ q
    same_process is = cc

-- a process that is free goes on, so the history is not settled
free_goes_on : (t : Tables) (H : List Event) (p : ℕ) → p < length t.instances → has_ended H p ≡ false
    → wait_of t H p ≡ wait.Nobody → ¬ IsSettled t H
free_goes_on t H p below lives free settled = is_blocked t H settled p below lives free

-- after an event of its own that makes no wait and is no end a process is free
free_after : (t : Tables) → IsNetwork t → (B : List Event) (e : Event) → Legal t (B ++ e ∷ []) → (p : ℕ)
    → p < length t.instances → is_of p e ≡ true → is_end_of p e ≡ false → wait_made e ≡ wait.Nobody
    → ¬ IsSettled t (B ++ e ∷ [])
free_after t network B e legal p below own no_end none =
    free_goes_on t (B ++ e ∷ []) p below
    (has_ended-next B e p ∙ rw (alive_before t B e legal p own, no_end) refl)
    (wait_of-more t network B e legal p ∙ rw (own, none) refl)

-- after an item has moved or a channel has grown the history is not settled
pub unsettled_after : (t : Tables) → IsNetwork t → (B : List Event) (e : Event) → Legal t (B ++ e ∷ [])
    → lets_go_on e ≡ true → ¬ IsSettled t (B ++ e ∷ [])
unsettled_after t network B (Get p c v) legal goes =
    free_after t network B (Get p c v) legal p (Legal-last t B (Get p c v) legal).numbers.0 (eq-eqb p p refl) refl refl
unsettled_after t network B (Put p c v) legal goes =
    free_after t network B (Put p c v) legal p (Legal-last t B (Put p c v) legal).numbers.0 (eq-eqb p p refl) refl refl
unsettled_after t network B (Feed c v) legal goes = λ settled.
    let next = Legal-last t B (Feed c v) legal in
    both_ways _ (is_closed-next B (Feed c v) c ∙ rw next.due.not_closed refl)
    (settled.sources c next.numbers next.due.source)
unsettled_after t network B (Grow p d n) legal goes =
    let before = Legal-before t B (Grow p d n) legal in
    let w = writer_awaits t network B before p d (Legal-last t B (Grow p d n) legal).due in
    let free : wait_of t (B ++ Grow p d n ∷ []) w.writer ≡ wait.Nobody =
    wait_of-then t network B (Grow p d n) legal w.writer ∙ ap (wait_then t (Grow p d n) w.writer) w.waits
    ∙ rw (eq-eqb d d refl) refl in
    let lives : has_ended B w.writer ≡ false =
    alive w.writer (has_ended B w.writer) refl (λ is. let none =
    ended_is_not_blocked t network w.writer B before is in let waits = w.waits in cc) in
    free_goes_on t (B ++ Grow p d n ∷ []) w.writer w.there (has_ended-next B (Grow p d n) w.writer ∙ rw lives refl) free
  where
    alive : (w : ℕ) (b : Bool) → has_ended B w ≡ b → (has_ended B w ≡ true → ⊥) → has_ended B w ≡ false
    alive w true is not_ended = absurd (not_ended is)
    alive w false is not_ended = is
unsettled_after t network B e legal goes = absurd (false≢true goes)

pub no_stop_owed_after : (t : Tables) → IsNetwork t → (B : List Event) (e : Event) → Legal t (B ++ e ∷ [])
    → lets_go_on e ≡ true → OwesNoStopGrowth t (B ++ e ∷ [])
no_stop_owed_after t network B e legal goes p d owed = unsettled_after t network B e legal goes owed.settled

-- if nothing is owed at a stop under `all`, each channel on which a process waits as full is at the limit
pub no_wait_left : (t : Tables) → IsNetwork t → (H : List Event) → Legal t H → OwesNothing t H → t.policy ≡ All
    → IsSettled t H → (p c : ℕ) → p < length t.instances → wait_of t H p ≡ wait.Full c
    → capacity_after t H c ≡ Some t.limit
no_wait_left t network H legal nothing all settled p c below waits =
    let cap = capacity_or_zero t H in
    let awaited = awaited_as_full t (waits_of t H) in
    let full : full_channel (wait_at (waits_of t H) p) ≡ Some c =
    ap full_channel (wait_at-waits_of t H p below ∙ waits) in
    let among = awaited_among t (waits_of t H) p c below full in
    let least = smallest_among cap awaited c among in
    let by = awaited_by t (waits_of t H) least.channel least.is.among in
    let filled = is_filled t network H legal c (wait_on_full t network H legal p c waits).full in
    let most = filled.in_limit in
    let here : cap c ≡ filled.cap = ap (λ o. unwrap_or o 0) filled.is in
    elim (cases_lt (cap least.channel) t.limit) [
      | inl room ↦
          absurd
          (nothing by.process least.channel
          (inr
          (record {
            policy = all;
            settled = settled;
            no_cycle = λ q e owed. nothing q e (inl owed);
            smallest = least.is;
            below_limit = room;
            there = by.there;
            waits = blocked_in_table t H by.process least.channel by.there by.full;
          })))
      | inr large ↦
          elim (least.is.least c among) [
            | inl less ↦ absurd (omega arith)
            | inr tie ↦ let same = tie.0 in filled.is ∙ ap Some (omega arith)
          ]
    ]
