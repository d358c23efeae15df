-- The book with the events of a batch is kept.
use Rattle.kpn_book.proofs.Common.{◌≡◌, ◌⊎◌, ℕ, ◌+◌, ◌<◌, ◌^◌, Bool, true, false, cond, List, ◌++◌, length, get_or, None, refl, sym, ap, ◌∙◌, subst, inl, inr, arith, range_with_len, sum_by-append, Wait, Nobody, Empty, Full, Recorded, is_of_process, process_events, OwesNothing, Machine, end_in, wait_in, IsRun, SideState, is_in_region, Batch, has_put_items, has_taken, wait_joined, Joins, Schedule, state_at, region_woken, Book, IsStateBy, IsKept, with_batch}
use Rattle.kpn_region.specs.Turn.{side_in}
use Rattle.kpn_book.proofs.Queueing.{range_has}
use Rattle.kpn_book.proofs.Following.{recorded, moved, same_recorded}
use Rattle.kpn_book.proofs.Regions.{length_woken, held_at_most, agrees_then, stands_so}

-- a batch ends a wait, or leaves it
wait_ends_or_stays : (sides : List SideState) (wait : Wait)
    → (wait_joined sides wait ≡ Nobody) ⊎ (wait_joined sides wait ≡ wait)
wait_ends_or_stays sides Nobody = inl refl
wait_ends_or_stays sides (Empty c) = by_test (has_put_items (side_in sides c))
  where
    by_test : (b : Bool) → (cond b Nobody (Empty c) ≡ Nobody) ⊎ (cond b Nobody (Empty c) ≡ Empty c)
    by_test true = inl refl
    by_test false = inr refl
wait_ends_or_stays sides (Full c) = by_test (has_taken (side_in sides c))
  where
    by_test : (b : Bool) → (cond b Nobody (Full c) ≡ Nobody) ⊎ (cond b Nobody (Full c) ≡ Full c)
    by_test true = inl refl
    by_test false = inr refl

module _ (b : Batch) (book : Book) (s : Machine) (kept : IsKept book) (joins : Joins b book.machine s)
    (network : b.tables ≡ book.tables) where
  wait_now : (q : ℕ) → q < length book.tables.instances
      → (wait_in s q ≡ Nobody) ⊎ (wait_in s q ≡ wait_in book.machine q)
  wait_now q there =
      let is = joins.each_wait q (subst (λ t. q < length t.instances) (sym network) there) in
      elim (wait_ends_or_stays b.now.sides (wait_in book.machine q)) [
        | inl none ↦ inl (is ∙ none)
        | inr same ↦ inr (is ∙ same)
      ]

  states_joined : (q : ℕ) → q < length book.tables.instances
      → IsStateBy (end_in s q) (wait_in s q) (state_at (with_batch b s book).schedule.states q)
  states_joined q there =
      let long : q < length book.schedule.states = let same = kept.in_step.processes in omega (arith, there, same) in
      subst (λ e. IsStateBy e (wait_in s q) (state_at (with_batch b s book).schedule.states q))
      (ap (λ ends. get_or ends q None) (sym joins.ends))
      (agrees_then (is_in_region b.now) s.waits (end_in book.machine q) q
      (range_with_len 0 (length book.schedule.states)) book.schedule long
      (range_has (length book.schedule.states) q long)
      (stands_so (end_in book.machine q) (wait_in book.machine q) (wait_in s q)
      (state_at book.schedule.states q) (kept.in_step.states q there) (wait_now q there)))

  pub kept_with_batch : IsRun book.tables (book.history ++ b.events) s
      → OwesNothing book.tables (book.history ++ b.events)
      → book.commits + process_events b.events + length book.tables.instances < 2 ^ 64
      → IsKept (with_batch b s book)
  kept_with_batch run nothing few =
      let long =
      length_woken (is_in_region b.now) s.waits (range_with_len 0 (length book.schedule.states)) book.schedule
      ∙ kept.in_step.processes in
      let most = held_at_most (with_batch b s book) long in
      let events : process_events (book.history ++ b.events)
      ≡ process_events book.history + process_events b.events =
      sum_by-append (λ e. cond (is_of_process e) 1 0) book.history b.events in
      let before = kept.committed in
      record {
        in_step = record { run = run; processes = long; states = states_joined };
        nothing_owed = nothing;
        committed = omega (arith, events, before);
        countable = omega (arith, most, few);
      }

-- a book with the events, the schedule and the count of a batch
pub joined_book : (b : Batch) (s : Machine) (book : Book) (h : Recorded) (order : Schedule) (n : ℕ)
    → h.events ≡ book.history ++ b.events → h.is_kept ≡ book.keeps_events → order ≡ region_woken (is_in_region b.now) s.waits book.schedule
    → n ≡ process_events b.events → record (recorded book h s order) { commits = book.commits + n } ≡ with_batch b s book
joined_book b s book h order n history kept schedule count =
    ap (λ (x : Book). record x { commits = book.commits + n }) (same_recorded book h s order (book.history ++ b.events) history kept)
    ∙ ap (λ x. record (moved book s x) { history = book.history ++ b.events; commits = book.commits + n }) schedule
    ∙ ap
    (λ x. record (moved book s (region_woken (is_in_region b.now) s.waits book.schedule)) {
      history = book.history ++ b.events;
      commits = book.commits + x;
    })
    count
