-- What the counts of the schedule show: if some process has not stopped, the run is not settled, and if nobody waits on
-- a full channel, no growth is owed.
use Rattle.kpn_book.proofs.Common.{◌≡◌, ℕ, zero, suc, ◌<◌, cond, List, [], ◌∷◌, length, get_or, count_by, Some, sym, ◌∙◌, arith, sum_by-cons, Wait, Nobody, Empty, Full, IsNetwork, full_channel, full_channels, full_at, Counts, IsSettled, AreCounts, waits_of, stopped_state, is_full_wait, AreAllStopped, state_at, Book, IsInStep, GrowsIfOwed}
use Rattle.std.specs.List.{Contains, range_with_len}
use Rattle.kpn_book.specs.declared.answers.Done.TheVariants as done
use Rattle.kpn_book.proofs.Answering.{none_at_stop, blocked_then}
use Rattle.kpn_book.proofs.Standing.{states_in_step, full_count}

pub not_settled : (b : Book) → IsInStep b → (AreAllStopped b.schedule.states → ⊥) → ¬ IsSettled b.tables b.history
not_settled b step some settled =
    some
    (λ p below.
    let long = step.processes in
    let there : p < length b.tables.instances = omega (arith, long, below) in
    (stopped_state b.tables b.history p (state_at b.schedule.states p) (states_in_step b step p there)).1
    (settled.processes p there))

-- ---- nobody waits on a full channel

is_not_full : (w : Wait) (d : ℕ) → cond {A = ℕ} (is_full_wait w) 1 0 ≡ 0 → full_channel w ≡ Some d → ⊥
is_not_full Nobody d none is = absurd cc
is_not_full (Empty c) d none is = absurd cc
is_not_full (Full c) d none is = absurd (omega (arith, none))

none_full : (ws : List Wait) → count_by is_full_wait ws ≡ 0 → (q d : ℕ) → full_channel (get_or ws q Nobody) ≡ Some d → ⊥
none_full [] none q d is = absurd cc
none_full (w ∷ ws) none zero d is =
    let sum = sum_by-cons (λ x. cond (is_full_wait x) 1 0) w ws in
    is_not_full w d (omega arith) is
none_full (w ∷ ws) none (suc q) d is =
    let sum = sum_by-cons (λ x. cond (is_full_wait x) 1 0) w ws in
    none_full ws (omega arith) q d is

-- then no growth is owed for a wait of process p
pub nothing_to_grow : (b : Book) → IsNetwork b.tables → IsInStep b → (counts : Counts)
    → AreCounts b.schedule.states counts → counts.full ≡ 0 → (p : ℕ) → GrowsIfOwed p done.Blocked b b
nothing_to_grow b network step counts are zero_full p =
    blocked_then p b b
    (none_at_stop b step (λ q d owes. no_full (q ∷ owes.others) d owes.smallest.among)
    (λ q d owes. no_full (range_with_len 0 (length b.tables.instances)) d owes.smallest.among))
  where
    no_full : (members : List ℕ) (d : ℕ) → Contains (full_channels (waits_of b.tables b.history) members) d → ⊥
    no_full members d among =
        let at = full_at (waits_of b.tables b.history) members d among in
        none_full (waits_of b.tables b.history) (sym (full_count b network step counts are) ∙ zero_full)
        at.member d at.full
