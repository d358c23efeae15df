-- What a stop depends on. Ended is quiet, jammed is at the limit, and clogged waits for blocked processes. No event but
-- a leave can follow.
use Rattle.kpn_history.proofs.Common.{Contains, unwrap_or, ◌≡◌, ◌≢◌, ℕ, suc, ℤ, ◌<◌, ◌≤◌, true, false, not, List, [], ◌∷◌, ◌++◌, length, Option, Some, None, refl, sym, ap, ◌∙◌, subst, inl, inr, arith, and_parts, both_ways, cases_lt, not-true, eqb-true, false≢true, Wait, Nobody, Empty, Full, End, Process, Source, Sink, Tables, reader_of, IsNetwork, awaited, process_at, Event, Get, Put, WaitEmpty, WaitFull, Ended, Feed, Close, Take, Leave, Grow, Verdict, has_ended, last_event, unread_on, lives, reader_lives, reaches, capacity_after, is_full, is_left, wait_of, waits_of, full_in_cycle, HasFullCycle, CanGo, MayFeed, MayTake, Legal, WaitsOnFull, IsQuiet, IsSettled, IsVerdict, IsOldest, OwesNothing, IsJammedAtLimit, WaitsForBlocked, Reads-reader_of, Reads-below, sink-reader_of, sink_there, full_at, cycle_below}
use Rattle.kpn_history.specs.declared.state.Verdict.TheVariants as verdict
use Rattle.kpn_history.proofs.Legality.{Legal-last}
use Rattle.kpn_history.proofs.Capacities.{in_limit}
use Rattle.kpn_history.proofs.OneMore.{KeepsConsistent-last}
use Rattle.kpn_history.proofs.Growth.{reached, full_where_waited, full_in_table, nothing_can_grow}

-- ---- ended is quiet

pub quiet_where_ended : (t : Tables) (H : List Event) → IsVerdict t H (Some verdict.Ended) → IsQuiet t H
quiet_where_ended t H v = record {
  each = λ p below. elim (v.0.processes p below) [
    | inl ended ↦ inl ended
    | inr waits ↦ elim waits [
      | inl empty ↦ inr empty
      | inr full ↦ absurd (v.2 (record { process = p; there = below; waits = full }))
    ]
  ];
}

-- ---- full channels of a legal history

-- a channel whose reader lives is one of the network
read_there : (t : Tables) → IsNetwork t → (H : List Event) (c : ℕ) (end : End) → reader_of t c ≡ end
    → lives H c end ≡ true → c < length t.channels
read_there t network H c (Process q) is alive = Reads-below t network q c (Reads-reader_of t q c is)
read_there t network H c Source is alive = absurd (false≢true alive)
read_there t network H c Sink is alive = sink_there t c (sink-reader_of t c is)

-- what is full has a capacity from 1 to the limit, and as many items are unread
pub record IsFilled (t : Tables) (H : List Event) (c : ℕ) : Type 0 where
  pub there : c < length t.channels
  pub lives : reader_lives t H c ≡ true
  pub cap : ℕ
  pub is : capacity_after t H c ≡ Some cap
  pub some : 0 < cap
  pub in_limit : cap ≤ t.limit
  pub unread : cap ≤ length (unread_on H c)

pub is_filled : (t : Tables) → IsNetwork t → (H : List Event) → Legal t H → (c : ℕ) → is_full t H c ≡ true
    → IsFilled t H c
is_filled t network H legal c full =
    let parts = and_parts (reader_lives t H c) (reaches (capacity_after t H c) (length (unread_on H c))) full in
    let cap = reached (capacity_after t H c) (length (unread_on H c)) parts.1 in
    let there = read_there t network H c (reader_of t c) refl parts.0 in
    let bounds = (in_limit t network H legal).each c cap.cap there cap.is in
    record {
      there = there;
      lives = parts.0;
      cap = cap.cap;
      is = cap.is;
      some = bounds.0;
      in_limit = bounds.1;
      unread = cap.at_most;
    }

-- ---- jammed is at the limit

pub jammed_at_limit : (t : Tables) → IsNetwork t → (H : List Event) → Legal t H → OwesNothing t H
    → IsVerdict t H (Some verdict.Jammed) → IsJammedAtLimit t H
jammed_at_limit t network H legal nothing v =
    record {
      process = v.1.process;
      others = v.1.others;
      cycle = v.1.cycle;
      channel = v.1.channel;
      full = v.1.full;
      at_limit = at_limit;
    }
  where
    at_limit : (c : ℕ) → Contains (full_in_cycle t H v.1.process v.1.others) c → capacity_after t H c ≡ Some t.limit
    at_limit c h =
        let at_c = full_at (waits_of t H) (v.1.process ∷ v.1.others) c h in
        let below = cycle_below t (waits_of t H) v.1.process v.1.others v.1.cycle at_c.member at_c.among in
        let full = is_filled t network H legal c (full_in_table t H at_c.member c below at_c.full) in
        let most = full.in_limit in
        elim (cases_lt full.cap t.limit) [
          | inl room ↦ absurd (nothing_can_grow t network H legal nothing (record {
            process = v.1.process;
            others = v.1.others;
            cycle = v.1.cycle;
            channel = c;
            full = h;
            below_limit = subst (λ o. unwrap_or o 0 < t.limit) (sym full.is) room;
          }))
          | inr limit ↦ full.is ∙ ap Some (omega arith)
        ]

-- ---- clogged waits for blocked processes

blocked_on : (t : Tables) (H : List Event) (p : ℕ) (w : Wait) → wait_of t H p ≡ w → w ≢ Nobody
    → wait_of t H p ≢ Nobody
blocked_on t H p w is some none = some (sym is ∙ none)

pub is_blocked : (t : Tables) (H : List Event) → IsSettled t H → (p : ℕ) → p < length t.instances
    → has_ended H p ≡ false
    → wait_of t H p ≢ Nobody
is_blocked t H settled p below lives =
    elim (settled.processes p below) [
      | inl ended ↦ absurd (both_ways _ lives ended)
      | inr waits ↦ elim waits [
        | inl empty ↦ blocked_on t H p (Empty empty.channel) empty.blocked (λ e. absurd cc)
        | inr full ↦ blocked_on t H p (Full full.channel) full.blocked (λ e. absurd cc)
      ]
    ]

-- in a settled history the reader of a full channel is a process
pub waits_for_blocked : (t : Tables) → IsNetwork t → (H : List Event) → Legal t H → IsSettled t H → (p : ℕ)
    → WaitsOnFull t H p → WaitsForBlocked t H p
waits_for_blocked t network H legal settled p waits = by_reader (reader_of t c) refl
  where
    c : ℕ
    c = waits.channel

    full : IsFilled t H c
    full = is_filled t network H legal c (full_where_waited t H (last_event H p) c waits.blocked)

    by_reader : (end : End) → reader_of t c ≡ end → WaitsForBlocked t H p
    by_reader (Process q) is =
        let below = (Reads-reader_of t q c is).process in
        let lives : not (has_ended H q) ≡ true = subst (λ end. lives H c end ≡ true) is full.lives in
        record {
          next = q;
          there = below;
          awaited = ap (awaited t) waits.blocked ∙ ap process_at is;
          blocked = is_blocked t H settled q below (not-true _ lives);
        }
    by_reader Source is = absurd (false≢true (subst (λ end. lives H c end ≡ true) is full.lives))
    by_reader Sink is =
        let lives : not (is_left H c) ≡ true = subst (λ end. lives H c end ≡ true) is full.lives in
        elim (settled.sinks c full.there (sink-reader_of t c is)) [
          | inl empty ↦ let none : length (unread_on H c) ≡ 0 = eqb-true _ _ empty in let some =
              full.some in let unread = full.unread in absurd (omega arith)
          | inr left ↦ absurd (both_ways _ (not-true _ lives) left)
        ]

-- ---- what can follow a stop

cannot_go : (t : Tables) (H : List Event) → IsSettled t H → (p : ℕ) → p < length t.instances → CanGo t H p → ⊥
cannot_go t H settled p below go = is_blocked t H settled p below go.lives go.free

cannot_feed : (t : Tables) (H : List Event) → IsSettled t H → (c : ℕ) → c < length t.channels → MayFeed t H c → ⊥
cannot_feed t H settled c there may = both_ways _ may.not_closed (settled.sources c there may.source)

cannot_take : (t : Tables) (H : List Event) → IsSettled t H → (c : ℕ) (v : ℤ) → c < length t.channels → MayTake t H c
    → IsOldest H c v → ⊥
cannot_take t H settled c v there may oldest =
    elim (settled.sinks c there may.sink) [
      | inl empty ↦
          let none : length (unread_on H c) ≡ 0 = eqb-true _ _ empty in
          let some : length (unread_on H c) ≡ suc (length oldest.rest) = ap length oldest.first in
          omega arith
      | inr left ↦ both_ways _ may.not_left left
    ]

pub only_a_leave : (t : Tables) (H : List Event) → IsSettled t H → OwesNothing t H → (e : Event)
    → Legal t (H ++ e ∷ []) → (c : ℕ) × (e ≡ Leave c)
only_a_leave t H settled nothing (Get p c v) legal =
    let next = Legal-last t H (Get p c v) legal in absurd (cannot_go t H settled p next.numbers.0 next.due)
only_a_leave t H settled nothing (Put p c v) legal =
    let next = Legal-last t H (Put p c v) legal in absurd (cannot_go t H settled p next.numbers.0 next.due)
only_a_leave t H settled nothing (WaitEmpty p c) legal =
    let next = Legal-last t H (WaitEmpty p c) legal in absurd (cannot_go t H settled p next.numbers.0 next.due.0)
only_a_leave t H settled nothing (WaitFull p c) legal =
    let next = Legal-last t H (WaitFull p c) legal in absurd (cannot_go t H settled p next.numbers.0 next.due.0)
only_a_leave t H settled nothing (Ended p how) legal =
    let next = Legal-last t H (Ended p how) legal in absurd (cannot_go t H settled p next.numbers next.due.0)
only_a_leave t H settled nothing (Feed c v) legal =
    let next = Legal-last t H (Feed c v) legal in absurd (cannot_feed t H settled c next.numbers next.due)
only_a_leave t H settled nothing (Close c) legal =
    let next = Legal-last t H (Close c) legal in absurd (cannot_feed t H settled c next.numbers next.due)
only_a_leave t H settled nothing (Take c v) legal =
    let next = Legal-last t H (Take c v) legal in
    absurd (cannot_take t H settled c v next.numbers next.due (KeepsConsistent-last t H (Take c v) legal))
only_a_leave t H settled nothing (Leave c) legal = (c, refl)
only_a_leave t H settled nothing (Grow p d n) legal = absurd (nothing p d (Legal-last t H (Grow p d n) legal).due)

-- ---- one verdict

pub one_verdict : (t : Tables) (H : List Event) (a b : Option Verdict) → IsVerdict t H a → IsVerdict t H b → a ≡ b
one_verdict t H None None v w = refl
one_verdict t H None (Some verdict.Jammed) v w = absurd (v w.0)
one_verdict t H None (Some verdict.Clogged) v w = absurd (v w.0)
one_verdict t H None (Some verdict.Ended) v w = absurd (v w.0)
one_verdict t H (Some verdict.Jammed) None v w = absurd (w v.0)
one_verdict t H (Some verdict.Clogged) None v w = absurd (w v.0)
one_verdict t H (Some verdict.Ended) None v w = absurd (w v.0)
one_verdict t H (Some verdict.Jammed) (Some verdict.Jammed) v w = refl
one_verdict t H (Some verdict.Jammed) (Some verdict.Clogged) v w = absurd (w.1 v.1)
one_verdict t H (Some verdict.Jammed) (Some verdict.Ended) v w = absurd (w.1 v.1)
one_verdict t H (Some verdict.Clogged) (Some verdict.Jammed) v w = absurd (v.1 w.1)
one_verdict t H (Some verdict.Clogged) (Some verdict.Clogged) v w = refl
one_verdict t H (Some verdict.Clogged) (Some verdict.Ended) v w = absurd (w.2 v.2)
one_verdict t H (Some verdict.Ended) (Some verdict.Jammed) v w = absurd (v.1 w.1)
one_verdict t H (Some verdict.Ended) (Some verdict.Clogged) v w = absurd (v.2 w.2)
one_verdict t H (Some verdict.Ended) (Some verdict.Ended) v w = refl
