-- In every legal history, the process whose wait is the last event is a member of each blocked cycle with a full
-- channel below the limit. So the growth of its smallest full channel is owed, and if none is owed there is no such
-- cycle.
use Rattle.kpn_history.proofs.Common.{Contains, last_or, ◌≡◌, ℕ, ◌<◌, ◌≤◌, ◌⊎◌, Bool, true, false, cond, List, [], ◌∷◌, ◌++◌, length, Option, Some, None, refl, sym, ap, ◌∙◌, subst, inl, inr, arith, Contains-permutation, IsPermutation-sym, and_parts, both_ways, cases_Bool, leb-true, Wait, Nobody, Empty, Full, Tables, larger_capacity, IsNetwork, wait_at, awaited, full_channel, full_channels, WaitInTurn, IsSmallest, Event, WaitEmpty, WaitFull, Grow, reaches, unread_on, reader_lives, is_empty, capacity_after, capacity_or_zero, is_full, wait_of_last, wait_of, waits_of, full_in_cycle, waiter, waiter_of_last, OwesCycleGrowth, OwesGrowth, Legal, last_event, OwesNothing, OwesNoCycleGrowth, CanGrow, Contains-cases, Contains-none, smallest_among, smallest_unique, full_at, rotated, cycle_unique, cycle_below}
use Rattle.kpn_history.proofs.Events.{last_or-push}
use Rattle.kpn_history.proofs.Legality.{Legal-last, Legal-before, Legal-consistent, by_events}
use Rattle.kpn_history.proofs.Capacities.{capacity_grows, capacity_of_growth, larger_by_growth}
use Rattle.kpn_history.proofs.OneMore.{unread_length, unread_length-push}
use Rattle.kpn_history.proofs.Searching.{member, member-true, member-from}
use Rattle.kpn_history.proofs.EarlierWaits.{wait_at-waits_of, HadCycle, had_cycle}

-- ---- full channels

-- as many items as a capacity are unread
pub record Reached (o : Option ℕ) (items : ℕ) : Type 0 where
  pub cap : ℕ
  pub is : o ≡ Some cap
  pub at_most : cap ≤ items

pub reached : (o : Option ℕ) (items : ℕ) → reaches o items ≡ true → Reached o items
reached None items e = absurd cc
reached (Some cap) items e = record { cap = cap; is = refl; at_most = leb-true cap items e }

if_full : (full : Bool) (d c : ℕ) → cond full (Full d) Nobody ≡ Full c → (d ≡ c) × (full ≡ true)
if_full true d c e = (cc, refl)
if_full false d c e = absurd cc

if_empty : (empty : Bool) (d c : ℕ) → cond empty (Empty d) Nobody ≡ Full c → ⊥
if_empty true d c e = cc
if_empty false d c e = cc

-- what a wait on a full channel is
pub record FullWait (t : Tables) (H : List Event) (last : Option Event) (c : ℕ) : Type 0 where
  pub process : ℕ
  pub is : last ≡ Some (WaitFull process c)
  pub full : is_full t H c ≡ true

pub full_wait : (t : Tables) (H : List Event) (last : Option Event) (c : ℕ) → wait_of_last t H last ≡ Full c
    → FullWait t H last c
full_wait t H None c e = absurd cc
full_wait t H (Some (WaitEmpty q d)) c e = absurd (if_empty (is_empty H d) d c e)
full_wait t H (Some (WaitFull q d)) c e =
    let r = if_full (is_full t H d) d c e in
    record {
      process = q;
      is = ap (λ x. Some (WaitFull q x)) r.0;
      full = subst (λ x. is_full t H x ≡ true) r.0 r.1;
    }
full_wait t H (Some event) c e = absurd cc

-- a channel on which a process is blocked as full is full
pub full_where_waited : (t : Tables) (H : List Event) (last : Option Event) (c : ℕ) → wait_of_last t H last ≡ Full c
    → is_full t H c ≡ true
full_where_waited t H last c e = (full_wait t H last c e).full

-- ---- the growth that is owed

pub Some-number : (a b : ℕ) → ◌≡◌ {A = Option ℕ} (Some a) (Some b) → a ≡ b
Some-number a b e = cc

-- the process whose wait is the last event
abbrev pub last_waiter : List Event → Option ℕ
last_waiter H = waiter_of_last (last_or None H)

pub last_waiter-push : (B : List Event) (e : Event) → last_waiter (B ++ e ∷ []) ≡ waiter e
last_waiter-push B e = ap waiter_of_last (last_or-push None B e)

-- a cycle that can grow has the process whose wait is the last event
record IsWaiters (H : List Event) (p : ℕ) (others : List ℕ) : Type 0 where
  waiting : ℕ
  last : last_waiter H ≡ Some waiting
  member : Contains (p ∷ others) waiting

abbrev AreWaiters : Tables → List Event → Type 0
AreWaiters t H = (g : CanGrow t H) → IsWaiters H g.process g.others

record Owed (t : Tables) (H : List Event) : Type 0 where
  process : ℕ
  channel : ℕ
  owed : OwesCycleGrowth t H process channel

grows_of : (t : Tables) (H : List Event) (g : CanGrow t H) → IsWaiters H g.process g.others → Owed t H
grows_of t H g w =
    let waits = waits_of t H in
    let round = rotated t waits g.process g.others g.cycle w.waiting w.member in
    let full =
    Contains-permutation (full_channels waits (g.process ∷ g.others)) (full_channels waits (w.waiting ∷ round.rest))
    g.channel round.full g.full in
    let least = smallest_among (capacity_or_zero t H) (full_channels waits (w.waiting ∷ round.rest)) g.channel full in
    let smaller : (capacity_or_zero t H least.channel < capacity_or_zero t H g.channel)
    ⊎ ((capacity_or_zero t H least.channel ≡ capacity_or_zero t H g.channel) × (least.channel ≤ g.channel)) =
    least.is.least g.channel full in
    let below = g.below_limit in
    record {
      process = w.waiting;
      channel = least.channel;
      owed = record {
        wait = w.last;
        others = round.rest;
        cycle = round.cycle;
        smallest = least.is;
        below_limit = omega arith;
      };
    }

-- at most one growth is owed for a cycle
pub one_cycle_owed : (t : Tables) (H : List Event) (p d q e : ℕ) → OwesCycleGrowth t H p d → OwesCycleGrowth t H q e
    → (p ≡ q) × (d ≡ e)
one_cycle_owed t H p d q e owed other =
    let process : q ≡ p = Some-number q p (sym other.wait ∙ owed.wait) in
    let here : OwesCycleGrowth t H p e = subst (λ r. OwesCycleGrowth t H r e) process other in
    let others = cycle_unique t (waits_of t H) p owed.others here.others owed.cycle here.cycle in
    let smallest : IsSmallest (capacity_or_zero t H) (full_in_cycle t H p here.others) d =
    subst (λ xs. IsSmallest (capacity_or_zero t H) (full_in_cycle t H p xs) d) others owed.smallest in
    (sym process, smallest_unique (capacity_or_zero t H) (full_in_cycle t H p here.others) d e smallest here.smallest)

pub none_owed_at_first : (t : Tables) → OwesNothing t []
none_owed_at_first t p d (inl owed) = let wait = owed.wait in absurd cc
none_owed_at_first t p d (inr owed) = let waits = owed.waits in absurd cc

pub no_cycle_owed_after : (t : Tables) (B : List Event) (e : Event) → waiter e ≡ None
    → OwesNoCycleGrowth t (B ++ e ∷ [])
no_cycle_owed_after t B e none p d owed =
    let clash : ◌≡◌ {A = Option ℕ} None (Some p) = sym none ∙ (sym (last_waiter-push B e) ∙ owed.wait) in absurd cc

-- ---- one more event

-- the cycle could grow before
could_grow : (t : Tables) (B : List Event) (e : Event) → Legal t (B ++ e ∷ []) → (g : CanGrow t (B ++ e ∷ []))
    → HadCycle t B (B ++ e ∷ []) g.process g.others → CanGrow t B
could_grow t B e legal g before =
    let room = capacity_grows t B e legal g.channel in let below = g.below_limit in
    record {
      process = g.process;
      others = g.others;
      cycle = before.cycle;
      channel = g.channel;
      full = subst (λ xs. Contains xs g.channel) (sym before.full) g.full;
      below_limit = omega arith;
    }

-- after a growth of d nobody waits on d as full, so a cycle that waited there has gone
pub not_full_then : (t : Tables) → IsNetwork t → (B : List Event) (p d n : ℕ) → Legal t (B ++ Grow p d n ∷ [])
    → d < length t.channels → is_full t B d ≡ true → is_full t (B ++ Grow p d n ∷ []) d ≡ true → ⊥
not_full_then t network B p d n legal there was now =
    let H : List Event = B ++ Grow p d n ∷ [] in
    let before = and_parts (reader_lives t B d) (reaches (capacity_after t B d) (length (unread_on B d))) was in
    let after = and_parts (reader_lives t H d) (reaches (capacity_after t H d) (length (unread_on H d))) now in
    let cap = reached (capacity_after t B d) (length (unread_on B d)) before.1 in
    let larger = reached (capacity_after t H d) (length (unread_on H d)) after.1 in
    let more = larger_by_growth t network B p d n cap.cap legal there cap.is in
    let same : larger_capacity t cap.cap ≡ larger.cap =
    Some-number _ _ (sym (capacity_of_growth t B p d n cap.cap cap.is) ∙ larger.is) in
    let within =
    (Legal-consistent t B (Legal-before t B (Grow p d n) legal)).within d there before.0 cap.cap cap.is in
    let unread_before = unread_length B d in
    let unread_after = unread_length-push B (Grow p d n) d in
    let reach = larger.at_most in
    omega arith

-- ---- members of a cycle

-- each member waits for some process
member_waits : (t : Tables) (waits : List Wait) (p : ℕ) (others : List ℕ) (z : ℕ) → WaitInTurn t waits p others z
    → (q : ℕ) → Contains (p ∷ others) q → (r : ℕ) × (awaited t (wait_at waits q) ≡ Some r)
member_waits t waits p [] z turn q h =
    elim (Contains-cases p [] q h) [
      | inl same ↦ (z, subst (λ x. awaited t (wait_at waits x) ≡ Some z) same turn.awaited)
      | inr none ↦ absurd (Contains-none q none)
    ]
member_waits t waits p (r ∷ others) z turn q h =
    elim (Contains-cases p (r ∷ others) q h) [
      | inl same ↦ (r, subst (λ x. awaited t (wait_at waits x) ≡ Some r) same turn.0.awaited)
      | inr later ↦ member_waits t waits r others z turn.1 q later
    ]

full_of : (w : Wait) (c : ℕ) → full_channel w ≡ Some c → w ≡ Full c
full_of Nobody c e = absurd cc
full_of (Empty d) c e = absurd cc
full_of (Full d) c e = ap Full (Some-number d c e)

-- a process that waits on a channel as full in the table is blocked on it
pub blocked_in_table : (t : Tables) (H : List Event) (p c : ℕ) → p < length t.instances
    → full_channel (wait_at (waits_of t H) p) ≡ Some c → wait_of t H p ≡ Full c
blocked_in_table t H p c below is = sym (wait_at-waits_of t H p below) ∙ full_of _ c is

pub full_in_table : (t : Tables) (H : List Event) (p c : ℕ) → p < length t.instances
    → full_channel (wait_at (waits_of t H) p) ≡ Some c → is_full t H c ≡ true
full_in_table t H p c below is = full_where_waited t H (last_event H p) c (blocked_in_table t H p c below is)

-- ---- a cycle that can grow has the last waiter

-- a growth that was owed for a cycle takes this cycle away
no_cycle_then : (t : Tables) → IsNetwork t → (B : List Event) (p d n : ℕ) → Legal t (B ++ Grow p d n ∷ [])
    → OwesCycleGrowth t B p d → AreWaiters t B → (g : CanGrow t (B ++ Grow p d n ∷ [])) → ⊥
unfolding could_grow
no_cycle_then t network B p d n legal owed waiters g =
    let H : List Event = B ++ Grow p d n ∷ [] in
    let before = had_cycle t network B (Grow p d n) legal g.process g.others (λ q h e. absurd cc) g.cycle in
    let w = waiters (could_grow t B (Grow p d n) legal g before) in
    let next = Legal-last t B (Grow p d n) legal in
    let process : w.waiting ≡ p = Some-number _ _ (sym w.last ∙ owed.wait) in
    let round =
    rotated t (waits_of t B) g.process g.others before.cycle p
    (subst (λ q. Contains (g.process ∷ g.others) q) process w.member) in
    let rest : owed.others ≡ round.rest =
    cycle_unique t (waits_of t B) p owed.others round.rest owed.cycle round.cycle in
    let at_d = full_at (waits_of t B) (p ∷ owed.others) d owed.smallest.among in
    let in_round : Contains (p ∷ round.rest) at_d.member =
    subst (λ xs. Contains (p ∷ xs) at_d.member) rest at_d.among in
    let member =
    Contains-permutation (p ∷ round.rest) (g.process ∷ g.others) at_d.member
    (IsPermutation-sym (g.process ∷ g.others) (p ∷ round.rest) round.members) in_round in
    let below = cycle_below t (waits_of t H) g.process g.others g.cycle at_d.member member in
    let waits = member_waits t (waits_of t H) g.process g.others g.process g.cycle.in_turn at_d.member member in
    let still : full_channel (wait_at (waits_of t H) at_d.member) ≡ Some d =
    subst (λ x. full_channel x ≡ Some d) (before.waits at_d.member waits.0 member waits.1) at_d.full in
    not_full_then t network B p d n legal next.numbers.1
    (full_in_table t B at_d.member d below at_d.full) (full_in_table t H at_d.member d below still)

-- an event that is no wait of a member leaves no cycle that can grow
no_cycle : (t : Tables) → IsNetwork t → (B : List Event) (e : Event) → Legal t (B ++ e ∷ []) → AreWaiters t B
    → (g : CanGrow t (B ++ e ∷ [])) → ((q : ℕ) → Contains (g.process ∷ g.others) q → waiter e ≡ Some q → ⊥) → ⊥
no_cycle t network B (Grow p d n) legal waiters g none = by_reason (Legal-last t B (Grow p d n) legal).due
  where
    by_reason : OwesGrowth t B p d → ⊥
    by_reason (inl owed) = no_cycle_then t network B p d n legal owed waiters g
    by_reason (inr owed) =
        let before = had_cycle t network B (Grow p d n) legal g.process g.others none g.cycle in
        let old = could_grow t B (Grow p d n) legal g before in
        let cycle = grows_of t B old (waiters old) in
        owed.no_cycle cycle.process cycle.channel cycle.owed
no_cycle t network B e legal waiters g none =
    let before = had_cycle t network B e legal g.process g.others none g.cycle in
    let old = could_grow t B e legal g before in
    let owed = grows_of t B old (waiters old) in
    let next = (Legal-last t B e legal).growth owed.process owed.channel (inl owed.owed) in
    cc

by_waiter : (t : Tables) → IsNetwork t → (B : List Event) (e : Event) → Legal t (B ++ e ∷ []) → AreWaiters t B
    → (g : CanGrow t (B ++ e ∷ [])) → (o : Option ℕ) → waiter e ≡ o → IsWaiters (B ++ e ∷ []) g.process g.others
by_waiter t network B e legal waiters g None is =
    absurd (no_cycle t network B e legal waiters g (λ q h k. let clash = sym is ∙ k in cc))
by_waiter t network B e legal waiters g (Some w) is =
    elim (cases_Bool (member w (g.process ∷ g.others))) [
      | inl among ↦
          record {
            waiting = w;
            last = last_waiter-push B e ∙ is;
            member = member-true w (g.process ∷ g.others) among;
          }
      | inr not_among ↦ absurd (no_cycle t network B e legal waiters g (λ q h k.
          let same : w ≡ q = Some-number w q (sym is ∙ k) in
          both_ways _ not_among
          (subst (λ x. member x (g.process ∷ g.others) ≡ true) (sym same)
          (member-from q (g.process ∷ g.others) h))))
    ]

no_cycle_at_first : (t : Tables) → CanGrow t [] → ⊥
no_cycle_at_first t g =
    let at_c = full_at (waits_of t []) (g.process ∷ g.others) g.channel g.full in
    let below = cycle_below t (waits_of t []) g.process g.others g.cycle at_c.member at_c.among in
    let nobody : wait_at (waits_of t []) at_c.member ≡ Nobody = wait_at-waits_of t [] at_c.member below in
    let none : full_channel (wait_at (waits_of t []) at_c.member) ≡ None = ap full_channel nobody in
    let some = at_c.full in
    let clash = sym none ∙ some in
    cc

are_waiters : (t : Tables) → IsNetwork t → (H : List Event) → Legal t H → AreWaiters t H
are_waiters t network =
    by_events t (AreWaiters t) (λ g. absurd (no_cycle_at_first t g))
    (λ B e legal waiters g. by_waiter t network B e legal waiters g (waiter e) refl)

-- if no growth is owed for a cycle, no cycle can grow
pub no_cycle_can_grow : (t : Tables) → IsNetwork t → (H : List Event) → Legal t H → OwesNoCycleGrowth t H
    → ¬ CanGrow t H
no_cycle_can_grow t network H legal none g =
    let owed = grows_of t H g (are_waiters t network H legal g) in none owed.process owed.channel owed.owed

pub nothing_can_grow : (t : Tables) → IsNetwork t → (H : List Event) → Legal t H → OwesNothing t H → ¬ CanGrow t H
nothing_can_grow t network H legal nothing =
    no_cycle_can_grow t network H legal (λ p d owed. nothing p d (inl owed))
