-- A plain checker of histories. Before each event it computes, with a number of turns for each loop, what each process
-- says and where it ends, and follows the waits. If it says yes, the history is legal.
use Rattle.check_histories.proofs.Common.{nat_eq, nat_lt, nat_le, if◌then◌else◌, slice_get, int_eq, ◌≡◌, ◌≢◌, ℕ, ◌<◌, ◌≤◌, ℤ, Bool, true, false, not, ◌&&◌, List, [], ◌∷◌, ◌++◌, length, Option, Some, None, refl, ap, subst, ◌∙◌, append_assoc, arith, append-nil, and_parts, eqb-true, ltb-true, leb-true, not-true, Decides-int_eq, IsPrefix, Wait, Nobody, Empty, Full, Tables, channel_at, is_source, is_sink, larger_capacity, ProcessCanSay, ProcessComesTo, talk_on, ending_on, Event, Get, Put, WaitEmpty, WaitFull, Ended, Feed, Close, Take, Leave, Grow, talk_of, has_ended, written_on, read_on, unread_on, is_closed, is_left, reader_lives, capacity_after, capacity_or_zero, is_empty, is_full, wait_of, IsConsistent, OwesGrowth, HasNumbers, CanGo, ending_of, ComesToWrite, MayFeed, MayTake, IsDue, MayFollow, Legal, growth_after, each_below, each_below-at, is_nobody}
use Rattle.kpn_lang.specs.declared.value.Fault.TheVariants as fault
use Rattle.kpn_lang.specs.declared.talk.Said.{Said}
use Rattle.kpn_lang.specs.declared.talk.Said.TheVariants as said
use Rattle.kpn_lang.specs.declared.talk.Ending.{Ending}
use Rattle.kpn_lang.specs.declared.talk.Ending.TheVariants as ending
use Rattle.check_histories.proofs.GrowthTests.{grows, grows-owed, grows-one, owes_none, owes_none-true}
use Rattle.check_histories.proofs.ListTests.{begins, equals, begins-true, equals-true}

-- ---- consistency

abbrev same_said : Said → Said → Bool
same_said (said.Got c v) (said.Got d w) = nat_eq c d && int_eq v w
same_said (said.Got c v) (said.Put d w) = false
same_said (said.Put c v) (said.Got d w) = false
same_said (said.Put c v) (said.Put d w) = nat_eq c d && int_eq v w

same_said-true : (x y : Said) → same_said x y ≡ true → x ≡ y
same_said-true (said.Got c v) (said.Got d w) e =
    let parts = and_parts _ _ e in λ i. said.Got (eqb-true c d parts.0 i) ((Decides-int_eq v w).0 parts.1 i)
same_said-true (said.Got c v) (said.Put d w) e = absurd cc
same_said-true (said.Put c v) (said.Got d w) e = absurd cc
same_said-true (said.Put c v) (said.Put d w) e =
    let parts = and_parts _ _ e in λ i. said.Put (eqb-true c d parts.0 i) ((Decides-int_eq v w).0 parts.1 i)

int_eq-true : (x y : ℤ) → int_eq x y ≡ true → x ≡ y
int_eq-true x y = (Decides-int_eq x y).0

abbrev can_say : Tables → (n : ℕ) → List Event → (p : ℕ) → List Said → Bool
can_say t n H p talk = begins same_said talk (talk_on t p n (read_on H))

can_say-true : (t : Tables) (n : ℕ) (H : List Event) (p : ℕ) (talk : List Said) → can_say t n H p talk ≡ true
    → ProcessCanSay t p (read_on H) talk
can_say-true t n H p talk e = record { turns = n; said = begins-true same_said same_said-true _ _ e }

abbrev holds_at_most : Option ℕ → ℕ → Bool
holds_at_most None items = true
holds_at_most (Some cap) items = nat_le items cap

holds_at_most-true : (o : Option ℕ) (items : ℕ) → holds_at_most o items ≡ true → (cap : ℕ) → o ≡ Some cap
    → items ≤ cap
holds_at_most-true None items e cap is = absurd cc
holds_at_most-true (Some room) items e cap is = let same : room ≡ cap = cc in let below =
    leb-true items room e in omega arith

abbrev is_within : Tables → List Event → (c : ℕ) → Bool
is_within t H c = (if reader_lives t H c then holds_at_most (capacity_after t H c) (length (unread_on H c)) else true)

is_within-true : (t : Tables) (H : List Event) (c : ℕ) → is_within t H c ≡ true → reader_lives t H c ≡ true
    → (cap : ℕ) → capacity_after t H c ≡ Some cap → length (unread_on H c) ≤ cap
is_within-true t H c e lives =
    let k : holds_at_most (capacity_after t H c) (length (unread_on H c)) ≡ true =
    subst (λ b. (if b then holds_at_most (capacity_after t H c) (length (unread_on H c)) else true) ≡ true) lives e in
    holds_at_most-true _ _ k

abbrev is_consistent_on : Tables → List Event → (c : ℕ) → Bool
is_consistent_on t H c = begins int_eq (read_on H c) (written_on H c) && is_within t H c

abbrev is_consistent : Tables → (n : ℕ) → List Event → Bool
is_consistent t n H =
    each_below (λ p. can_say t n H p (talk_of H p)) (length t.instances)
    && each_below (is_consistent_on t H) (length t.channels)

is_consistent-true : (t : Tables) (n : ℕ) (H : List Event) → is_consistent t n H ≡ true → IsConsistent t H
is_consistent-true t n H e =
    let parts = and_parts _ _ e in
    record {
      said = λ p h. can_say-true t n H p _ (each_below-at (λ q. can_say t n H q (talk_of H q)) _ parts.0 p h);
      in_order =
          λ c h.
          begins-true int_eq int_eq-true _ _
          (and_parts _ _ (each_below-at (is_consistent_on t H) _ parts.1 c h)).0;
      within = λ c h. is_within-true t H c (and_parts _ _ (each_below-at (is_consistent_on t H) _ parts.1 c h)).1;
    }

-- ---- one more event

is_nobody-true : (w : Wait) → is_nobody w ≡ true → w ≡ Nobody
is_nobody-true Nobody e = refl
is_nobody-true (Empty c) e = absurd cc
is_nobody-true (Full c) e = absurd cc

abbrev can_go : Tables → List Event → (p : ℕ) → Bool
can_go t B p = not (has_ended B p) && is_nobody (wait_of t B p)

can_go-true : (t : Tables) (B : List Event) (p : ℕ) → can_go t B p ≡ true → CanGo t B p
can_go-true t B p e =
    let parts = and_parts _ _ e in record { lives = not-true _ parts.0; free = is_nobody-true _ parts.1 }

abbrev same_end : Ending → Ending → Bool
same_end ending.Done ending.Done = true
same_end (ending.Faulted fault.Overflow) (ending.Faulted fault.Overflow) = true
same_end (ending.Faulted fault.ZeroDivisor) (ending.Faulted fault.ZeroDivisor) = true
same_end (ending.Starved c) (ending.Starved d) = nat_eq c d
same_end x y = false

same_end-true : (x y : Ending) → same_end x y ≡ true → x ≡ y
same_end-true ending.Done ending.Done e = refl
same_end-true (ending.Faulted fault.Overflow) (ending.Faulted fault.Overflow) e = refl
same_end-true (ending.Faulted fault.ZeroDivisor) (ending.Faulted fault.ZeroDivisor) e = refl
same_end-true (ending.Starved c) (ending.Starved d) e = ap ending.Starved (eqb-true c d e)
same_end-true x y e = absurd cc

same_end-whole : (x y : Ending) → same_end x y ≡ true → y ≢ ending.Cut
same_end-whole ending.Done ending.Done e h = cc
same_end-whole (ending.Faulted fault.Overflow) (ending.Faulted fault.Overflow) e h = cc
same_end-whole (ending.Faulted fault.ZeroDivisor) (ending.Faulted fault.ZeroDivisor) e h = cc
same_end-whole (ending.Starved c) (ending.Starved d) e h = cc
same_end-whole x y e h = cc

abbrev comes_to : Tables → (n : ℕ) → List Event → (p : ℕ) → Ending → Bool
comes_to t n B p end =
    same_end (ending_on t p n (read_on B)) end && equals same_said (talk_on t p n (read_on B)) (talk_of B p)

comes_to-true : (t : Tables) (n : ℕ) (B : List Event) (p : ℕ) (end : Ending) → comes_to t n B p end ≡ true
    → ProcessComesTo t p (read_on B) end (talk_of B p)
comes_to-true t n B p end e =
    let parts = and_parts _ _ e in
    record {
      turns = n;
      ended = same_end-true _ end parts.0;
      said = equals-true same_said same_said-true _ _ parts.1;
      whole = same_end-whole _ end parts.0;
    }

-- what it says next, if it puts an item on the channel, it can say
abbrev puts_next : Tables → (n : ℕ) → List Event → (p c : ℕ) → Option Said → Bool
puts_next t n B p c None = false
puts_next t n B p c (Some (said.Got d v)) = false
puts_next t n B p c (Some (said.Put d v)) = can_say t n B p (talk_of B p ++ said.Put c v ∷ [])

abbrev next_said : Tables → (n : ℕ) → List Event → (p : ℕ) → Option Said
next_said t n B p = slice_get (talk_on t p n (read_on B)) (length (talk_of B p))

comes_to_write : (t : Tables) (n : ℕ) (B : List Event) (p c : ℕ) (next : Option Said)
    → puts_next t n B p c next ≡ true → is_full t B c ≡ true → ComesToWrite t B p c
comes_to_write t n B p c None e full = absurd cc
comes_to_write t n B p c (Some (said.Got d v)) e full = absurd cc
comes_to_write t n B p c (Some (said.Put d v)) e full =
    record { item = v; next = can_say-true t n B p _ e; full = full }

abbrev both_there : Tables → (p c : ℕ) → Bool
both_there t p c = nat_lt p (length t.instances) && nat_lt c (length t.channels)

both_there-true : (t : Tables) (p c : ℕ) → both_there t p c ≡ true
    → (p < length t.instances) × (c < length t.channels)
both_there-true t p c e = let parts = and_parts _ _ e in (ltb-true _ _ parts.0, ltb-true _ _ parts.1)

abbrev has_numbers : Tables → Event → Bool
has_numbers t (Get p c v) = both_there t p c
has_numbers t (Put p c v) = both_there t p c
has_numbers t (WaitEmpty p c) = both_there t p c
has_numbers t (WaitFull p c) = both_there t p c
has_numbers t (Ended p how) = nat_lt p (length t.instances)
has_numbers t (Feed c v) = nat_lt c (length t.channels)
has_numbers t (Close c) = nat_lt c (length t.channels)
has_numbers t (Take c v) = nat_lt c (length t.channels)
has_numbers t (Leave c) = nat_lt c (length t.channels)
has_numbers t (Grow p c cap) = both_there t p c

has_numbers-true : (t : Tables) (event : Event) → has_numbers t event ≡ true → HasNumbers t event
has_numbers-true t (Get p c v) e = both_there-true t p c e
has_numbers-true t (Put p c v) e = both_there-true t p c e
has_numbers-true t (WaitEmpty p c) e = both_there-true t p c e
has_numbers-true t (WaitFull p c) e = both_there-true t p c e
has_numbers-true t (Ended p how) e = ltb-true _ _ e
has_numbers-true t (Feed c v) e = ltb-true _ _ e
has_numbers-true t (Close c) e = ltb-true _ _ e
has_numbers-true t (Take c v) e = ltb-true _ _ e
has_numbers-true t (Leave c) e = ltb-true _ _ e
has_numbers-true t (Grow p c cap) e = both_there-true t p c e

abbrev may_feed : Tables → List Event → (c : ℕ) → Bool
may_feed t B c = is_source (channel_at t c) && not (is_closed B c)

may_feed-true : (t : Tables) (B : List Event) (c : ℕ) → may_feed t B c ≡ true → MayFeed t B c
may_feed-true t B c e = let parts = and_parts _ _ e in record { source = parts.0; not_closed = not-true _ parts.1 }

abbrev may_take : Tables → List Event → (c : ℕ) → Bool
may_take t B c = is_sink (channel_at t c) && not (is_left B c)

may_take-true : (t : Tables) (B : List Event) (c : ℕ) → may_take t B c ≡ true → MayTake t B c
may_take-true t B c e = let parts = and_parts _ _ e in record { sink = parts.0; not_left = not-true _ parts.1 }

abbrev is_due : Tables → (n : ℕ) → List Event → Event → Bool
is_due t n B (Get p c v) = can_go t B p
is_due t n B (Put p c v) = can_go t B p
is_due t n B (WaitEmpty p c) = can_go t B p && (comes_to t n B p (ending.Starved c) && is_empty B c)
is_due t n B (WaitFull p c) = can_go t B p && (puts_next t n B p c (next_said t n B p) && is_full t B c)
is_due t n B (Ended p how) = can_go t B p && comes_to t n B p (ending_of how)
is_due t n B (Feed c v) = may_feed t B c
is_due t n B (Close c) = may_feed t B c
is_due t n B (Take c v) = may_take t B c
is_due t n B (Leave c) = may_take t B c
is_due t n B (Grow p d cap) = grows t B p d

is_due-true : (t : Tables) (n : ℕ) (B : List Event) (event : Event) → is_due t n B event ≡ true → IsDue t B event
is_due-true t n B (Get p c v) e = can_go-true t B p e
is_due-true t n B (Put p c v) e = can_go-true t B p e
is_due-true t n B (WaitEmpty p c) e =
    let parts = and_parts _ _ e in let more = and_parts _ _ parts.1 in
    (can_go-true t B p parts.0, record { starved = comes_to-true t n B p _ more.0; empty = more.1 })
is_due-true t n B (WaitFull p c) e =
    let parts = and_parts _ _ e in let more = and_parts _ _ parts.1 in
    (can_go-true t B p parts.0, comes_to_write t n B p c _ more.0 more.1)
is_due-true t n B (Ended p how) e =
    let parts = and_parts _ _ e in (can_go-true t B p parts.0, comes_to-true t n B p _ parts.1)
is_due-true t n B (Feed c v) e = may_feed-true t B c e
is_due-true t n B (Close c) e = may_feed-true t B c e
is_due-true t n B (Take c v) e = may_take-true t B c e
is_due-true t n B (Leave c) e = may_take-true t B c e
is_due-true t n B (Grow p d cap) e = grows-owed t B p d e

-- a growth, which is due only if it is owed, has the capacity that its channel then gets
abbrev keeps_growth : Tables → List Event → Event → Bool
keeps_growth t B (Grow p d cap) = nat_eq cap (larger_capacity t (capacity_or_zero t B d))
keeps_growth t B event = owes_none t B

keeps_growth-true : (t : Tables) (n : ℕ) (B : List Event) (event : Event) → is_due t n B event ≡ true
    → keeps_growth t B event ≡ true → (p d : ℕ) → OwesGrowth t B p d → event ≡ growth_after t B p d
keeps_growth-true t n B (Grow q e cap) due told p d owed =
    ap (Grow q e) (eqb-true _ _ told) ∙ grows-one t B q e p d due owed
keeps_growth-true t n B event due told p d owed = absurd (owes_none-true t B p d told owed)

abbrev may_follow : Tables → (n : ℕ) → List Event → Event → Bool
may_follow t n B event = has_numbers t event && (is_due t n B event && keeps_growth t B event)

may_follow-true : (t : Tables) (n : ℕ) (B : List Event) (event : Event) → may_follow t n B event ≡ true
    → MayFollow t B event
may_follow-true t n B event e =
    let parts = and_parts _ _ e in let more = and_parts _ _ parts.1 in
    record {
      numbers = has_numbers-true t event parts.0;
      due = is_due-true t n B event more.0;
      growth = keeps_growth-true t n B event more.0 more.1;
    }

-- ---- a whole history

-- these events may follow, one after the other, if the loops have n turns
abbrev pub passes_on : Tables → (n : ℕ) → (B rest : List Event) → Bool
passes_on t n B [] = is_consistent t n B
passes_on t n B (event ∷ rest) =
    is_consistent t n B && (may_follow t n B event && passes_on t n (B ++ event ∷ []) rest)

abbrev pub passes : Tables → (n : ℕ) → List Event → Bool
passes t n H = passes_on t n [] H

-- what is known of the beginnings that go on after B
record GoesOn (t : Tables) (B rest : List Event) : Type 0 where
  consistent : (C : List Event) → IsPrefix C rest → IsConsistent t (B ++ C)
  follows : (C : List Event) (event : Event) → IsPrefix (C ++ event ∷ []) rest → MayFollow t (B ++ C) event

now_consistent : (t : Tables) (n : ℕ) (B : List Event) → is_consistent t n B ≡ true → IsConsistent t (B ++ [])
now_consistent t n B e = rw append-nil (is_consistent-true t n B e)

next_consistent : (t : Tables) (n : ℕ) (B rest : List Event) (event : Event) → is_consistent t n B ≡ true
    → GoesOn t (B ++ event ∷ []) rest → (C : List Event) → IsPrefix C (event ∷ rest) → IsConsistent t (B ++ C)
next_consistent t n B rest event e later [] h = now_consistent t n B e
next_consistent t n B rest event e later (first ∷ C) h =
    rw (h.0, ← append_assoc B (event ∷ []) C) (later.consistent C h.1)

next_follows : (t : Tables) (n : ℕ) (B rest : List Event) (event : Event) → may_follow t n B event ≡ true
    → GoesOn t (B ++ event ∷ []) rest → (C : List Event) (other : Event) → IsPrefix (C ++ other ∷ []) (event ∷ rest)
    → MayFollow t (B ++ C) other
next_follows t n B rest event e later [] other h = rw (append-nil, h.0) (may_follow-true t n B event e)
next_follows t n B rest event e later (first ∷ C) other h =
    rw (h.0, ← append_assoc B (event ∷ []) C) (later.follows C other h.1)

last_consistent : (t : Tables) (n : ℕ) (B C : List Event) → is_consistent t n B ≡ true → IsPrefix C []
    → IsConsistent t (B ++ C)
last_consistent t n B [] e h = now_consistent t n B e
last_consistent t n B (event ∷ C) e h = absurd h

last_follows : (t : Tables) (B C : List Event) (event : Event) → IsPrefix (C ++ event ∷ []) []
    → MayFollow t (B ++ C) event
last_follows t B [] event h = absurd h
last_follows t B (first ∷ C) event h = absurd h

passes_on-true : (t : Tables) (n : ℕ) (B rest : List Event) → passes_on t n B rest ≡ true → GoesOn t B rest
passes_on-true t n B [] e =
    record {
      consistent = λ C h. last_consistent t n B C e h;
      follows = λ C event h. last_follows t B C event h;
    }
passes_on-true t n B (event ∷ rest) e =
    let parts = and_parts _ _ e in let more = and_parts _ _ parts.1 in
    let later = passes_on-true t n (B ++ event ∷ []) rest more.1 in
    record {
      consistent = next_consistent t n B rest event parts.0 later;
      follows = next_follows t n B rest event more.0 later;
    }

pub passes-legal : (t : Tables) (n : ℕ) (H : List Event) → passes t n H ≡ true → Legal t H
passes-legal t n H e = let known =
    passes_on-true t n [] H e in record { consistent = known.consistent; follows = known.follows }
