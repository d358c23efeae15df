-- Legal histories: what a run of a network may bring, whatever the order in which its processes go. The history before
-- an event decides whether the event may follow, and the history with it has to be consistent.
use Rattle.std.specs.Prelude.{◌≡◌, ℕ, ◌<◌, ◌≤◌, ◌⊎◌, true, false, ℤ, List, [], ◌∷◌, ◌++◌, length, Option, Some, None}
use Rattle.std.specs.List.{last_or}
use Rattle.kpn_lang.specs.declared.value.Fault.TheVariants as fault
use Rattle.kpn_lang.specs.declared.talk.Said.TheVariants as said
use Rattle.kpn_lang.specs.declared.talk.Ending.{Ending}
use Rattle.kpn_lang.specs.declared.talk.Ending.TheVariants as ending
use Rattle.kpn_lang.specs.Prefix.{IsPrefix}
use Rattle.kpn_net.specs.declared.tables.Policy.TheVariants.{All}
use Rattle.kpn_net.specs.declared.wait.Wait.TheVariants.{Nobody, Full}
use Rattle.kpn_net.specs.Tables.{Tables, channel_at, is_source, is_sink, larger_capacity}
use Rattle.kpn_net.specs.Process.{ProcessCanSay, ProcessComesTo}
use Rattle.kpn_net.specs.Waits.{IsSmallest, awaited_as_full}
use Rattle.kpn_history.specs.declared.event.How.{How}
use Rattle.kpn_history.specs.declared.event.How.TheVariants as how
use Rattle.kpn_history.specs.declared.event.Event.{Event}
use Rattle.kpn_history.specs.declared.event.Event.TheVariants.{Get, Put, WaitEmpty, WaitFull, Ended, Feed, Close, Take, Leave, Grow}
use Rattle.kpn_history.specs.Talks.{talk_of, has_ended}
use Rattle.kpn_history.specs.Channels.{written_on, read_on, unread_on, is_closed, is_left, reader_lives, capacity_after, capacity_or_zero, is_empty, is_full}
use Rattle.kpn_history.specs.Waiting.{wait_of, waits_of, IsBlockedCycle, full_in_cycle}
use Rattle.kpn_history.specs.Ends.{IsSettled}

-- ---- consistency

-- what holds of a history at each moment. Each process can say what it said on what it read. What was read begins what
-- was written. If the reader of a channel lives, no more is unread than the capacity
pub record IsConsistent (t : Tables) (H : List Event) : Type 0 where
  pub said : (p : ℕ) → p < length t.instances → ProcessCanSay t p (read_on H) (talk_of H p)
  pub in_order : (c : ℕ) → c < length t.channels → IsPrefix (read_on H c) (written_on H c)
  pub within : (c : ℕ) → c < length t.channels → reader_lives t H c ≡ true
      → (cap : ℕ) → capacity_after t H c ≡ Some cap → length (unread_on H c) ≤ cap

-- ---- growth

-- the process that an event makes wait
abbrev pub waiter : Event → Option ℕ
waiter (WaitEmpty p c) = Some p
waiter (WaitFull p c) = Some p
waiter event = None

abbrev pub waiter_of_last : Option Event → Option ℕ
waiter_of_last None = None
waiter_of_last (Some event) = waiter event

-- a growth of d is owed for a cycle: the history ends with a wait of p, the cycle through p has a full channel, and its
-- smallest one, d, is below the limit
pub record OwesCycleGrowth (t : Tables) (B : List Event) (p d : ℕ) : Type 0 where
  pub wait : waiter_of_last (last_or None B) ≡ Some p
  pub others : List ℕ
  pub cycle : IsBlockedCycle t B p others
  pub smallest : IsSmallest (capacity_or_zero t B) (full_in_cycle t B p others) d
  pub below_limit : capacity_or_zero t B d < t.limit

-- a growth of d is owed for a stop under the policy `all`. The history is settled, and no growth is owed for a cycle.
-- The smallest of the channels on which processes wait as full is d, and it is below the limit. p waits on d
pub record OwesStopGrowth (t : Tables) (B : List Event) (p d : ℕ) : Type 0 where
  pub policy : t.policy ≡ All
  pub settled : IsSettled t B
  pub no_cycle : (q e : ℕ) → ¬ OwesCycleGrowth t B q e
  pub smallest : IsSmallest (capacity_or_zero t B) (awaited_as_full t (waits_of t B)) d
  pub below_limit : capacity_or_zero t B d < t.limit
  pub there : p < length t.instances
  pub waits : wait_of t B p ≡ Full d

-- a growth of d is owed, and p is the process that waits for it
abbrev pub OwesGrowth : Tables → List Event → (p d : ℕ) → Type 0
OwesGrowth t B p d = OwesCycleGrowth t B p d ⊎ OwesStopGrowth t B p d

-- the growth of d for p after a history, with the capacity that d has then
abbrev pub growth_after : Tables → List Event → (p d : ℕ) → Event
growth_after t B p d = Grow p d (larger_capacity t (capacity_or_zero t B d))

-- ---- one more event

-- its numbers are numbers of the network
abbrev pub HasNumbers : Tables → Event → Type 0
HasNumbers t (Get p c v) = (p < length t.instances) × (c < length t.channels)
HasNumbers t (Put p c v) = (p < length t.instances) × (c < length t.channels)
HasNumbers t (WaitEmpty p c) = (p < length t.instances) × (c < length t.channels)
HasNumbers t (WaitFull p c) = (p < length t.instances) × (c < length t.channels)
HasNumbers t (Ended p how) = p < length t.instances
HasNumbers t (Feed c v) = c < length t.channels
HasNumbers t (Close c) = c < length t.channels
HasNumbers t (Take c v) = c < length t.channels
HasNumbers t (Leave c) = c < length t.channels
HasNumbers t (Grow p c n) = (p < length t.instances) × (c < length t.channels)

-- the process has not ended and is not blocked
pub record CanGo (t : Tables) (B : List Event) (p : ℕ) : Type 0 where
  pub lives : has_ended B p ≡ false
  pub free : wait_of t B p ≡ Nobody

-- how a process ends, as the ending of a run
abbrev pub ending_of : How → Ending
ending_of how.Done = ending.Done
ending_of how.Overflow = ending.Faulted fault.Overflow
ending_of how.ZeroDivisor = ending.Faulted fault.ZeroDivisor
ending_of how.Index = ending.Faulted fault.Index
ending_of how.Shift = ending.Faulted fault.Shift

-- it comes to read on an empty channel
pub record ComesToRead (t : Tables) (B : List Event) (p c : ℕ) : Type 0 where
  pub starved : ProcessComesTo t p (read_on B) (ending.Starved c) (talk_of B p)
  pub empty : is_empty B c ≡ true

-- it comes to write on a full channel
pub record ComesToWrite (t : Tables) (B : List Event) (p c : ℕ) : Type 0 where
  pub item : ℤ
  pub next : ProcessCanSay t p (read_on B) (talk_of B p ++ said.Put c item ∷ [])
  pub full : is_full t B c ≡ true

-- the caller may feed a source or close it
pub record MayFeed (t : Tables) (B : List Event) (c : ℕ) : Type 0 where
  pub source : is_source (channel_at t c) ≡ true
  pub not_closed : is_closed B c ≡ false

-- the caller may take from a sink or leave it
pub record MayTake (t : Tables) (B : List Event) (c : ℕ) : Type 0 where
  pub sink : is_sink (channel_at t c) ≡ true
  pub not_left : is_left B c ≡ false

-- what an event of this kind needs of the history before it. A get and a put need more, which follows if the history
-- with them is consistent: the process can say it, the item is the oldest unread one, and the channel is not full
abbrev pub IsDue : Tables → List Event → Event → Type 0
IsDue t B (Get p c v) = CanGo t B p
IsDue t B (Put p c v) = CanGo t B p
IsDue t B (WaitEmpty p c) = CanGo t B p × ComesToRead t B p c
IsDue t B (WaitFull p c) = CanGo t B p × ComesToWrite t B p c
IsDue t B (Ended p how) = CanGo t B p × ProcessComesTo t p (read_on B) (ending_of how) (talk_of B p)
IsDue t B (Feed c v) = MayFeed t B c
IsDue t B (Close c) = MayFeed t B c
IsDue t B (Take c v) = MayTake t B c
IsDue t B (Leave c) = MayTake t B c
IsDue t B (Grow p d n) = OwesGrowth t B p d

-- an event may follow: its numbers are there, and it is due. If a growth is owed, the event is that growth and has the
-- capacity that its channel then gets
pub record MayFollow (t : Tables) (B : List Event) (event : Event) : Type 0 where
  pub numbers : HasNumbers t event
  pub due : IsDue t B event
  pub growth : (p d : ℕ) → OwesGrowth t B p d → event ≡ growth_after t B p d

-- ---- legal histories

-- each beginning is consistent, and each event may follow the beginning before it
pub record Legal (t : Tables) (H : List Event) : Type 0 where
  pub consistent : (B : List Event) → IsPrefix B H → IsConsistent t B
  pub follows : (B : List Event) (event : Event) → IsPrefix (B ++ event ∷ []) H → MayFollow t B event
