-- What the devices of a network have to do with its history. Each item that a source is fed is one that its device
-- gave, and each item that is taken from a sink is one that its device took. The device of a source is asked only if an
-- item is needed, and waited for only if nothing else can go on.
use Rattle.std.specs.Prelude.{◌≡◌, ℕ, ◌<◌, ◌⊎◌, ◌||◌, map, Bool, true, false, ℤ, List, [], ◌∷◌, ◌++◌, length, Option, Some, None, Result, Ok, Err}
use Rattle.kpn_net.specs.declared.tables.Policy.TheVariants.{All}
use Rattle.kpn_net.specs.declared.wait.Wait.TheVariants.{Empty}
use Rattle.kpn_net.specs.Tables.{Tables, is_sink}
use Rattle.kpn_history.specs.declared.event.Event.{Event}
use Rattle.kpn_history.specs.declared.event.Event.TheVariants.{Feed, Close, Take, Leave, Grow}
use Rattle.kpn_history.specs.Channels.{read_on, is_left}
use Rattle.kpn_history.specs.Ends.{HaveStopped}
use Rattle.kpn_history.specs.Legal.{MayFeed}
use Rattle.kpn_history.specs.Waiting.{wait_of}
use Rattle.kpn_stream.specs.declared.faults.SourceFault.{SourceFault}
use Rattle.kpn_stream.specs.declared.faults.SourceFault.TheVariants as source_fault
use Rattle.kpn_stream.specs.declared.faults.SinkFault.{SinkFault}
use Rattle.kpn_stream.specs.declared.faults.SinkFault.TheVariants as sink_fault
use Rattle.kpn_stream.specs.declared.ending.StreamEnding.{StreamEnding}
use Rattle.kpn_stream.specs.declared.ending.StreamEnding.TheVariants.{SourceFailed, SinkFailed}
use Rattle.kpn_stream.specs.declared.reading.TheConstants.{MOST_AT_ONCE}
use Rattle.kpn_stream.specs.Ending.{end_numbers, AreTaken}

-- ---- the events of the outside

-- a source is fed or closed
abbrev pub is_of_source : Event → Bool
is_of_source (Feed c v) = true
is_of_source (Close c) = true
is_of_source e = false

-- an item is taken from a sink, or the sink is left
abbrev pub is_of_sink : Event → Bool
is_of_sink (Take c v) = true
is_of_sink (Leave c) = true
is_of_sink e = false

-- an event of the outside
abbrev pub is_of_outside : Event → Bool
is_of_outside e = is_of_source e || is_of_sink e

-- an event that is of no sink, and no growth
abbrev pub is_elsewhere : Event → Bool
is_elsewhere (Take c v) = false
is_elsewhere (Leave c) = false
is_elsewhere (Grow p c n) = false
is_elsewhere e = true

-- no growth
abbrev pub is_no_growth : Event → Bool
is_no_growth (Grow p c n) = false
is_no_growth e = true

-- no event is of this kind
abbrev pub NoneIs : (Event → Bool) → List Event → Type 0
NoneIs kind [] = Unit {0}
NoneIs kind (e ∷ es) = (kind e ≡ false) × NoneIs kind es

-- ---- when a source may be read

-- a process waits for an item of this channel
pub record IsAwaited (t : Tables) (H : List Event) (c : ℕ) : Type 0 where
  pub reader : ℕ
  pub there : reader < length t.instances
  pub waits : wait_of t H reader ≡ Empty c

-- no process can go on, under the policy `all`: a channel may grow once all inputs have ended
pub record IsStuckUnderAll (t : Tables) (H : List Event) : Type 0 where
  pub policy : t.policy ≡ All
  pub stopped : HaveStopped t H

-- the device of an open source may be asked: a process waits for its item, or nothing else can go on, and each item
-- that came to a sink was taken
pub record MayRead (t : Tables) (H : List Event) (c : ℕ) : Type 0 where
  pub may_feed : MayFeed t H c
  pub needed : IsAwaited t H c ⊎ IsStuckUnderAll t H
  pub taken : AreTaken t H

-- its item may be read: the device might be asked some moments ago, and since then the source was only fed, but not yet
-- with as many items as are read at once
pub record MayReadItem (t : Tables) (H : List Event) (c : ℕ) : Type 0 where
  pub before : List Event
  pub due : MayRead t before c
  pub items : List ℤ
  pub since : H ≡ before ++ map (Feed c) items
  pub few : length items < MOST_AT_ONCE

-- what may be told of it: an item, or else the end or a fault, which wait until the device may be asked
abbrev pub MayTell : Tables → List Event → (c : ℕ) → (given : Option ℤ) → Type 0
MayTell t H c (Some v) = MayReadItem t H c
MayTell t H c None = MayRead t H c

-- ---- the sources

-- The history goes with what the devices of the sources answered, one call after the other, from the first devices to
-- these: an item that one gave was fed, a source at the end of its input was closed, and nothing else happened to
-- sources. Each time the device might be asked. A look takes in what has come, and gives nothing. If a device has
-- failed, it is this one, in the last call. So it is if memory ran out before what it has answered could be fed.
pub data Fed {S : Type 0} (t : Tables) (gives : S → ℕ → Result (Option ℤ) SourceFault → S → Type 0)
    (looks : S → ℕ → S → Type 0) (first : S) : List Event → (failed : Option (ℕ × SourceFault)) → S → Type 0 where
  at_first : Fed t gives looks first [] None first
  by_others : (H : List Event) (e : Event) (failed : Option (ℕ × SourceFault)) (now : S) →
      Fed t gives looks first H failed now → is_of_source e ≡ false → Fed t gives looks first (H ++ e ∷ []) failed now
  by_look : (H : List Event) (c : ℕ) (before now : S) → Fed t gives looks first H None before → looks before c now →
      Fed t gives looks first H None now
  by_item : (H : List Event) (c : ℕ) (v : ℤ) (before now : S) → Fed t gives looks first H None before →
      MayReadItem t H c → gives before c (Ok (Some v)) now → Fed t gives looks first (H ++ Feed c v ∷ []) None now
  by_end : (H : List Event) (c : ℕ) (before now : S) → Fed t gives looks first H None before → MayRead t H c →
      gives before c (Ok None) now → Fed t gives looks first (H ++ Close c ∷ []) None now
  by_fault : (H : List Event) (c : ℕ) (fault : SourceFault) (before now : S) →
      Fed t gives looks first H None before → MayRead t H c → gives before c (Err fault) now →
      Fed t gives looks first H (Some (c, fault)) now
  by_no_memory : (H : List Event) (c : ℕ) (given : Option ℤ) (before now : S) →
      Fed t gives looks first H None before → MayTell t H c given → gives before c (Ok given) now →
      Fed t gives looks first H (Some (c, source_fault.NoMemory)) now

-- ---- the sinks

-- as many items as are wanted were taken from this sink
abbrev pub HasGiven : (wanted : Option ℕ) → List Event → (c : ℕ) → Type 0
HasGiven wanted H c = wanted ≡ Some (length (read_on H c))

-- From these devices and this history to those, one call after the other: an item that the device of a sink took was
-- taken, a sink was left if nobody reads what its device hands on, or right after the device has handed on as many
-- items as are wanted, and nothing else happened to sinks. No device gets more items than are wanted. If a device has
-- failed, it is this one, in the last call. So it is if memory ran out before the item that its device took could be
-- taken, or before the sink could be left.
pub data ServedSince {K : Type 0} (takes : K → ℕ → ℤ → Result (Unit {0}) SinkFault → K → Type 0)
    (flushes : K → ℕ → Result (Unit {0}) SinkFault → K → Type 0) (wanted : Option ℕ) (start : List Event) (first : K)
    : List Event → (failed : Option (ℕ × SinkFault)) → K → Type 0 where
  none_yet : ServedSince takes flushes wanted start first start None first
  meanwhile : (H : List Event) (e : Event) (failed : Option (ℕ × SinkFault)) (now : K) →
      ServedSince takes flushes wanted start first H failed now → is_of_sink e ≡ false →
      ServedSince takes flushes wanted start first (H ++ e ∷ []) failed now
  took : (H : List Event) (c : ℕ) (v : ℤ) (before now : K) →
      ServedSince takes flushes wanted start first H None before → ¬ HasGiven wanted H c →
      takes before c v (Ok tt) now → ServedSince takes flushes wanted start first (H ++ Take c v ∷ []) None now
  took_not : (H : List Event) (c : ℕ) (v : ℤ) (fault : SinkFault) (before now : K) →
      ServedSince takes flushes wanted start first H None before → ¬ HasGiven wanted H c →
      takes before c v (Err fault) now → ServedSince takes flushes wanted start first H (Some (c, fault)) now
  flushed : (H : List Event) (c : ℕ) (before now : K) →
      ServedSince takes flushes wanted start first H None before → flushes before c (Ok tt) now →
      ServedSince takes flushes wanted start first H None now
  flushed_not : (H : List Event) (c : ℕ) (fault : SinkFault) (before now : K) →
      ServedSince takes flushes wanted start first H None before → flushes before c (Err fault) now →
      ServedSince takes flushes wanted start first H (Some (c, fault)) now
  took_in_vain : (H : List Event) (c : ℕ) (v : ℤ) (before now : K) →
      ServedSince takes flushes wanted start first H None before → ¬ HasGiven wanted H c →
      takes before c v (Ok tt) now → ServedSince takes flushes wanted start first H (Some (c, sink_fault.NoMemory)) now
  left : (H : List Event) (c : ℕ) (now : K) →
      ServedSince takes flushes wanted start first H (Some (c, sink_fault.Gone)) now →
      ServedSince takes flushes wanted start first (H ++ Leave c ∷ []) None now
  left_not : (H : List Event) (c : ℕ) (now : K) →
      ServedSince takes flushes wanted start first H (Some (c, sink_fault.Gone)) now →
      ServedSince takes flushes wanted start first H (Some (c, sink_fault.NoMemory)) now
  had_enough : (H : List Event) (c : ℕ) (before now : K) →
      ServedSince takes flushes wanted start first H None before → HasGiven wanted H c →
      flushes before c (Ok tt) now → ServedSince takes flushes wanted start first (H ++ Leave c ∷ []) None now
  had_enough_not : (H : List Event) (c : ℕ) (before now : K) →
      ServedSince takes flushes wanted start first H None before → HasGiven wanted H c →
      flushes before c (Ok tt) now →
      ServedSince takes flushes wanted start first H (Some (c, sink_fault.NoMemory)) now

-- the history goes so with what the devices of the sinks answered, from the first devices to these
abbrev pub Served : {K : Type 0} → (takes : K → ℕ → ℤ → Result (Unit {0}) SinkFault → K → Type 0)
    → (flushes : K → ℕ → Result (Unit {0}) SinkFault → K → Type 0) → (wanted : Option ℕ) → (first : K) → List Event
    → (failed : Option (ℕ × SinkFault)) → K → Type 0
Served takes flushes wanted first = ServedSince takes flushes wanted [] first

-- ---- the order of the calls

-- the device of sink c is flushed, if the sink was not left; if nobody reads what it hands on, the sink is left, and a
-- channel may grow
abbrev pub IsFlushed : {K : Type 0} → (K → ℕ → Result (Unit {0}) SinkFault → K → Type 0) → (c : ℕ)
    → (H : List Event) (k : K) (later : List Event) (now : K) → Type 0
IsFlushed flushes c H k later now =
    ((is_left H c ≡ true) × (later ≡ H) × (now ≡ k))
    ⊎ (flushes k c (Ok tt) now × (later ≡ H))
    ⊎ (flushes k c (Err sink_fault.Gone) now × (growth : List Event) × NoneIs is_no_growth growth
    × (later ≡ H ++ Leave c ∷ growth))

-- the devices of these sinks are flushed, one after the other
abbrev pub AreFlushed : {K : Type 0} → (K → ℕ → Result (Unit {0}) SinkFault → K → Type 0) → (sinks : List ℕ)
    → (H : List Event) (k : K) (later : List Event) (now : K) → Type 0
AreFlushed flushes [] H k later now = (later ≡ H) × (now ≡ k)
AreFlushed {K} flushes (c ∷ sinks) H k later now =
    (G : List Event) × (j : K) × IsFlushed flushes c H k G j × AreFlushed flushes sinks G j later now

-- The sinks were served from the first history and devices, and in the last calls all were flushed, one after the
-- other, but those that were left.
pub record AreFlushedLast {K : Type 0} (takes : K → ℕ → ℤ → Result (Unit {0}) SinkFault → K → Type 0)
    (flushes : K → ℕ → Result (Unit {0}) SinkFault → K → Type 0) (wanted : Option ℕ) (t : Tables)
    (start : List Event) (first : K) (H : List Event) (now : K) : Type 0 where
  pub before : List Event
  pub then : K
  pub served : ServedSince takes flushes wanted start first before None then
  pub last : AreFlushed flushes (end_numbers is_sink t) before then H now

-- so it is once a stream has ended, unless a device has failed
abbrev pub EndsFlushed : {K : Type 0} → (takes : K → ℕ → ℤ → Result (Unit {0}) SinkFault → K → Type 0)
    → (flushes : K → ℕ → Result (Unit {0}) SinkFault → K → Type 0) → (wanted : Option ℕ) → Tables
    → (start : List Event) → (first : K) → (ended : Option StreamEnding) → List Event → K → Type 0
EndsFlushed takes flushes wanted t start first None H now = Unit {0}
EndsFlushed takes flushes wanted t start first (Some (SourceFailed c fault)) H now = Unit {0}
EndsFlushed takes flushes wanted t start first (Some (SinkFailed c fault)) H now = Unit {0}
EndsFlushed takes flushes wanted t start first (Some ending) H now =
    AreFlushedLast takes flushes wanted t start first H now

-- the devices were looked at, one after the other
pub data AreLookedAt {S : Type 0} (looks : S → ℕ → S → Type 0) (first : S) : S → Type 0 where
  not_yet : AreLookedAt looks first first
  once_more : (c : ℕ) (before now : S) → AreLookedAt looks first before → looks before c now →
      AreLookedAt looks first now

-- the event that follows what the device of a source answers
abbrev pub answered : (c : ℕ) → Result (Option ℤ) SourceFault → List Event
answered c (Ok (Some v)) = Feed c v ∷ []
answered c (Ok None) = Close c ∷ []
answered c (Err fault) = []

-- the same, or nothing if memory ran out
abbrev pub IsAnswered : (c : ℕ) → Result (Option ℤ) SourceFault → List Event → Type 0
IsAnswered c answer events = (events ≡ answered c answer) ⊎ (events ≡ [])

-- All calls in their order, from the first devices to these. A source is read at once only if its item is at hand. Else
-- it is waited for, and that is only where each process has ended or waits, right after all sinks were flushed. So
-- nothing that could be computed waits for a source, and nothing that was computed stays in the device of a sink
-- meanwhile.
pub data Called {S K : Type 0} (t : Tables) (gives : S → ℕ → Result (Option ℤ) SourceFault → S → Type 0)
    (looks : S → ℕ → S → Type 0) (at_hand : S → ℕ → Type 0)
    (takes : K → ℕ → ℤ → Result (Unit {0}) SinkFault → K → Type 0)
    (flushes : K → ℕ → Result (Unit {0}) SinkFault → K → Type 0) (wanted : Option ℕ) (s : S) (k : K)
    : List Event → S → K → Type 0 where
  at_start : Called t gives looks at_hand takes flushes wanted s k [] s k
  by_process : (H : List Event) (e : Event) (r : S) (j : K) →
      Called t gives looks at_hand takes flushes wanted s k H r j → is_of_outside e ≡ false →
      Called t gives looks at_hand takes flushes wanted s k (H ++ e ∷ []) r j
  by_sinks : (H events : List Event) (failed : Option (ℕ × SinkFault)) (r : S) (j now : K) →
      Called t gives looks at_hand takes flushes wanted s k H r j →
      ServedSince takes flushes wanted H j (H ++ events) failed now → NoneIs is_elsewhere events →
      Called t gives looks at_hand takes flushes wanted s k (H ++ events) r now
  looked : (H : List Event) (c : ℕ) (r now : S) (j : K) →
      Called t gives looks at_hand takes flushes wanted s k H r j → looks r c now →
      Called t gives looks at_hand takes flushes wanted s k H now j
  read_at_once : (H events : List Event) (c : ℕ) (answer : Result (Option ℤ) SourceFault) (r now : S) (j : K) →
      Called t gives looks at_hand takes flushes wanted s k H r j → at_hand r c → gives r c answer now →
      IsAnswered c answer events → Called t gives looks at_hand takes flushes wanted s k (H ++ events) now j
  waited_for : (H later events : List Event) (c : ℕ) (answer : Result (Option ℤ) SourceFault) (r u now : S)
      (j i : K) → Called t gives looks at_hand takes flushes wanted s k H r j →
      AreFlushed flushes (end_numbers is_sink t) H j later i → HaveStopped t later → AreLookedAt looks r u →
      gives u c answer now → IsAnswered c answer events →
      Called t gives looks at_hand takes flushes wanted s k (later ++ events) now i
