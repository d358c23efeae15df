-- Scaffolding: what the parts of a stream do to its book. Only contracts of private functions use it.
use Rattle.std.specs.Prelude.{◌≡◌, ◌⊎◌, ℕ, ◌≤◌, Bool, true, false, ℤ, List, ◌++◌, map, length, is_some, Option, Some, None, Result}
use Rattle.kpn_net.specs.Tables.{Tables, is_sink}
use Rattle.kpn_history.specs.declared.event.Event.{Event}
use Rattle.kpn_history.specs.declared.event.Event.TheVariants.{Leave, Feed}
use Rattle.kpn_book.specs.Book.{Book}
use Rattle.kpn_book.specs.Appending.{Happens}
use Rattle.kpn_book.specs.Remembering.{RemembersAsMuch}
use Rattle.kpn_stream.specs.declared.faults.SourceFault.{SourceFault}
use Rattle.kpn_stream.specs.declared.faults.SourceFault.TheVariants as source_fault
use Rattle.kpn_stream.specs.declared.faults.SinkFault.{SinkFault}
use Rattle.kpn_stream.specs.declared.faults.SinkFault.TheVariants as sink_fault
use Rattle.kpn_stream.specs.declared.ending.StreamEnding.{StreamEnding}
use Rattle.kpn_stream.specs.declared.ending.StreamEnding.TheVariants.{Halted, SourceFailed, SinkFailed}
use Rattle.kpn_book.specs.declared.outcome.Limits.{Limits}
use Rattle.kpn_history.specs.Talks.{is_of_process}
use Rattle.kpn_stream.specs.Devices.{is_of_sink, is_of_outside, is_elsewhere, is_no_growth, NoneIs, MayRead, Fed, ServedSince, AreFlushed, EndsFlushed, AreLookedAt, IsAnswered, Called}
use Rattle.kpn_stream.specs.Ending.{end_numbers, AreLeft, IsSinkTaken, AreTaken, LeavesNothing, IsEnding, failed_source, failed_sink, is_halted}

-- events happened, but none of this kind
pub record HappensBesides (kind : Event → Bool) (before after : Book) : Type 0 where
  pub tables : after.tables ≡ before.tables
  pub events : List Event
  pub history : after.history ≡ before.history ++ events
  pub none : NoneIs kind events
  pub remembers : RemembersAsMuch before after

-- the stream goes on, or has ended so
abbrev pub MayHalt : Limits → Option StreamEnding → Book → Type 0
MayHalt limits None b = Unit {0}
MayHalt limits (Some ending) b = IsEnding limits ending b × LeavesNothing ending b

-- the same, but the watcher has not ended it
abbrev pub MayEnd : Limits → Option StreamEnding → Book → Type 0
MayEnd limits (Some Halted) b = ⊥
MayEnd limits ended b = MayHalt limits ended b

-- the stream goes on, or has ended in such a way, but no device has failed
pub record MayEndWell (limits : Limits) (ended : Option StreamEnding) (b : Book) : Type 0 where
  pub no_sink : failed_sink ended ≡ None
  pub no_source : failed_source ended ≡ None
  pub ending : MayEnd limits ended b

-- sink c is left, or memory ran out; if the stream has ended, each sink was left
pub data IsLeaving (limits : Limits) (c : ℕ) (ended : Option StreamEnding) (before after : Book) : Type 0 where
  leaves : Happens (Leave c) before after → MayEndWell limits ended after →
      (is_some ended ≡ true → AreLeft after.tables after.history) → IsLeaving limits c ended before after
  stays : after ≡ before → ended ≡ Some (SinkFailed c sink_fault.NoMemory) → IsLeaving limits c ended before after

-- what becomes of a fault of the device of sink c: the sink is left if nobody reads, else the stream ends
abbrev pub IsHandled : Limits → (c : ℕ) → SinkFault → Option StreamEnding → (before after : Book) → Type 0
IsHandled limits c sink_fault.Gone ended before after = IsLeaving limits c ended before after
IsHandled limits c fault ended before after = (after ≡ before) × (ended ≡ Some (SinkFailed c fault))

-- processes make steps, and do not go beyond the limit of commits
pub record StepsWithinLimits (limits : Limits) (before after : Book) : Type 0 where
  pub besides : HappensBesides is_of_outside before after
  pub commits : before.commits ≤ limits.commits → after.commits ≤ limits.commits

-- The sinks are served: their devices take items or hand them on. Nothing happens elsewhere, and nothing comes to
-- sinks.
pub record Serves {K : Type 0} (takes : K → ℕ → ℤ → Result (Unit {0}) SinkFault → K → Type 0)
    (flushes : K → ℕ → Result (Unit {0}) SinkFault → K → Type 0) (limits : Limits) (ended : Option StreamEnding)
    (before after : Book) (sinks served : K) : Type 0 where
  pub besides : HappensBesides is_elsewhere before after
  pub commits : after.commits ≡ before.commits
  pub sinks_go_on : ServedSince takes flushes limits.take before.history sinks after.history (failed_sink ended) served
  pub no_source : failed_source ended ≡ None
  pub stay_taken : (c : ℕ) → IsSinkTaken before.history c → IsSinkTaken after.history c
  pub ending : MayEnd limits ended after
  pub flushed : EndsFlushed takes flushes limits.take after.tables before.history sinks ended after.history served

-- The sinks are served; or all are flushed, and the watcher wanted the end.
pub data ServesOrHalts {K : Type 0} (takes : K → ℕ → ℤ → Result (Unit {0}) SinkFault → K → Type 0)
    (flushes : K → ℕ → Result (Unit {0}) SinkFault → K → Type 0) (limits : Limits) (ended : Option StreamEnding)
    (before after : Book) (sinks served : K) : Type 0 where
  serves_them : Serves takes flushes limits ended before after sinks served →
      ServesOrHalts takes flushes limits ended before after sinks served
  is_over : ended ≡ Some Halted → Serves takes flushes limits None before after sinks served →
      AreFlushed flushes (end_numbers is_sink before.tables) before.history sinks after.history served →
      ServesOrHalts takes flushes limits ended before after sinks served

-- no process makes a step, and the watcher has not ended the stream
pub record IsStepless (ended : Option StreamEnding) (before after : Book) : Type 0 where
  pub besides : HappensBesides is_of_process before after
  pub unhalted : is_halted ended ≡ false

-- the stream goes on, or source c has failed
abbrev pub MayFail : (c : ℕ) → Option StreamEnding → Type 0
MayFail c ended = (ended ≡ None) ⊎ ((fault : SourceFault) × (ended ≡ Some (SourceFailed c fault)))

-- memory ran out before what source c gave could be fed
abbrev pub IsUnfed : (c : ℕ) → (before after : Book) → StreamEnding → Type 0
IsUnfed c before after ending = (ending ≡ SourceFailed c source_fault.NoMemory) × (after ≡ before)

-- Source c is read. Nothing happens to sinks.
pub record ReadsSource {S : Type 0} (gives : S → ℕ → Result (Option ℤ) SourceFault → S → Type 0)
    (looks : S → ℕ → S → Type 0) (c : ℕ) (ended : Option StreamEnding) (before after : Book) (sources read : S) : Type 0
  where
    pub besides : HappensBesides is_of_sink before after
    pub commits : after.commits ≡ before.commits
    pub sources_go_on : (first : S) → Fed before.tables gives looks first before.history None sources
        → Fed after.tables gives looks first after.history (failed_source ended) read
    pub ends : MayFail c ended
    pub taken : AreTaken after.tables after.history
    pub answer : Result (Option ℤ) SourceFault
    pub answers : gives sources c answer read
    pub events : List Event
    pub follows : IsAnswered c answer events
    pub growth : List Event
    pub grown : NoneIs is_no_growth growth
    pub then : after.history ≡ (before.history ++ events) ++ growth

-- source c was read this many times since its device might be asked, and gave items
pub record WasRead (c n : ℕ) (b : Book) : Type 0 where
  pub before : List Event
  pub due : MayRead b.tables before c
  pub items : List ℤ
  pub since : b.history ≡ before ++ map (Feed c) items
  pub times : length items ≡ n
  pub taken : AreTaken b.tables b.history

-- Source c is read some times, one after the other, each time since its answer is at hand. Only the last may end the
-- stream.
pub data ReadsInTurn {S : Type 0} (gives : S → ℕ → Result (Option ℤ) SourceFault → S → Type 0)
    (looks : S → ℕ → S → Type 0) (at_hand : S → ℕ → Type 0) (c : ℕ) (first : Book) (sources : S)
    : (ended : Option StreamEnding) → Book → S → Type 0 where
  none_yet_read : ReadsInTurn gives looks at_hand c first sources None first sources
  once_more_read : (ended : Option StreamEnding) (before after : Book) (s read : S) →
      ReadsInTurn gives looks at_hand c first sources None before s → at_hand s c →
      ReadsSource gives looks c ended before after s read →
      ReadsInTurn gives looks at_hand c first sources ended after read

-- Source c is not read, or it is read since its answer is at hand.
pub data ReadsAtHand {S : Type 0} (gives : S → ℕ → Result (Option ℤ) SourceFault → S → Type 0)
    (looks : S → ℕ → S → Type 0) (at_hand : S → ℕ → Type 0) (c : ℕ) (ended : Option StreamEnding) (before after : Book)
    (sources read : S) : Type 0 where
  not_read : after ≡ before → ended ≡ None → AreLookedAt looks sources read →
      ReadsAtHand gives looks at_hand c ended before after sources read
  is_read : (between : S) → AreLookedAt looks sources between → at_hand between c →
      ReadsSource gives looks c ended before after between read →
      ReadsAtHand gives looks at_hand c ended before after sources read

-- The stream goes on.
pub record StreamGoesOn {S K : Type 0} (gives : S → ℕ → Result (Option ℤ) SourceFault → S → Type 0)
    (looks : S → ℕ → S → Type 0) (at_hand : S → ℕ → Type 0)
    (takes : K → ℕ → ℤ → Result (Unit {0}) SinkFault → K → Type 0)
    (flushes : K → ℕ → Result (Unit {0}) SinkFault → K → Type 0) (limits : Limits) (ended : Option StreamEnding)
    (before after : Book) (sources read : S) (sinks served : K) : Type 0 where
  pub tables : after.tables ≡ before.tables
  pub commits : before.commits ≤ limits.commits → after.commits ≤ limits.commits
  pub remembers : RemembersAsMuch before after
  pub sources_go_on : (first : S) → Fed before.tables gives looks first before.history None sources
      → Fed after.tables gives looks first after.history (failed_source ended) read
  pub sinks_go_on : ServedSince takes flushes limits.take before.history sinks after.history (failed_sink ended) served
  pub calls_go_on : (t : Tables) → t ≡ before.tables → (s : S) (k : K)
      → Called t gives looks at_hand takes flushes limits.take s k before.history sources sinks
      → Called t gives looks at_hand takes flushes limits.take s k after.history read served
  pub ending : MayHalt limits ended after
  pub flushed : EndsFlushed takes flushes limits.take after.tables before.history sinks ended after.history served
