-- What stands before an event of a trace: what its process is doing, or how its channel stands to the outside.
use Rattle.std.specs.Prelude.{◌≡◌, ℕ, true, if◌then◌else◌, List, take, Some, slice_get}
use Rattle.kpn_net.specs.declared.wait.Wait.TheVariants.{Empty, Full}
use Rattle.kpn_net.specs.Tables.{Tables, channel_at, is_source, is_sink, larger_capacity}
use Rattle.kpn_chan.specs.Channel.{is_channel_full, next_item}
use Rattle.kpn_history.specs.declared.event.Event.{Event}
use Rattle.kpn_history.specs.declared.event.Event.TheVariants.{Feed, Close, Take, Leave}
use Rattle.kpn_history.specs.declared.stored.Trace.{Trace}
use Rattle.kpn_history.specs.Talks.{is_of}
use Rattle.kpn_history.specs.Channels.{capacity_or_zero, is_growth_of}
use Rattle.kpn_history.specs.Legal.{HasNumbers, OwesGrowth}
use Rattle.kpn_history.specs.Stops as owing
use Rattle.kpn_machine.specs.Machine.{Machine, channel_in, closed_in, wait_in, end_in, IsFree}
use Rattle.kpn_machine.specs.Due.{Stands, ReadsFrom, WritesTo, stop_of}
use Rattle.kpn_machine.specs.Run.{IsRun}
use Rattle.kpn_audit.specs.declared.findings.AuditFault.{AuditFault}
use Rattle.kpn_audit.specs.Audit.{IsOutOfSteps, IsFault}
use Rattle.kpn_audit.specs.Stored.{tables_for, history_in}
use Rattle.kpn_audit.specs.declared.scene.Scene.{Scene}
use Rattle.kpn_audit.specs.declared.scene.Scene.TheVariants.{Owes, NotThere, Process, Outside, OwesNothing}
use Rattle.kpn_audit.specs.declared.scene.GrowthOwed.{GrowthOwed}
use Rattle.kpn_audit.specs.declared.scene.Doing.{Doing}
use Rattle.kpn_audit.specs.declared.scene.Doing.TheVariants.{Ended, WaitsEmpty, WaitsFull, Reads, Writes, Ends, Elsewhere}
use Rattle.kpn_audit.specs.declared.scene.OutsideEnd.{OutsideEnd}
use Rattle.kpn_audit.specs.declared.scene.OutsideEnd.TheVariants.{NoSource, Closed, Open, NoSink, Left, Next}

-- what process p, of which the event is, is doing in a machine. It comes to a read, a write or an end only if it
-- may go on, and is elsewhere only if it has used up its steps
abbrev pub IsDoing : Tables → List Event → Event → (quota : ℕ) → Machine → (p : ℕ) → Doing → Type 0
IsDoing t H event quota s p (Ended how) = end_in s p ≡ Some how
IsDoing t H event quota s p (WaitsEmpty c) = wait_in s p ≡ Empty c
IsDoing t H event quota s p (WaitsFull c) = wait_in s p ≡ Full c
IsDoing t H event quota s p (Reads c next) = IsFree s p × ReadsFrom t s p c × (next ≡ next_item (channel_in s c))
IsDoing t H event quota s p (Writes c v full) =
    IsFree s p × WritesTo t s p c v × (full ≡ is_channel_full (channel_in s c))
IsDoing t H event quota s p (Ends how) = IsFree s p × Stands t s p (stop_of how)
IsDoing t H event quota s p Elsewhere = IsOutOfSteps t H event quota

-- how channel c stands to the outside that feeds it
abbrev pub source_side : Tables → Machine → (c : ℕ) → OutsideEnd
source_side t s c =
    if is_source (channel_at t c) then (if closed_in s c then Closed else Open) else NoSource

-- how channel c stands to the outside that takes from it
abbrev pub sink_side : Tables → Machine → (c : ℕ) → OutsideEnd
sink_side t s c =
    if is_sink (channel_at t c) then
    (if (channel_in s c).is_retired then Left else Next (next_item (channel_in s c))) else NoSink

-- how the channel of an event of the outside stands to it
abbrev pub IsSide : Tables → Machine → Event → (c : ℕ) → OutsideEnd → Type 0
IsSide t s (Feed d v) c side = (c ≡ d) × (side ≡ source_side t s c)
IsSide t s (Close d) c side = (c ≡ d) × (side ≡ source_side t s c)
IsSide t s (Take d v) c side = (c ≡ d) × (side ≡ sink_side t s c)
IsSide t s (Leave d) c side = (c ≡ d) × (side ≡ sink_side t s c)
IsSide t s event c side = ⊥

-- a history owes this growth
pub record IsOwedAfter (t : Tables) (H : List Event) (growth : GrowthOwed) : Type 0 where
  pub owed : OwesGrowth t H growth.process growth.channel
  pub capacity : growth.capacity ≡ larger_capacity t (capacity_or_zero t H growth.channel)

-- the history owes no growth, and the network has the process and the channel of the event
pub record IsJudgedByItself (t : Tables) (H : List Event) (event : Event) : Type 0 where
  pub nothing_owed : owing.OwesNothing t H
  pub numbers : HasNumbers t event

-- the event is of process p, and a machine to which the history leads shows what p is doing
pub record IsOfProcess (t : Tables) (H : List Event) (event : Event) (quota p : ℕ) (doing : Doing) : Type 0 where
  pub by_itself : IsJudgedByItself t H event
  pub own : is_of p event ≡ true
  pub seen : Machine
  pub run : IsRun t H seen
  pub is_doing : IsDoing t H event quota seen p doing

-- the event is of the outside, and a machine to which the history leads shows how its channel stands
pub record IsOfOutside (t : Tables) (H : List Event) (event : Event) (c : ℕ) (side : OutsideEnd) : Type 0 where
  pub by_itself : IsJudgedByItself t H event
  pub seen : Machine
  pub run : IsRun t H seen
  pub is_side : IsSide t seen event c side

-- the event is a growth, and none is owed
pub record IsGrowthOfNothing (t : Tables) (H : List Event) (event : Event) : Type 0 where
  pub by_itself : IsJudgedByItself t H event
  pub channel : ℕ
  pub growth : is_growth_of channel event ≡ true

-- what stands after a history, before an event, of whose process `quota` steps are seen
abbrev pub IsScene : Tables → List Event → Event → (quota : ℕ) → Scene → Type 0
IsScene t H event quota (Owes growth) = IsOwedAfter t H growth
IsScene t H event quota NotThere = owing.OwesNothing t H × (¬ HasNumbers t event)
IsScene t H event quota (Process p doing) = IsOfProcess t H event quota p doing
IsScene t H event quota (Outside c side) = IsOfOutside t H event c side
IsScene t H event quota OwesNothing = IsGrowthOfNothing t H event

-- what stands before event k of a history
pub record IsSceneAt (t : Tables) (H : List Event) (k quota : ℕ) (scene : Scene) : Type 0 where
  pub event : Event
  pub there : slice_get H k ≡ Some event
  pub is_scene : IsScene t (take k H) event quota scene

-- what stands before event k of the history that a trace gives
abbrev pub IsSceneBefore : {A : Type 0} → Tables → Trace A → (k quota : ℕ) → Scene → Type 0
IsSceneBefore t trace k quota scene = IsSceneAt (tables_for t trace) (history_in t trace) k quota scene

-- why there is no scene before event k: a fault of the events before it
abbrev pub IsFaultBefore : {A : Type 0} → Tables → Trace A → (k quota : ℕ) → AuditFault → Type 0
IsFaultBefore t trace k quota fault = IsFault (tables_for t trace) (take k (history_in t trace)) quota fault
