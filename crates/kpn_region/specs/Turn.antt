-- Scaffolding: what the turn of one process does to its frame, to the channels of the region and to the events. Only the
-- contracts of private functions cite it.
use Rattle.std.specs.Prelude.{◌≡◌, ℕ, ◌*◌, ◌<◌, ◌≤◌, true, ℤ, IsTrue, List, [], ◌∷◌, ◌++◌, length, map, slice_index_or, slice_set, Option, Some, None}
use Rattle.kpn_net.specs.Tables.{Tables, program_of}
use Rattle.kpn_step.specs.Frame.{Frame, fits}
use Rattle.kpn_history.specs.declared.event.Event.{Event}
use Rattle.kpn_history.specs.declared.event.Event.TheVariants.{Get, Put, Take}
use Rattle.kpn_history.specs.Talks.{process_events}
use Rattle.kpn_region.specs.declared.traffic.Passed.{Passed}
use Rattle.kpn_region.specs.declared.traffic.Passed.TheVariants.{On}
use Rattle.kpn_region.specs.declared.traffic.Halt.{Halt}
use Rattle.kpn_region.specs.declared.traffic.Halt.TheVariants.{Stuck}
use Rattle.kpn_region.specs.Local.{SideState, no_side, untaken, next_of, with_next_taken, with_item_put, as_claimed, Local, is_in_region, frame_at, Plays}
use Rattle.kpn_region.specs.Batch.{IsStuckAt}

abbrev pub side_in : List SideState → (c : ℕ) → SideState
side_in sides c = slice_index_or sides c no_side

-- ---- one event

-- the next item of a channel was got
pub record IsGot (p c : ℕ) (v : ℤ) (sides : List SideState) (events : List Event)
    (sides_then : List SideState) (events_then : List Event) : Type 0 where
  pub item : next_of (side_in sides c) ≡ Some v
  pub sides_are : sides_then ≡ slice_set sides c (with_next_taken (side_in sides c))
  pub events_are : events_then ≡ events ++ Get p c v ∷ []

-- the next item of a sink was taken, if it was
abbrev pub IsTaken : (c : ℕ) → Option ℤ → (sides : List SideState) → (events : List Event)
    → (sides_then : List SideState) → (events_then : List Event) → Type 0
IsTaken c None sides events sides_then events_then = (sides_then ≡ sides) × (events_then ≡ events)
IsTaken c (Some v) sides events sides_then events_then =
    (next_of (side_in sides c) ≡ Some v) × (sides_then ≡ slice_set sides c (with_next_taken (side_in sides c)))
    × (events_then ≡ events ++ Take c v ∷ [])

-- an item was put on a channel with room, and, if that is a sink that the region empties, taken from it
pub record IsPutOn (p c : ℕ) (v : ℤ) (sides : List SideState) (events : List Event)
    (sides_then : List SideState) (events_then : List Event) : Type 0 where
  pub room : length (untaken (side_in sides c)) < (side_in sides c).room
  pub claimed : as_claimed (with_item_put v (side_in sides c)) ≡ as_claimed (side_in sides c)
  pub taken : Option ℤ
  pub drained : (w : ℤ) → taken ≡ Some w → (side_in sides c).is_drained ≡ true
  pub takes : IsTaken c taken (slice_set sides c (with_item_put v (side_in sides c))) (events ++ Put p c v ∷ [])
      sides_then events_then

-- what came of a write
abbrev pub puts_by : Passed → (p c : ℕ) → ℤ → (sides : List SideState) → (events : List Event)
    → (sides_then : List SideState) → (events_then : List Event) → Type 0
puts_by On p c v sides events sides_then events_then = IsPutOn p c v sides events sides_then events_then
puts_by other p c v sides events sides_then events_then = (sides_then ≡ sides) × (events_then ≡ events)

-- ---- the turn of a process

-- process p is in the region at this frame, and the channels are these
pub record HasPart (p : ℕ) (f : Frame) (sides : List SideState) (s : Local) : Type 0 where
  pub there : p < length s.frames
  pub within : is_in_region s p ≡ true
  pub frame : frame_at s p ≡ f
  pub sides_are : s.sides ≡ sides

-- the state with this frame for process p and these channels
abbrev pub with_part : (p : ℕ) → Frame → List SideState → Local → Local
with_part p f sides s = record s { frames = slice_set s.frames p f; sides = sides }

-- process p has made this many events: whatever events led to the state before, with these they lead to the state after
pub record MakesEvents (t : Tables) (p n : ℕ) (f : Frame) (sides : List SideState) (events : List Event)
    (g : Frame) (sides_then : List SideState) (events_then : List Event) : Type 0 where
  pub fit : IsTrue (fits (program_of t p) g)
  pub claimed : map as_claimed sides_then ≡ map as_claimed sides
  pub more : List Event
  pub events_are : events_then ≡ events ++ more
  pub count : process_events more ≡ n
  pub few : length more ≤ 2 * n
  pub leads : (first before : Local) → HasPart p f sides before → Plays t first events before
      → Plays t first events_then (with_part p g sides_then before)

-- what came of a stop
abbrev pub passes_by : Passed → (t : Tables) → (p : ℕ) → Frame → (sides : List SideState) → (events : List Event)
    → Frame → (sides_then : List SideState) → (events_then : List Event) → Type 0
passes_by On t p f sides events g sides_then events_then = MakesEvents t p 1 f sides events g sides_then events_then
passes_by other t p f sides events g sides_then events_then =
    (g ≡ f) × (sides_then ≡ sides) × (events_then ≡ events)

-- how a turn ended
abbrev pub halts_at : Halt → (t : Tables) → (p : ℕ) → Frame → Type 0
halts_at (Stuck stop) t p f = IsStuckAt t p f stop
halts_at other t p f = Unit {0}
