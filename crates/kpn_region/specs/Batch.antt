-- A batch: what was claimed of a region, the events that it has made since, and what stands in it.
use Rattle.std.specs.Prelude.{◌≡◌, ℕ, ◌+◌, ◌<◌, ◌≤◌, false, true, List, [], ◌++◌, length, map, Option, Some, None, slice_index_or, slice_set, Bool}
use Rattle.kpn_net.specs.Tables.{Tables, program_of}
use Rattle.kpn_step.specs.declared.stop.Stop.{Stop}
use Rattle.kpn_step.specs.Frame.{Frame}
use Rattle.kpn_step.specs.Stops.{StandsAt, IsAtPort}
use Rattle.kpn_history.specs.declared.event.Event.{Event}
use Rattle.kpn_history.specs.Talks.{process_events}
use Rattle.kpn_region.specs.Local.{SideState, as_claimed, no_side, Local, is_in_region, frame_at, side_at, IsLocal, Plays}

pub record Batch : Type 0 where
  pub tables : Tables
  -- what was claimed
  pub first : Local
  pub events : List Event
  -- what stands in it
  pub now : Local
  -- for each process the stop at which it can't go on, if it came to one
  pub stops : List (Option Stop)

-- the batch of these parts
abbrev pub batch_of : Tables → (within : List Bool) → (first frames : List Frame) → List SideState → List Event
    → List (Option Stop) → Batch
batch_of t within first frames sides events stops =
    record {
      tables = t;
      first = record { within = within; frames = first; sides = map as_claimed sides };
      events = events;
      now = record { within = within; frames = frames; sides = sides };
      stops = stops;
    }

abbrev pub stop_in : Batch → (p : ℕ) → Option Stop
stop_in b p = slice_index_or b.stops p None

-- the process stands at this stop; a read or a write there is at a port of its program
pub record IsStuckAt (t : Tables) (p : ℕ) (f : Frame) (stop : Stop) : Type 0 where
  pub stands : StandsAt (program_of t p).blocks f stop
  pub port : IsAtPort (program_of t p) f stop

-- the events lead from what was claimed to what stands in it, the frames outside of the region stay, and each process
-- that has a stop stands there
pub record IsBatch (b : Batch) : Type 0 where
  pub was : IsLocal b.tables b.first
  pub is : IsLocal b.tables b.now
  pub within : b.now.within ≡ b.first.within
  pub claimed : b.first.sides ≡ map as_claimed b.now.sides
  pub processes : length b.stops ≡ length b.tables.instances
  pub plays : Plays b.tables b.first b.events b.now
  pub outside : (p : ℕ) → is_in_region b.now p ≡ false → frame_at b.now p ≡ frame_at b.first p
  pub stuck : (p : ℕ) (stop : Stop) → p < length b.tables.instances → stop_in b p ≡ Some stop
      → IsStuckAt b.tables p (frame_at b.now p) stop

-- nothing has run yet
pub record IsFresh (b : Batch) : Type 0 where
  pub same : b.now ≡ b.first
  pub no_events : b.events ≡ []
  pub no_stops : (p : ℕ) → stop_in b p ≡ None

-- no process is in the region, and of the channels it sees nothing
pub record IsEmpty (s : Local) : Type 0 where
  pub processes : (p : ℕ) → is_in_region s p ≡ false
  pub channels : (c : ℕ) → side_at s c ≡ no_side

-- the process is in the region too, at this frame
abbrev pub with_process : (p : ℕ) → Frame → Local → Local
with_process p f s = record s { within = slice_set s.within p true; frames = slice_set s.frames p f }

-- a region has run on: it has made further events, those of its processes at most as many as are no longer left
pub record RunsOn (budget left : ℕ) (before after : Batch) : Type 0 where
  pub tables : after.tables ≡ before.tables
  pub first : after.first ≡ before.first
  pub more : List Event
  pub events : after.events ≡ before.events ++ more
  pub within : process_events more + left ≤ budget
