-- The book of a run: what has happened in it, what this has led to, and which process to step next.
use Rattle.std.specs.Prelude.{◌≡◌, ℕ, ◌+◌, ◌<◌, Bool, List, length, count_by}
use Rattle.kpn_net.specs.Tables.{Tables}
use Rattle.kpn_step.specs.Frame.{Frame}
use Rattle.kpn_history.specs.declared.state.State.TheVariants.{Held}
use Rattle.kpn_history.specs.declared.event.Event.{Event}
use Rattle.kpn_history.specs.Views.{is_held}
use Rattle.kpn_machine.specs.Machine.{Machine, with_frame}
use Rattle.kpn_book.specs.Schedule.{Schedule, state_at, HoldsFirst, made_ready}

-- the network, the events so far, the machine to which they lead, the schedule of the processes, how many commits were
-- made, and whether the events are kept in memory
pub record Book : Type 0 where
  pub tables : Tables
  pub history : List Event
  pub machine : Machine
  pub schedule : Schedule
  pub commits : ℕ
  pub keeps_events : Bool

-- somebody steps the process
pub record IsHeld (b : Book) (p : ℕ) : Type 0 where
  pub there : p < length b.schedule.states
  pub held : state_at b.schedule.states p ≡ Held

-- how many processes are held
abbrev pub held_count : Book → ℕ
held_count b = count_by is_held b.schedule.states

-- ---- changes without an event

-- process p is at this frame
abbrev pub standing_at : (p : ℕ) → Frame → Book → Book
standing_at p frame b = record b { machine = with_frame p frame b.machine }

-- process p is ready, at the tail of the queue
abbrev pub put_back : (p : ℕ) → Book → Book
put_back p b = record b { schedule = made_ready p b.schedule }

-- one more commit was made
abbrev pub with_one_commit : Book → Book
with_one_commit b = record b { commits = b.commits + 1 }

-- the first process of the queue, p, becomes held, and nothing else changes
pub record IsClaimed (p : ℕ) (before after : Book) : Type 0 where
  pub holds : HoldsFirst p before.schedule after.schedule
  pub same : after ≡ record before { schedule = after.schedule }
