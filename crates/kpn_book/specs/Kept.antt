-- What every call on a book keeps.
use Rattle.std.specs.Prelude.{◌≡◌, ℕ, ◌+◌, ◌<◌, ◌≤◌, ◌^◌, length, Option, Some, None}
use Rattle.kpn_net.specs.declared.wait.Wait.{Wait}
use Rattle.kpn_net.specs.declared.wait.Wait.TheVariants.{Nobody, Empty, Full}
use Rattle.kpn_net.specs.Faults.{IsNetwork}
use Rattle.kpn_history.specs.declared.event.How.{How}
use Rattle.kpn_history.specs.declared.state.State.{State}
use Rattle.kpn_history.specs.declared.state.State.TheVariants.{Ready, Held, WaitsEmpty, WaitsFull, Ended}
use Rattle.kpn_history.specs.Talks.{process_events}
use Rattle.kpn_history.specs.Stops.{OwesNothing}
use Rattle.kpn_machine.specs.Machine.{wait_in, end_in}
use Rattle.kpn_machine.specs.Run.{IsRun}
use Rattle.kpn_book.specs.Schedule.{state_at, IsSchedule}
use Rattle.kpn_book.specs.Book.{Book, held_count}

-- the state of a process by how it ended and what it waits for: ready or held if it has not ended and waits for nobody
abbrev pub IsStateBy : (end : Option How) → (wait : Wait) → State → Type 0
IsStateBy end wait Ready = (end ≡ None) × (wait ≡ Nobody)
IsStateBy end wait Held = (end ≡ None) × (wait ≡ Nobody)
IsStateBy end wait (WaitsEmpty c) = (end ≡ None) × (wait ≡ Empty c)
IsStateBy end wait (WaitsFull c) = (end ≡ None) × (wait ≡ Full c)
IsStateBy end wait (Ended how) = end ≡ Some how

-- the history leads to the machine, and the schedule agrees with it
pub record IsInStep (b : Book) : Type 0 where
  pub run : IsRun b.tables b.history b.machine
  pub processes : length b.schedule.states ≡ length b.tables.instances
  pub states : (p : ℕ) → p < length b.tables.instances
      → IsStateBy (end_in b.machine p) (wait_in b.machine p) (state_at b.schedule.states p)

-- besides, no growth is owed, a commit made each event of a process, and the commits can be counted, with one more for
-- each process that is held
pub record IsKept (b : Book) : Type 0 where
  pub in_step : IsInStep b
  pub nothing_owed : OwesNothing b.tables b.history
  pub committed : process_events b.history ≤ b.commits
  pub countable : b.commits + held_count b < 2 ^ 64

-- a book: besides, the tables are those of a network, and the queue holds each ready process once and no other process
pub record IsBook (b : Book) : Type 0 where
  pub network : IsNetwork b.tables
  pub schedule : IsSchedule b.schedule
  pub kept : IsKept b
