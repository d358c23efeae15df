-- What a view of a run shows of the journals, without its history.
use Rattle.std.specs.Prelude.{◌≡◌, ℕ, ◌<◌, if◌then◌else◌, List, [], length, slice_index_or, All}
use Rattle.kpn_net.specs.Tables.{Tables, channel_at, is_source}
use Rattle.kpn_net.specs.Process.{Family}
use Rattle.kpn_net.specs.Iteration.{IsBelowLeast, IsLeast}
use Rattle.kpn_history.specs.declared.event.Event.{Event}
use Rattle.kpn_history.specs.declared.state.State.{State}
use Rattle.kpn_history.specs.declared.state.State.TheVariants.{WaitsEmpty, Ended}
use Rattle.kpn_history.specs.declared.state.View.{View}
use Rattle.kpn_history.specs.Legal.{Legal}
use Rattle.kpn_history.specs.Stops.{OwesNothing}
use Rattle.kpn_history.specs.Views.{Agrees}
use Rattle.kpn_machine.specs.Machine.{channel_in}
use Rattle.kpn_book.specs.Book.{Book}

-- the view shows a moment of some run of the network: it agrees with a legal history that owes no growth
pub record ShowsARun {A : Type 0} (t : Tables) (view : View A) : Type 0 where
  pub history : List Event
  pub legal : Legal t history
  pub nothing_owed : OwesNothing t history
  pub agrees : Agrees t history view

-- the journal of a channel in a view
abbrev pub shown_on : {A : Type 0} → View A → Family
shown_on view c = slice_index_or view.journals c []

-- it shows the journals that a book holds
abbrev pub ShowsJournals : {A : Type 0} → Book → View A → Type 0
ShowsJournals b view = (c : ℕ) → c < length b.tables.channels → shown_on view c ≡ (channel_in b.machine c).journal

-- what was fed: the journals of the sources
abbrev pub shown_fed : {A : Type 0} → Tables → View A → Family
shown_fed t view c = if is_source (channel_at t c) then shown_on view c else []

-- each journal is a prefix of the least solution for what was fed
abbrev pub IsBelowKahn : {A : Type 0} → Tables → View A → Type 0
IsBelowKahn t view = (c : ℕ) → c < length t.channels → IsBelowLeast t (shown_fed t view) c (shown_on view c)

-- a process has ended or waits on an empty channel
abbrev pub IsAtRest : State → Type 0
IsAtRest (WaitsEmpty c) = Unit {0}
IsAtRest (Ended how) = Unit {0}
IsAtRest state = ⊥

-- if each process has ended or waits on an empty channel, each journal is the least solution for what was fed
abbrev pub IsKahnAtRest : {A : Type 0} → Tables → View A → Type 0
IsKahnAtRest t view = All IsAtRest view.states
    → (c : ℕ) → c < length t.channels → IsLeast t (shown_fed t view) c (shown_on view c)
