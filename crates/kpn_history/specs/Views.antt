-- A view that agrees with a history.
use Rattle.std.specs.Prelude.{◌≡◌, ℕ, ◌<◌, Bool, true, false, not, List, length, map, count_by, slice_index_or, Contains}
use Rattle.kpn_net.specs.declared.wait.Wait.TheVariants.{Nobody, Empty, Full}
use Rattle.kpn_net.specs.Tables.{Tables}
use Rattle.kpn_net.specs.Faults.{channel_numbers}
use Rattle.kpn_history.specs.declared.event.Event.{Event}
use Rattle.kpn_history.specs.declared.event.Event.TheVariants as event
use Rattle.kpn_history.specs.declared.state.State.{State}
use Rattle.kpn_history.specs.declared.state.State.TheVariants.{Ready, Held, WaitsEmpty, WaitsFull, Ended}
use Rattle.kpn_history.specs.declared.state.Counts.{Counts}
use Rattle.kpn_history.specs.declared.state.View.{View}
use Rattle.kpn_history.specs.Talks.{has_ended}
use Rattle.kpn_history.specs.Channels.{written_on, read_on, capacity_after, reader_lives}
use Rattle.kpn_history.specs.Waiting.{wait_of}

-- the state of a process: ended in the way that it ended, waiting on the channel on which it is blocked, else ready or
-- held
abbrev pub IsStateOf : Tables → List Event → (p : ℕ) → State → Type 0
IsStateOf t H p Ready = (has_ended H p ≡ false) × (wait_of t H p ≡ Nobody)
IsStateOf t H p Held = (has_ended H p ≡ false) × (wait_of t H p ≡ Nobody)
IsStateOf t H p (WaitsEmpty c) = (has_ended H p ≡ false) × (wait_of t H p ≡ Empty c)
IsStateOf t H p (WaitsFull c) = (has_ended H p ≡ false) × (wait_of t H p ≡ Full c)
IsStateOf t H p (Ended how) = Contains H (event.Ended p how)

-- a process in this state has ended or waits
abbrev pub is_stopped : State → Bool
is_stopped Ready = false
is_stopped Held = false
is_stopped state = true

-- ---- how many processes are in a state

abbrev pub is_ready : State → Bool
is_ready Ready = true
is_ready state = false

abbrev pub is_held : State → Bool
is_held Held = true
is_held state = false

abbrev pub waits_empty : State → Bool
waits_empty (WaitsEmpty c) = true
waits_empty state = false

abbrev pub waits_full : State → Bool
waits_full (WaitsFull c) = true
waits_full state = false

abbrev pub is_ended : State → Bool
is_ended (Ended how) = true
is_ended state = false

-- the counts of a list of states
pub record AreCounts (states : List State) (counts : Counts) : Type 0 where
  pub ready : counts.ready ≡ count_by is_ready states
  pub held : counts.held ≡ count_by is_held states
  pub empty : counts.empty ≡ count_by waits_empty states
  pub full : counts.full ≡ count_by waits_full states
  pub ended : counts.ended ≡ count_by is_ended states

-- a view agrees with a history
pub record Agrees {A : Type 0} (t : Tables) (H : List Event) (view : View A) : Type 0 where
  pub journals : view.journals ≡ map (written_on H) (channel_numbers t)
  pub read : view.read ≡ map (λ c. length (read_on H c)) (channel_numbers t)
  pub caps : view.caps ≡ map (capacity_after t H) (channel_numbers t)
  pub retired : view.retired ≡ map (λ c. not (reader_lives t H c)) (channel_numbers t)
  pub processes : length view.states ≡ length t.instances
  pub states : (p : ℕ) → p < length t.instances → IsStateOf t H p (slice_index_or view.states p Ready)
  pub counts : AreCounts view.states view.counts
