-- What processes wait for, by their states.
use Rattle.std.specs.Prelude.{◌≡◌, ℕ, ◌<◌, List, length, slice_index_or}
use Rattle.kpn_net.specs.declared.wait.Wait.{Wait}
use Rattle.kpn_net.specs.declared.wait.Wait.TheVariants.{Nobody, Empty, Full}
use Rattle.kpn_net.specs.Tables.{Tables}
use Rattle.kpn_history.specs.declared.event.Event.{Event}
use Rattle.kpn_history.specs.declared.state.State.{State}
use Rattle.kpn_history.specs.declared.state.State.TheVariants.{Ready, Held, WaitsEmpty, WaitsFull, Ended}
use Rattle.kpn_history.specs.Views.{IsStateOf}

-- the state of each process after a history
pub record AreStatesOf (t : Tables) (H : List Event) (states : List State) : Type 0 where
  pub one_each : length states ≡ length t.instances
  pub each : (p : ℕ) → p < length t.instances → IsStateOf t H p (slice_index_or states p Ready)

-- ---- scaffolding

-- what a process in this state waits for
abbrev pub wait_of_state : State → Wait
wait_of_state Ready = Nobody
wait_of_state Held = Nobody
wait_of_state (WaitsEmpty c) = Empty c
wait_of_state (WaitsFull c) = Full c
wait_of_state (Ended how) = Nobody
