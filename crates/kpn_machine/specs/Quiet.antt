-- A quiet moment of a run, as a property of the machine.
use Rattle.std.specs.Prelude.{◌≡◌, ℕ, ◌<◌, ◌⊎◌, length, Some}
use Rattle.kpn_net.specs.declared.wait.Wait.TheVariants.{Empty}
use Rattle.kpn_net.specs.Tables.{Tables}
use Rattle.kpn_history.specs.declared.event.How.{How}
use Rattle.kpn_machine.specs.Machine.{Machine, wait_in, end_in}

-- each process has ended or waits on an empty channel
pub record IsQuietNow (t : Tables) (s : Machine) : Type 0 where
  pub each : (p : ℕ) → p < length t.instances
      → ((how : How) × (end_in s p ≡ Some how)) ⊎ ((c : ℕ) × (wait_in s p ≡ Empty c))
