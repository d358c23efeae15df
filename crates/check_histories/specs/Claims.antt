-- What the tests claim of worked histories.
use Rattle.std.specs.Prelude.{ℕ, suc, List, take, Some}
use Rattle.kpn_net.specs.Tables.{Tables}
use Rattle.kpn_net.specs.Faults.{IsNetwork}
use Rattle.kpn_history.specs.declared.event.Event.{Event}
use Rattle.kpn_history.specs.declared.state.Verdict.{Verdict}
use Rattle.kpn_history.specs.declared.state.Verdict.TheVariants.{Ended}
use Rattle.kpn_history.specs.Legal.{Legal}
use Rattle.kpn_history.specs.Ends.{IsQuiet, IsVerdict}

-- a legal history of a network has this verdict
pub record StopsAs (t : Tables) (H : List Event) (verdict : Verdict) : Type 0 where
  pub network : IsNetwork t
  pub legal : Legal t H
  pub stop : IsVerdict t H (Some verdict)

-- it has ended, and is quiet
pub record RunsToItsEnd (t : Tables) (H : List Event) : Type 0 where
  pub ended : StopsAs t H Ended
  pub quiet : IsQuiet t H

-- the first k events are legal, and the first k + 1 are not: event k, counted from 0, is the first that no run brings
pub record BreaksAt (t : Tables) (H : List Event) (k : ℕ) : Type 0 where
  pub before : Legal t (take k H)
  pub after : ¬ Legal t (take (suc k) H)
