-- What an audit takes from a machine, but for the journals. A reader of the public contracts needs none of it.
use Rattle.std.specs.Prelude.{◌≡◌, List, length, map}
use Rattle.std.specs.List.{range_with_len}
use Rattle.kpn_net.specs.Tables.{Tables}
use Rattle.kpn_net.specs.Faults.{channel_numbers}
use Rattle.kpn_history.specs.declared.event.Event.{Event}
use Rattle.kpn_machine.specs.Machine.{Machine, channel_in, wait_in, end_in}
use Rattle.kpn_audit.specs.Complete.{TellsComplete}
use Rattle.kpn_audit.specs.declared.findings.Audit.{Audit}

-- its lists are those of the machine, to which the history leads
pub record ShowsLists {A : Type 0} (t : Tables) (H : List Event) (s : Machine) (audit : Audit A) : Type 0 where
  pub reads : audit.reads ≡ map (λ c. (channel_in s c).read) (channel_numbers t)
  pub caps : audit.caps ≡ map (λ c. (channel_in s c).capacity) (channel_numbers t)
  pub complete : TellsComplete t H audit.complete
  pub waits : audit.waits ≡ map (wait_in s) (range_with_len 0 (length t.instances))
  pub ends : audit.ends ≡ map (end_in s) (range_with_len 0 (length t.instances))
