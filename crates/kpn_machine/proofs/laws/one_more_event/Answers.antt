use Rattle.kpn_machine.proofs.Running.{IsRun-next}
use Rattle.kpn_machine.proofs.laws.one_more_event.Goals as goal

pub returns : goal.returns
returns c = IsRun-next
