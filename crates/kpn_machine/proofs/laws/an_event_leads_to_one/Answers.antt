use Rattle.kpn_machine.proofs.Determined.{determined}
use Rattle.kpn_machine.proofs.laws.an_event_leads_to_one.Goals as goal

pub returns : goal.returns
returns c = determined
