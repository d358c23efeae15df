use Rattle.kpn_net.proofs.WaitTables.{waits-nobody}
use Rattle.kpn_cycle.proofs.laws.nobody_waits.Goals as goal

pub returns : goal.returns
returns c = λ t. waits-nobody t
