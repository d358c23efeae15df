use Rattle.kpn_net.proofs.WaitTables.{waits-set}
use Rattle.kpn_cycle.proofs.laws.wait_is_set.Goals as goal

pub returns : goal.returns
returns c = λ t waits p wait are own. waits-set t waits p wait are own
