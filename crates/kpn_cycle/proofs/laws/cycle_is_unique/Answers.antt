use Rattle.kpn_net.proofs.Cycles.{cycle_unique}
use Rattle.kpn_cycle.proofs.laws.cycle_is_unique.Goals as goal

pub returns : goal.returns
returns c = λ t waits p others more a b. cycle_unique t waits p others more a b
