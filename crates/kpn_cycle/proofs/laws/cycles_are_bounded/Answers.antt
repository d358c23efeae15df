use Rattle.kpn_net.proofs.Cycles.{cycle_short}
use Rattle.kpn_cycle.proofs.laws.cycles_are_bounded.Goals as goal

pub returns : goal.returns
returns c = λ t waits p others cycle. cycle_short t waits p others cycle
