use Rattle.kpn_net.proofs.Cycles.{smallest_unique}
use Rattle.kpn_cycle.proofs.laws.smallest_is_unique.Goals as goal

pub returns : goal.returns
returns c = λ cap channels d e a b. smallest_unique cap channels d e a b
