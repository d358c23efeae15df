use Rattle.kpn_net.proofs.Cycles.{smallest_permuted}
use Rattle.kpn_cycle.proofs.laws.smallest_in_any_order.Goals as goal

pub returns : goal.returns
returns c = λ cap channels others d moved s. smallest_permuted cap channels others d moved s
