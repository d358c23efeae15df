use Rattle.kpn_net.proofs.Monotone.{closed_below-IsLeast}
use Rattle.kpn_net.proofs.laws.closed_below_is_least.Goals as goal

pub returns : goal.returns
returns c = closed_below-IsLeast
