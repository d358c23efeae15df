use Rattle.kpn_net.proofs.Monotone.{iterate-grows}
use Rattle.kpn_net.proofs.laws.iterate_grows.Goals as goal

pub returns : goal.returns
returns c = iterate-grows
