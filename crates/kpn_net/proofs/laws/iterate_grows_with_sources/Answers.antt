use Rattle.kpn_net.proofs.Monotone.{iterate-grows_with_sources}
use Rattle.kpn_net.proofs.laws.iterate_grows_with_sources.Goals as goal

pub returns : goal.returns
returns c = iterate-grows_with_sources
