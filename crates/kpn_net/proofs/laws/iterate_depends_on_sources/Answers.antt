use Rattle.kpn_net.proofs.Monotone.{round-depends_on_sources}
use Rattle.kpn_net.proofs.laws.iterate_depends_on_sources.Goals as goal

pub returns : goal.returns
returns c t given other a n = round-depends_on_sources t given other a n n
