use Rattle.kpn_stream.proofs.Listing.{gives_ahead}
use Rattle.kpn_stream.proofs.laws.what_is_ahead.Goals as goal

pub returns : goal.returns
returns g c = λ ahead turns first d. gives_ahead g.S.Sources.gives g.S.Sources.looks ahead turns first d
