use Rattle.kpn_stream.proofs.Listing.{took_all}
use Rattle.kpn_stream.proofs.laws.what_was_taken.Goals as goal

pub returns : goal.returns
returns g c = λ t network H legal wanted first now failed so_far.
    took_all g.K.Sinks.takes g.K.Sinks.flushes t network first so_far legal
