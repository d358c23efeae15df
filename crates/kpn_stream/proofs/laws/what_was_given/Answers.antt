use Rattle.kpn_stream.proofs.Listing.{gave_all}
use Rattle.kpn_stream.proofs.laws.what_was_given.Goals as goal

pub returns : goal.returns
returns g c = λ t network H legal first now failed so_far.
    gave_all g.S.Sources.gives g.S.Sources.looks first t network so_far legal
