use Rattle.kpn_stream.proofs.Listing.{fed_from}
use Rattle.kpn_stream.proofs.laws.fed_from_lists.Goals as goal

pub returns : goal.returns
returns g c = λ t network H legal first now failed so_far given lists.
    fed_from g.S.Sources.gives g.S.Sources.looks first t network H legal now failed so_far given lists
