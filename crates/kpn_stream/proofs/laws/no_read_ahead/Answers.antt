use Rattle.kpn_stream.proofs.Listing.{fed_when_due, closed_when_due}
use Rattle.kpn_stream.proofs.laws.no_read_ahead.Goals as goal

pub returns-clause-fed : goal.returns-clause-fed
returns-clause-fed g c = λ t H first now failed so_far.
    fed_when_due g.S.Sources.gives g.S.Sources.looks first t so_far

pub returns-clause-closed : goal.returns-clause-closed
returns-clause-closed g c = λ t H first now failed so_far.
    closed_when_due g.S.Sources.gives g.S.Sources.looks first t so_far
