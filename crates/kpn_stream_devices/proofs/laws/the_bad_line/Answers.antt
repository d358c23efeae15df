use Rattle.kpn_stream_devices.proofs.Counting.{bad_line}
use Rattle.kpn_stream_devices.proofs.laws.the_bad_line.Goals as goal

pub returns : goal.returns
returns g c = λ t network H legal first now s i line fed source found d new.
    bad_line g.I.Read.remaining g.F.Read.remaining t network s i first d source found new fed legal
