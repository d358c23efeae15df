use Rattle.kpn_stream_devices.proofs.Putting.{all_put}
use Rattle.kpn_stream_devices.proofs.laws.what_was_put.Goals as goal

pub returns : goal.returns
returns g c = λ t network H legal wanted first now failed served s i sink found own stays d.
    (all_put g.O.Write.contents g.G.Write.contents t network first s i d sink found own served legal stays).1
