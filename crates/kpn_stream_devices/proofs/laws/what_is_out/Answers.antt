use Rattle.kpn_stream_devices.proofs.Flushing.{all_out}
use Rattle.kpn_stream_devices.proofs.laws.what_is_out.Goals as goal

pub returns : goal.returns
returns g c = λ t network H wanted first now last legal s i sink there found own stays d.
    all_out g.O.Write.contents g.G.Write.contents t network first now s i d sink found own wanted H last legal there
    stays
