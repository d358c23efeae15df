use Rattle.kpn_chan.proofs.Places.{counted}
use Rattle.kpn_chan.proofs.chunks.Chunks.count.Goals as goal

pub len-requires : goal.len-requires
len-requires g c = counted c.args.self.now c.requires
