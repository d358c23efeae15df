use Rattle.kpn_net.proofs.Cycles.{rotated}
use Rattle.kpn_cycle.proofs.laws.cycle_from_each_member.Goals as goal

pub returns : goal.returns
returns c = λ t waits p others cycle q among.
    let r = rotated t waits p others cycle q among in
    (r.rest, r.cycle, r.members, r.full)
