use Rattle.kpn_net.proofs.network.parts.NetworkParts.known_programs.Goals as goal
use Rattle.kpn_net.proofs.SideLemmas.{known_more}

pub loop-program-preserved : goal.loop-program-preserved
loop-program-preserved c =
    let items = c.deref-program-items.ensures.value in
    known_more c.args.self.now.programs.items c.loop-program.program-index c.program-item.result
    (rw items at c.loop-program-test.true) (rw items at c.program-item.is) c.loop-program.invariant
    c.known.ensures
