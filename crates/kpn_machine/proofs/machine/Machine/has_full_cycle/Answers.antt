use Rattle.std.proofs.Common.{arith}
use Rattle.kpn_machine.proofs.Verdicts.{no_full_more, full_cycle_no}
use Rattle.kpn_machine.proofs.machine.Machine.has_full_cycle.Goals as goal

pub loop-p-preserved : goal.loop-p-preserved
loop-p-preserved g c =
    no_full_more c.args.network.now c.args.self.now c.loop-p.p c.walk.result c.loop-p.invariant c.walk.ensures.exact
    c.in_default.not-Full

pub returns : goal.returns
returns g c =
    full_cycle_no c.args.network.now c.args.self.now
    (λ p d there. c.loop-p.invariant p d (let n = c.instances-p-end.ensures in omega arith))
