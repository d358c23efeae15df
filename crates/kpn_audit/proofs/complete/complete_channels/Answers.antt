use Rattle.std.proofs.Common.{arith}
use Rattle.kpn_audit.proofs.Completing.{told_none, told_more, told_all}
use Rattle.kpn_audit.proofs.complete.complete_channels.Goals as goal

pub loop-c-init : goal.loop-c-init
loop-c-init g c = told_none _ _ _ c.in_ok-complete.ensures.items

pub loop-c-preserved : goal.loop-c-preserved
loop-c-preserved g c =
    told_more c.args.network.now c.args.machine.now c.loop-c.c c.loop-c.complete.items c.loop-c.invariant
    c.is_complete.result c.is_complete.ensures c.push.new.self.items c.in_ok-push.ensures.items

pub returns : goal.returns
returns g c =
    told_all c.args.network.now c.args.machine.now c.loop-c.c c.loop-c.complete.items c.from_vec.result
    (let n = c.channels-c-end.ensures in omega arith) c.loop-c.invariant c.from_vec.ensures
