use Rattle.kpn_deadlock.proofs.Common.{rules, ◌<◌, length, Ready}
use Rattle.kpn_deadlock.proofs.Stated.{states_more}
use Rattle.kpn_deadlock.proofs.among.waits_in.Goals as goal

pub loop-p-preserved : goal.loop-p-preserved
loop-p-preserved g c =
    let below : c.loop-p.p < length c.args.states.now = search rules in
    states_more c.args.states.now c.loop-p.p Ready c.wait_in.result c.loop-p.waits.items c.push.new.self.items below
    c.loop-p.invariant c.wait_in.ensures c.in_ok-push.ensures.items
