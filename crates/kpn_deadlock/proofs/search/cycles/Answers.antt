use Rattle.kpn_deadlock.proofs.Common.{arith, IsCycleFrom}
use Rattle.kpn_deadlock.proofs.Searching.{told_none, told_next, told_all}
use Rattle.kpn_deadlock.proofs.Telling.{one_cycle, cycle_there}
use Rattle.kpn_deadlock.proofs.search.cycles.Goals as goal

pub loop-p-init : goal.loop-p-init
loop-p-init g c =
    told_none (IsCycleFrom c.args.network.now c.args.waits.now) c.new-told.result.items c.new-told.ensures.items

pub loop-p-preserved : goal.loop-p-preserved
loop-p-preserved g c =
    told_next (IsCycleFrom c.args.network.now c.args.waits.now) c.loop-p.p c.loop-p.told.items c.loop-p.invariant
    c.in_ok-found.found c.in_ok-found.ensures (one_cycle c.args.network.now c.args.waits.now c.loop-p.p)
    c.push_found.new.told.items c.in_ok-push_found.ensures

pub returns : goal.returns
returns g c =
    told_all (IsCycleFrom c.args.network.now c.args.waits.now) c.loop-p.p c.loop-p.told.items c.loop-p.invariant
    (λ p others h. let below = cycle_there c.args.network.now c.args.waits.now p others h in
    let n = c.instances-p-end.ensures in omega arith) c.from_vec.result c.from_vec.ensures
