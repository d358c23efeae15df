use Rattle.kpn_deadlock.proofs.Common.{arith, IsRingFrom}
use Rattle.kpn_deadlock.proofs.Searching.{told_none, told_next, told_all}
use Rattle.kpn_deadlock.proofs.Telling.{one_ring, ring_there, told_are_final}
use Rattle.kpn_deadlock.proofs.search.rings.Goals as goal

pub loop-p-init : goal.loop-p-init
loop-p-init g c =
    told_none (IsRingFrom c.args.network.now c.args.waits.now) c.new-told.result.items c.new-told.ensures.items

pub loop-p-preserved : goal.loop-p-preserved
loop-p-preserved g c =
    told_next (IsRingFrom c.args.network.now c.args.waits.now) c.loop-p.p c.loop-p.told.items c.loop-p.invariant
    c.in_ok-found.found c.in_ok-found.ensures (one_ring c.args.network.now c.args.waits.now c.loop-p.p)
    c.push_found.new.told.items c.in_ok-push_found.ensures

pub returns-clause-exact : goal.returns-clause-exact
returns-clause-exact g c =
    told_all (IsRingFrom c.args.network.now c.args.waits.now) c.loop-p.p c.loop-p.told.items c.loop-p.invariant
    (λ p others h. let below = ring_there c.args.network.now c.args.waits.now p others h in
    let n = c.instances-p-end.ensures in omega arith) c.from_vec.result c.from_vec.ensures

pub returns-clause-last : goal.returns-clause-last
returns-clause-last g c =
    told_are_final c.args.network.now c.known.ensures c.args.waits.now c.from_vec.result
    (told_all (IsRingFrom c.args.network.now c.args.waits.now) c.loop-p.p c.loop-p.told.items c.loop-p.invariant
    (λ p others h. let below = ring_there c.args.network.now c.args.waits.now p others h in
    let n = c.instances-p-end.ensures in omega arith) c.from_vec.result c.from_vec.ensures)
