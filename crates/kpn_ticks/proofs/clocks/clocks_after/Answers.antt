-- The clocks are those of the events so far, whose ticks are few.
use Rattle.kpn_ticks.proofs.Common.{take, sym, subst, ap, arith, length-take, Clocks, AreClocks}
use Rattle.kpn_ticks.proofs.Counting.{clocks_are, ticks_are_few}
use Rattle.kpn_ticks.proofs.clocks.clocks_after.Goals as goal

pub count-requires-clause-clocks : goal.count-requires-clause-clocks
count-requires-clause-clocks c =
    subst (AreClocks c.args.network.now) (sym c.loop-k.invariant)
    (clocks_are c.args.network.now c.args.has_capacities (take c.loop-k.k c.args.events.now))

pub count-requires-clause-fits : goal.count-requires-clause-fits
count-requires-clause-fits c =
    let last = ap (λ (s : Clocks). s.last) c.loop-k.invariant in
    let few = ticks_are_few c.args.network.now c.args.has_capacities (take c.loop-k.k c.args.events.now) in
    let count = length-take c.loop-k.k c.args.events.now in
    omega (arith, last, few, count)
