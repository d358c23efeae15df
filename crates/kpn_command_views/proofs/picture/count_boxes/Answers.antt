-- The clocks are those of the events so far, whose ticks are few.
use Rattle.kpn_command_views.proofs.Common.{true, take, sym, subst, ap, arith, length-take, Clocks, AreClocks, clocks_are, ticks_are_few}
use Rattle.kpn_command_views.proofs.picture.count_boxes.Goals as goal

pub box_count-count-requires-clause-clocks : goal.box_count-count-requires-clause-clocks
box_count-count-requires-clause-clocks c =
    subst (AreClocks c.args.network.now) (sym c.loop-k.invariant.0)
    (clocks_are c.args.network.now true (take c.loop-k.k c.args.events.now))

pub box_count-count-requires-clause-fits : goal.box_count-count-requires-clause-fits
box_count-count-requires-clause-fits c =
    let last = ap (λ (s : Clocks). s.last) c.loop-k.invariant.0 in
    let few = ticks_are_few c.args.network.now true (take c.loop-k.k c.args.events.now) in
    let count = length-take c.loop-k.k c.args.events.now in
    omega (arith, last, few, count)

pub count-requires-clause-clocks : goal.count-requires-clause-clocks
count-requires-clause-clocks c =
    subst (AreClocks c.args.network.now) (sym c.loop-k.invariant.0)
    (clocks_are c.args.network.now true (take c.loop-k.k c.args.events.now))

pub count-requires-clause-fits : goal.count-requires-clause-fits
count-requires-clause-fits c =
    let last = ap (λ (s : Clocks). s.last) c.loop-k.invariant.0 in
    let few = ticks_are_few c.args.network.now true (take c.loop-k.k c.args.events.now) in
    let count = length-take c.loop-k.k c.args.events.now in
    omega (arith, last, few, count)
