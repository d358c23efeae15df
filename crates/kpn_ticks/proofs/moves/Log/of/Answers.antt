-- The clocks of the course are those of the events so far, whose ticks are few.
use Rattle.kpn_ticks.proofs.Common.{true, take, sym, subst, ap, ◌∙◌, arith, length-take, Clocks, AreClocks, Course}
use Rattle.kpn_ticks.proofs.Counting.{clocks_are, ticks_are_few}
use Rattle.kpn_ticks.proofs.Course.{course_clocks}
use Rattle.kpn_ticks.proofs.moves.Log.of.Goals as goal

pub count-requires-clause-clocks : goal.count-requires-clause-clocks
count-requires-clause-clocks c =
    let t = c.args.network.now in
    let events = take c.loop-k.k c.args.events.now in
    subst (AreClocks t) (sym (ap (λ (x : Course). x.clocks) c.loop-k.invariant ∙ course_clocks t events))
    (clocks_are t true events)

pub count-requires-clause-fits : goal.count-requires-clause-fits
count-requires-clause-fits c =
    let t = c.args.network.now in
    let events = take c.loop-k.k c.args.events.now in
    let last = ap (λ (x : Course). x.clocks.last) c.loop-k.invariant in
    let same = ap (λ (s : Clocks). s.last) (course_clocks t events) in
    let few = ticks_are_few t true events in
    let count = length-take c.loop-k.k c.args.events.now in
    omega (arith, last, same, few, count)
