-- What the parts of the code answer is all that the picture wants. The ticks of the events are few.
use Rattle.kpn_command_views.proofs.Common.{true, sym, subst, ap, ◌∙◌, arith, Clocks, shown, AreClocks, clocks_are, ticks_are_few, scale_for}
use Rattle.kpn_command_views.proofs.Pictured.{pictured}
use Rattle.kpn_command_views.proofs.picture.DrawnRun.picture.Goals as goal

pub new-scale-requires : goal.new-scale-requires
new-scale-requires c =
    let last = ap (λ (s : Clocks). s.last) c.in_ok-ends.ensures in
    let few = ticks_are_few c.args.self.network.now true c.args.self.events.now in
    omega (arith, c.last.ensures, last, few)

pub count_last-requires-clause-fits : goal.count_last-requires-clause-fits
count_last-requires-clause-fits c =
    let last = ap (λ (s : Clocks). s.last) c.in_ok-ends.ensures in
    let few = ticks_are_few c.args.self.network.now true c.args.self.events.now in
    omega (arith, last, few)

pub text_at-requires-clause-clocks : goal.text_at-requires-clause-clocks
text_at-requires-clause-clocks c =
    let t = c.args.self.network.now in
    (t, subst (AreClocks t) (sym c.in_ok-ends.ensures) (clocks_are t true c.args.self.events.now))

pub text_at-requires-clause-ends : goal.text_at-requires-clause-ends
text_at-requires-clause-ends c =
    let last = ap (λ (s : Clocks). s.last) c.in_ok-ends.ensures in
    let few = ticks_are_few c.args.self.network.now true c.args.self.events.now in
    omega (arith, last, few)

pub returns-clause-ok : goal.returns-clause-ok
returns-clause-ok c =
    let a = c.args in
    let r = a.self in
    pictured r.document.now r.network.now a.first a.last r.waits.now r.events.now c.new-scale.result
    c.instances-processes.result (shown c.in_ok-ends.ends)
    (c.new-scale.ensures
    ∙ ap (scale_for r.document.now.names.instances c.instances-processes.result a.first a.last) c.last.ensures)
    c.instances-processes.ensures c.in_ok-ends.ensures c.in_ok-text.text.items c.in_ok-boxes.boxes c.count_last.result
    c.in_ok-text.ensures (omega (arith, c.ticks.ensures, c.if-ticks-gt-MOST_DRAWN.false)) c.in_ok-boxes.ensures.exact
    c.count_last.ensures.exact (omega arith)
