-- The clocks are those of the events so far, whose ticks are few.
use Rattle.kpn_command_views.proofs.Common.{◌++◌, true, take, drop, drop_of_length-le, sym, subst, ap, ◌∙◌, arith, string_bytes, take_all, length-take, Clocks, start, clocks_after, shown, AreClocks, clocks_are, ticks_are_few, IsSentWhole, all_event_lines}
use Rattle.kpn_command_views.proofs.TimelineLines.{events_next, clocks_next}
use Rattle.kpn_command_views.proofs.GoingOut.{none_sent, step, with_nothing, nothing_to_come}
use Rattle.kpn_command_views.proofs.timeline.send_events.Goals as goal

pub push_event-requires-clause-clocks : goal.push_event-requires-clause-clocks
push_event-requires-clause-clocks g c =
    subst (AreClocks c.args.network.now) (sym c.loop-k.invariant.0)
    (clocks_are c.args.network.now true (take c.loop-k.k c.args.events.now))

pub push_event-requires-clause-fits : goal.push_event-requires-clause-fits
push_event-requires-clause-fits g c =
    let last = ap (λ (s : Clocks). s.last) c.loop-k.invariant.0 in
    let few = ticks_are_few c.args.network.now true (take c.loop-k.k c.args.events.now) in
    let count = length-take c.loop-k.k c.args.events.now in
    omega (arith, last, few, count)

pub count-requires-clause-clocks : goal.count-requires-clause-clocks
count-requires-clause-clocks g c =
    subst (AreClocks c.args.network.now) (sym c.loop-k.invariant.0)
    (clocks_are c.args.network.now true (take c.loop-k.k c.args.events.now))

pub count-requires-clause-fits : goal.count-requires-clause-fits
count-requires-clause-fits g c =
    let last = ap (λ (s : Clocks). s.last) c.loop-k.invariant.0 in
    let few = ticks_are_few c.args.network.now true (take c.loop-k.k c.args.events.now) in
    let count = length-take c.loop-k.k c.args.events.now in
    omega (arith, last, few, count)

pub loop-k-init : goal.loop-k-init
loop-k-init g c =
    let t = c.args.network.now in
    let text = string_bytes c.args.text.now in
    let contents = g.W.Write.contents in
    let lines = all_event_lines c.args.document.now.names.channels t in (
      c.in_ok-clocks.ensures,
      subst (λ (s : Clocks). IsSentWhole (contents c.args.out.now) (contents c.args.out.now)
          (text ++ lines s c.args.events.now) (text ++ lines (start t true) c.args.events.now))
          (sym c.in_ok-clocks.ensures) (none_sent _ _),
    )

pub loop-k-preserved : goal.loop-k-preserved
loop-k-preserved g c =
    let t = c.args.network.now in
    let events = c.args.events.now in
    let was = c.loop-k.invariant in (
      clocks_next t _ _ events c.loop-k.k _ c.loop-k-test.true was.0 c.in_ok-count.ensures,
      step _ _ _ (string_bytes c.loop-k.text)
          (all_event_lines c.args.document.now.names.channels t (shown c.loop-k.clocks) (drop c.loop-k.k events)) _ _ _ _
          was.1
          (events_next c.args.document.now.names.channels t _ _ events c.loop-k.k _ (string_bytes c.loop-k.text)
          (string_bytes c.push_event.new.text) c.loop-k-test.true c.in_ok-push_event.ensures c.in_ok-count.ensures)
          (with_nothing _ _ _ _ c.in_ok-send_if_long.ensures),
    )

pub returns-clause-clocks : goal.returns-clause-clocks
returns-clause-clocks g c =
    c.loop-k.invariant.0
    ∙ ap (λ es. clocks_after c.args.network.now true es) (take_all c.loop-k.k c.args.events.now (omega arith))

pub returns-clause-text : goal.returns-clause-text
returns-clause-text g c =
    nothing_to_come _ _ _ _ _ c.loop-k.invariant.1
    (ap (all_event_lines c.args.document.now.names.channels c.args.network.now (shown c.loop-k.clocks))
    (drop_of_length-le c.args.events.now (omega arith)))
