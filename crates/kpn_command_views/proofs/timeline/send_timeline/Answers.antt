-- All parts, one after another.
use Rattle.kpn_command_views.proofs.Common.{ℕ, List, ◌++◌, true, length, codes, sym, subst, ap, ◌∙◌, arith, string_bytes, Appends, name_at, Clocks, start, clocks_after, shown, AreClocks, clocks_are, ticks_are_few, timeline_head, track_line, each_below, all_event_lines, last_waits, channel_counters}
use Rattle.kpn_command_views.proofs.GoingOut.{timeline_sent}
use Rattle.kpn_command_views.proofs.timeline.send_timeline.Goals as goal

pub push_last_waits-requires-clause-clocks : goal.push_last_waits-requires-clause-clocks
push_last_waits-requires-clause-clocks g c =
    let t = c.args.network.now in (
      t,
      subst (AreClocks t) (sym c.in_ok-clocks.ensures.clocks) (clocks_are t true c.args.events.now),
    )

pub push_last_waits-requires-clause-fits : goal.push_last_waits-requires-clause-fits
push_last_waits-requires-clause-fits g c =
    let last = ap (λ (s : Clocks). s.last) c.in_ok-clocks.ensures.clocks in
    let few = ticks_are_few c.args.network.now true c.args.events.now in
    omega (arith, last, few)

pub returns : goal.returns
returns g c =
    let contents = g.W.Write.contents in
    let t = c.args.network.now in
    let names = c.args.document.now.names in
    let waits = c.args.waits.now in
    let track : ℕ → List ℕ = λ p. track_line p (name_at names.instances p) in
    let s = shown c.in_ok-clocks.clocks in
    let ends = clocks_after t true c.args.events.now in
    timeline_sent _ _ _ _ (string_bytes c.in_ok-text.text) (string_bytes c.send_events.new.text)
    (string_bytes c.push_last_waits.new.text) (string_bytes c.send_channels.new.text)
    (string_bytes c.push_end.new.text) (timeline_head ++ each_below (length t.instances) track)
    (all_event_lines names.channels t (start t true) c.args.events.now)
    (last_waits names.channels (length t.instances) waits ends)
    (each_below (length t.channels) (channel_counters names.channels ends))
    (last_waits names.channels c.instances-2.result waits s)
    (each_below c.channels.result (channel_counters names.channels s)) (codes "]}\n")
    (c.in_ok-text.ensures
    ∙ ap (λ n. timeline_head ++ each_below n track) c.instances.ensures) c.in_ok-clocks.ensures.text
    c.in_ok-push_last_waits.ensures
    (ap (λ n. last_waits names.channels n waits s) c.instances-2.ensures
    ∙ ap (λ (x : Clocks). last_waits names.channels (length t.instances) waits x) c.in_ok-clocks.ensures.clocks)
    c.in_ok-send_channels.ensures
    (ap (λ n. each_below n (channel_counters names.channels s)) c.channels.ensures
    ∙ ap (λ (x : Clocks). each_below (length t.channels) (channel_counters names.channels x))
    c.in_ok-clocks.ensures.clocks)
    c.in_ok-push_end.ensures
    (subst (Appends (contents c.send_channels.new.out) (contents c.send_last.new.out)) c.as_bytes.ensures.value
    c.in_ok-send_last.ensures)
