-- The clocks are those of the events so far. What is sent, what is kept, and what is drawn of the events to come are the
-- whole.
use Rattle.kpn_command_views.proofs.Common.{◌≡◌, ◌++◌, true, take, drop, string_bytes, start, clocks_after, shown, IsSentWhole, all_event_lines}
use Rattle.kpn_command_views.proofs.timeline.send_events.Given as goal

abbrev pub invariant-loop-k : goal.invariant-loop-k
invariant-loop-k g l =
    let names = l.document.names.channels in
    let contents = g.W.Write.contents in
    (shown l.clocks ≡ clocks_after l.network true (take l.k l.events))
    × IsSentWhole (contents l.fn.out) (contents l.out)
    (string_bytes l.text ++ all_event_lines names l.network (shown l.clocks) (drop l.k l.events))
    (string_bytes l.fn.text ++ all_event_lines names l.network (start l.network true) l.events)
