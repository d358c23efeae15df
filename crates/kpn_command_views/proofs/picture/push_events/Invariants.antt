use Rattle.kpn_command_views.proofs.Common.{◌≡◌, ◌++◌, true, take, drop, string_bytes, start, clocks_after, shown, all_event_boxes}
use Rattle.kpn_command_views.proofs.picture.push_events.Given as goal

abbrev pub invariant-loop-k : goal.invariant-loop-k
invariant-loop-k l =
    let names = l.document.names.channels in
    (shown l.clocks ≡ clocks_after l.network true (take l.k l.events))
    × (string_bytes l.text ++ all_event_boxes names l.network l.scale (shown l.clocks) (drop l.k l.events)
    ≡ string_bytes l.initial.text ++ all_event_boxes names l.network l.scale (start l.network true) l.events)
