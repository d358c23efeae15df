use Rattle.kpn_command_views.proofs.Common.{◌++◌, string_bytes, shown, IsSentWhole, each_below, channel_counters}
use Rattle.kpn_command_views.proofs.timeline.send_channels.Given as goal

abbrev pub invariant-loop-c : goal.invariant-loop-c
invariant-loop-c g l =
    let contents = g.W.Write.contents in
    IsSentWhole (contents l.fn.out) (contents l.out) (string_bytes l.text)
    (string_bytes l.fn.text ++ each_below l.c (channel_counters l.document.names.channels (shown l.clocks)))
