-- What is sent, what is kept, and the reads to come are the whole.
use Rattle.kpn_command_views.proofs.Common.{◌++◌, drop, string_bytes, IsSentWhole, read_lines}
use Rattle.kpn_command_views.proofs.counters.send_reads.Given as goal

abbrev pub invariant-loop-tick : goal.invariant-loop-tick
invariant-loop-tick g l =
    let contents = g.W.Write.contents in
    IsSentWhole (contents l.fn.out) (contents l.out)
    (string_bytes l.text ++ read_lines l.label l.left (drop l.tick-index l.reads))
    (string_bytes l.fn.text ++ read_lines l.label l.unread l.reads)
