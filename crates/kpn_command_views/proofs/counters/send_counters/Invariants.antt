-- What is sent, what is kept, and the writes and reads to come are the whole.
use Rattle.kpn_command_views.proofs.Common.{◌≤◌, ◌++◌, drop, length, string_bytes, IsSentWhole, counter_lines}
use Rattle.kpn_command_views.proofs.counters.send_counters.Given as goal

abbrev pub invariant-loop-tick : goal.invariant-loop-tick
invariant-loop-tick g l =
    let contents = g.W.Write.contents in
    IsSentWhole (contents l.fn.out) (contents l.out)
    (string_bytes l.text ++ counter_lines l.label l.unread (drop l.tick-index l.written) (drop l.place l.reads))
    (string_bytes l.fn.text ++ counter_lines l.label 0 l.written l.reads)
    × (l.unread ≤ l.tick-index) × (l.place ≤ length l.reads)
