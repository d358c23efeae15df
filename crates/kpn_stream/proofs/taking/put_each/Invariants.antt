use Rattle.kpn_stream.proofs.Common.{◌≡◌, length, true, None, channel_at, is_sink, unread_on, end_numbers, Serves}
use Rattle.kpn_stream.proofs.taking.put_each.Given as goal

abbrev pub invariant-items : goal.invariant-items
invariant-items g l = record {
  serves : Serves g.K.Sinks.takes g.K.Sinks.flushes l.limits None l.initial.book l.book l.initial.sinks l.sinks;
  ends : l.ends.sinks.items ≡ end_numbers is_sink l.book.tables;
  sink : is_sink (channel_at l.book.tables l.c) ≡ true;
}

abbrev pub decreases-items : goal.decreases-items
decreases-items g l = length (unread_on l.book.history l.c)
