use Rattle.kpn_stream.proofs.Common.{◌≡◌, take, None, is_sink, AreFlushed, end_numbers, Serves}
use Rattle.kpn_stream.proofs.taking.flush_all.Given as goal

abbrev pub invariant-sinks : goal.invariant-sinks
invariant-sinks g l = record {
  serves : Serves g.K.Sinks.takes g.K.Sinks.flushes l.limits None l.initial.book l.book l.initial.sinks l.sinks;
  flushed : AreFlushed g.K.Sinks.flushes (take l.i l.ends.sinks.items) l.initial.book.history l.initial.sinks
      l.book.history
      l.sinks;
  ends : l.ends.sinks.items ≡ end_numbers is_sink l.book.tables;
}
