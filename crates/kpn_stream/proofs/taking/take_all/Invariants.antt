use Rattle.kpn_stream.proofs.Common.{◌≡◌, ℕ, ◌<◌, get_or, None, is_sink, end_numbers, IsSinkTaken, Serves}
use Rattle.kpn_stream.proofs.taking.take_all.Given as goal

abbrev pub invariant-each : goal.invariant-each
invariant-each g l = record {
  serves : Serves g.K.Sinks.takes g.K.Sinks.flushes l.limits None l.initial.book l.book l.initial.sinks l.sinks;
  ends : l.ends.sinks.items ≡ end_numbers is_sink l.book.tables;
  taken : (j : ℕ) → j < l.i → IsSinkTaken l.book.history (get_or l.ends.sinks.items j 0);
}
