use Rattle.kpn_stream.proofs.Common.{◌≡◌, false, None, is_source, is_sink, end_numbers, AreTaken, StreamGoesOn, Watches}
use Rattle.kpn_stream.proofs.running.make_turns.Given as goal

abbrev pub invariant-turns : goal.invariant-turns
invariant-turns g l = record {
  goes_on : StreamGoesOn g.S.Sources.gives g.S.Sources.looks g.S.Sources.at_hand g.K.Sinks.takes g.K.Sinks.flushes l.limits
      None
      l.initial.book
      l.book
      l.initial.sources
      l.sources
      l.initial.sinks
      l.sinks;
  sources : l.ends.sources.items ≡ end_numbers is_source l.book.tables;
  sinks : l.ends.sinks.items ≡ end_numbers is_sink l.book.tables;
  taken : AreTaken l.book.tables l.book.history;
  watched : Watches g.W.Watcher.knows g.W.Watcher.sees l.initial.book l.book l.initial.watcher false l.watcher;
}
