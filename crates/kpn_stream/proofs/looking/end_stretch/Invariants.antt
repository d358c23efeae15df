use Rattle.kpn_stream.proofs.Common.{◌≡◌, None, is_source, end_numbers, AreTaken, StreamGoesOn, IsStepless}
use Rattle.kpn_stream.proofs.looking.end_stretch.Given as goal

abbrev pub invariant-sources : goal.invariant-sources
invariant-sources g l = record {
  goes_on : StreamGoesOn g.S.Sources.gives g.S.Sources.looks g.S.Sources.at_hand g.K.Sinks.takes g.K.Sinks.flushes l.limits
      None
      l.initial.book
      l.book
      l.initial.sources
      l.sources
      l.initial.sinks
      l.sinks;
  sources : l.ends.sources.items ≡ end_numbers is_source l.book.tables;
  taken : AreTaken l.book.tables l.book.history;
  stepless : IsStepless None l.initial.book l.book;
}
