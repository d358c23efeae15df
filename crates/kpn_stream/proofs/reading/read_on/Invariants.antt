use Rattle.kpn_stream.proofs.Common.{ReadsInTurn, WasRead, None}
use Rattle.kpn_stream.proofs.reading.read_on.Given as goal

abbrev pub invariant-items : goal.invariant-items
invariant-items g l = record {
  so_far : ReadsInTurn g.S.Sources.gives g.S.Sources.looks g.S.Sources.at_hand l.c l.initial.book l.initial.sources None
      l.book l.sources;
  was_read : WasRead l.c l._item l.book;
}
