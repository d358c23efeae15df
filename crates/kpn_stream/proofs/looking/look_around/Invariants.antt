use Rattle.kpn_stream.proofs.Common.{IfSome, MayRead, AreLookedAt}
use Rattle.kpn_stream.proofs.looking.look_around.Given as goal

abbrev pub invariant-sources : goal.invariant-sources
invariant-sources g l = record {
  looked : AreLookedAt g.S.Sources.looks l.initial.sources l.sources;
  may_read : IfSome l.unknown (MayRead l.book.tables l.book.history);
}
