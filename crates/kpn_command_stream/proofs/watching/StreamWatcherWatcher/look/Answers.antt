-- The place for faults is told of the book.
use Rattle.std.proofs.Common.{refl}
use Rattle.kpn_command_stream.proofs.watching.StreamWatcherWatcher.look.Goals as goal

pub returns-clause-sees : goal.returns-clause-sees
returns-clause-sees g c = record {
  document = refl;
  stops = refl;
  name = refl;
  told = c.tell.ensures;
  ends = c.is_to_end.ensures;
}

pub returns-clause-knows : goal.returns-clause-knows
returns-clause-knows g c = c.counts.ensures.ended
