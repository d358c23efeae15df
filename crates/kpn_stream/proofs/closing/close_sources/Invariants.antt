-- The sources so far are closed.
use Rattle.kpn_stream.specs.Closing.{AreClosedBelow}
use Rattle.kpn_stream.proofs.closing.close_sources.Given as goal

abbrev pub invariant-channels : goal.invariant-channels
invariant-channels l = AreClosedBelow l.c l.fn.book l.book
