use Rattle.kpn_pool.specs.Fed.{AreSourcesClosedBelow}
use Rattle.kpn_pool.proofs.fed.are_closed.Given as goal

abbrev pub invariant-channels : goal.invariant-channels
invariant-channels l = AreSourcesClosedBelow l.book.tables l.book.history l.c
