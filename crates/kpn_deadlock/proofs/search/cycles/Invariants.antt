use Rattle.kpn_deadlock.specs.Told.{IsCycleFrom}
use Rattle.kpn_deadlock.proofs.Searching.{ToldSoFar}
use Rattle.kpn_deadlock.proofs.search.cycles.Given as goal

abbrev pub invariant-loop-p : goal.invariant-loop-p
invariant-loop-p g l = ToldSoFar (IsCycleFrom l.network l.waits) l.p l.told.items
