use Rattle.kpn_deadlock.specs.Told.{IsRingFrom}
use Rattle.kpn_deadlock.proofs.Searching.{ToldSoFar}
use Rattle.kpn_deadlock.proofs.search.rings.Given as goal

abbrev pub invariant-loop-p : goal.invariant-loop-p
invariant-loop-p g l = ToldSoFar (IsRingFrom l.network l.waits) l.p l.told.items
