use Rattle.kpn_audit.proofs.Completing.{ToldSoFar}
use Rattle.kpn_audit.proofs.complete.complete_channels.Given as goal

abbrev pub invariant-loop-c : goal.invariant-loop-c
invariant-loop-c g l = ToldSoFar l.network l.machine l.c l.complete.items
