use Rattle.kpn_region.specs.Batch.{RunsOn}
use Rattle.kpn_region.proofs.batch.Batch.run.Given as goal

abbrev pub invariant-turns : goal.invariant-turns
invariant-turns g l = RunsOn l.budget l.left l.fn.self l.self

abbrev pub decreases-turns : goal.decreases-turns
decreases-turns g l = l.left
