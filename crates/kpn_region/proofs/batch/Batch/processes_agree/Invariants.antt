use Rattle.kpn_region.proofs.Common.{ℕ, ◌<◌, ProcessAgrees}
use Rattle.kpn_region.proofs.batch.Batch.processes_agree.Given as goal

abbrev pub invariant-processes : goal.invariant-processes
invariant-processes g l = (q : ℕ) → q < l.p → ProcessAgrees l.self.first l.machine q
