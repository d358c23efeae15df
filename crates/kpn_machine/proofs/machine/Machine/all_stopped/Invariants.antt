use Rattle.kpn_machine.proofs.Common.{◌≡◌, ℕ, ◌<◌, true, has_stopped}
use Rattle.kpn_machine.proofs.machine.Machine.all_stopped.Given as goal

abbrev pub invariant-loop-p : goal.invariant-loop-p
invariant-loop-p g l = (q : ℕ) → q < l.p → has_stopped l.self q ≡ true
