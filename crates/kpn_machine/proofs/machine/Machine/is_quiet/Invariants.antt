use Rattle.kpn_machine.proofs.Common.{◌≡◌, ℕ, ◌<◌, true, is_quiet_at}
use Rattle.kpn_machine.proofs.machine.Machine.is_quiet.Given as goal

abbrev pub invariant-loop-p : goal.invariant-loop-p
invariant-loop-p g l = (q : ℕ) → q < l.p → is_quiet_at l.self q ≡ true
