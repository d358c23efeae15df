use Rattle.kpn_machine.proofs.Common.{◌≡◌, ℕ, ◌<◌, false, wait_in, is_full_wait}
use Rattle.kpn_machine.proofs.machine.Machine.has_full_wait.Given as goal

abbrev pub invariant-loop-p : goal.invariant-loop-p
invariant-loop-p g l = (q : ℕ) → q < l.p → is_full_wait (wait_in l.self q) ≡ false
