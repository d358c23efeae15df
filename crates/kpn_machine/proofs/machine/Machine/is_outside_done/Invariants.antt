use Rattle.kpn_machine.proofs.Common.{◌≡◌, ℕ, ◌<◌, false, awaits_outside}
use Rattle.kpn_machine.proofs.machine.Machine.is_outside_done.Given as goal

abbrev pub invariant-loop-c : goal.invariant-loop-c
invariant-loop-c g l = (d : ℕ) → d < l.c → awaits_outside l.network l.self d ≡ false
