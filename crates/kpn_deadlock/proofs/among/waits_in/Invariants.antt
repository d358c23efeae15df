use Rattle.kpn_deadlock.proofs.Common.{◌≡◌, map, take, wait_of_state}
use Rattle.kpn_deadlock.proofs.among.waits_in.Given as goal

abbrev pub invariant-loop-p : goal.invariant-loop-p
invariant-loop-p g l = l.waits.items ≡ map wait_of_state (take l.p l.states)
