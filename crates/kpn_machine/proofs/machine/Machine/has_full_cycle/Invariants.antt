use Rattle.kpn_machine.proofs.Common.{ℕ, ◌<◌, IsSmallestOfCycle, cap_in, capacities}
use Rattle.kpn_machine.proofs.machine.Machine.has_full_cycle.Given as goal

abbrev pub invariant-loop-p : goal.invariant-loop-p
invariant-loop-p g l = (q d : ℕ) → q < l.p
    → ¬ IsSmallestOfCycle l.network l.self.waits (cap_in (capacities l.self)) q d
