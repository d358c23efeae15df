use Rattle.kpn_cycle.proofs.Common.{ℕ, ◌<◌, cap_in, IsBelowLimit}
use Rattle.kpn_cycle.proofs.walk.scan_all.Given as goal

abbrev pub invariant-loop-p : goal.invariant-loop-p
invariant-loop-p g l = (q d : ℕ) → q < l.p → ¬ IsBelowLimit l.network l.waits (cap_in l.caps) q d
