use Rattle.kpn_parts.proofs.Common.{ℕ, ◌<◌, IsSameProcess}
use Rattle.kpn_parts.proofs.cut.is_part.Given as goal

abbrev pub invariant-loop-p : goal.invariant-loop-p
invariant-loop-p l = (q : ℕ) → q < l.p → IsSameProcess l.whole l.part q
