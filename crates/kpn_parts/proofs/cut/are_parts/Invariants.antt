use Rattle.kpn_parts.proofs.Common.{ℕ, ◌<◌, part_at, IsPart}
use Rattle.kpn_parts.proofs.cut.are_parts.Given as goal

abbrev pub invariant-loop-r : goal.invariant-loop-r
invariant-loop-r l = (s : ℕ) → s < l.r → IsPart l.whole (part_at l.parts s)
