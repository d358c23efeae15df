use Rattle.kpn_region.proofs.Common.{◌≡◌, replicate, no_side}
use Rattle.kpn_region.proofs.batch.no_sides.Given as goal

abbrev pub invariant-loop-c : goal.invariant-loop-c
invariant-loop-c g l = l.sides.items ≡ replicate l._c no_side
