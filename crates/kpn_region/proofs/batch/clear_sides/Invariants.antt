use Rattle.kpn_region.proofs.Common.{◌≡◌, replicate, take, length, no_side}
use Rattle.kpn_region.proofs.batch.clear_sides.Given as goal

abbrev pub invariant-sides : goal.invariant-sides
invariant-sides g l = record {
  len : length l.sides.items ≡ length l.fn.sides.items;
  cleared : take l.c l.sides.items ≡ replicate l.c no_side;
}
