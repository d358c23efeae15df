use Rattle.std.proofs.Common.{◌≡◌, length, take}
use Rattle.kpn_step.proofs.lists.write_over.Given as goal

abbrev pub invariant-items : goal.invariant-items
invariant-items g l = record {
  even : length l.items ≡ length l.other;
  so_far : take l.i l.items ≡ take l.i l.other;
}
