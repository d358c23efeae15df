use Rattle.std.proofs.Common.{◌≡◌, ◌≤◌, length, map, take, sum}
use Rattle.kpn_c.specs.Lists.{flat_of}
use Rattle.kpn_c.proofs.lists.cut.Given as goal

abbrev pub invariant-lists : goal.invariant-lists
invariant-lists l = record {
  within : l.at ≤ length l.items;
  items : flat_of l.lists.items ≡ take l.at l.items;
  lengths : map length l.lists.items ≡ take l.k l.lengths;
  sum : l.at ≡ sum (take l.k l.lengths);
}
