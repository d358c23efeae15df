use Rattle.std.proofs.Common.{◌≡◌, length, map, take}
use Rattle.kpn_c.specs.Lists.{flat_of, first_wanted}
use Rattle.kpn_c.proofs.lists.flat_of.Given as goal

abbrev pub invariant-lists : goal.invariant-lists
invariant-lists l = record {
  items : l.items.items ≡ flat_of (map (first_wanted l.wanted) (take l.k l.lists));
  lengths : l.lengths.items ≡ map length (map (first_wanted l.wanted) (take l.k l.lists));
}
