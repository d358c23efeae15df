use Rattle.kpn_c.proofs.Common.{map, take, AllHappen, feed_of}
use Rattle.kpn_c.proofs.moving.feed_items.Given as goal

abbrev pub invariant-items : goal.invariant-items
invariant-items l = record {
  feeds : AllHappen (map feed_of (take l.count l.items)) l.initial.book l.book;
}
