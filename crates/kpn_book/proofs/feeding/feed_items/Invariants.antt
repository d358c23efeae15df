use Rattle.kpn_book.proofs.Common.{map, take, Feed, AllHappen, IsSupplied}
use Rattle.kpn_book.proofs.feeding.feed_items.Given as goal

abbrev pub invariant-items : goal.invariant-items
invariant-items l = record {
  supplied : IsSupplied l.c (take l.item-index l.items) l.initial.book l.book;
  feeds : AllHappen (map (Feed l.c) (take l.item-index l.items)) l.initial.book l.book;
}
