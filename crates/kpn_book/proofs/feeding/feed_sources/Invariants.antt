use Rattle.kpn_book.proofs.Common.{◌≡◌, count_by, take, flat_map, range_with_len, is_source, given_by, AllHappen, supply_of, IsFedBelow}
use Rattle.kpn_book.proofs.feeding.feed_sources.Given as goal

abbrev pub invariant-channels : goal.invariant-channels
invariant-channels l = record {
  source : l.source ≡ count_by is_source (take l.c l.network.channels);
  supplies : AllHappen (flat_map (supply_of l.network (given_by l.network l.lists)) (range_with_len 0 l.c))
      l.initial.book
      l.book;
  so_far : IsFedBelow l.network (given_by l.network l.lists) l.c l.book;
}
