use Rattle.kpn_c.proofs.Common.{◌<◌, map, take, Feed, AllHappen, IsOpenSource}
use Rattle.kpn_c.proofs.feeding.feed_each.Given as goal

abbrev pub invariant-items : goal.invariant-items
invariant-items l = record {
  feeds : AllHappen (map (Feed l.source) (take l.count l.items)) l.initial.book l.book;
  source : 0 < l.count → IsOpenSource l.initial.book l.source;
}
