use Rattle.std.proofs.Common.{◌≡◌, ◌<◌, map, take, drop, length}
use Rattle.kpn_c.proofs.Common.{Take, AllHappen, IsOpenSink}
use Rattle.kpn_c.proofs.taking.take_each.Given as goal

abbrev pub invariant-places : goal.invariant-places
invariant-places l = record {
  takes : AllHappen (map (Take l.sink) (take l.count l.room)) l.initial.book l.book;
  rest : drop l.count l.room ≡ drop l.count l.initial.room;
  long : length l.room ≡ length l.initial.room;
  sink : 0 < l.count → IsOpenSink l.initial.book l.sink;
}
