use Rattle.std.proofs.Common.{◌≡◌, take, drop, length}
use Rattle.kpn_c.specs.Moving.{TakesForEach}
use Rattle.kpn_c.proofs.moving.take_wanted.Given as goal

abbrev pub invariant-places : goal.invariant-places
invariant-places l = record {
  takes : TakesForEach l.initial.book (take l.count l.initial.places) (take l.count l.places) l.book;
  rest : drop l.count l.places ≡ drop l.count l.initial.places;
  long : length l.places ≡ length l.initial.places;
}
