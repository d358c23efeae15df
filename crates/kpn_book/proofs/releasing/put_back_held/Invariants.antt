use Rattle.kpn_book.specs.Releasing.{ChangesScheduleAlone, IsNoneHeldBelow}
use Rattle.kpn_book.proofs.releasing.put_back_held.Given as goal

abbrev pub invariant-processes : goal.invariant-processes
invariant-processes l = record {
  alone : ChangesScheduleAlone l.initial.book l.book;
  none : IsNoneHeldBelow l.book l.p;
}
