use Rattle.kpn_pool_desk.proofs.Common.{◌≡◌, take, with_book, HaveTaken, AreSinks, TakeInTurn}
use Rattle.kpn_pool_desk.proofs.outside_seats.take_from_each.Given as goal

abbrev pub invariant-seats : goal.invariant-seats
invariant-seats g l = record {
  taken : HaveTaken l.fn.seats l.seats;
  turns : TakeInTurn l.i l.fn.seats l.seats l.fn.desk.book l.desk.book;
  sinks : AreSinks g.J.Job.network (take l.i l.fn.seats);
  desk : l.desk ≡ with_book l.desk.book l.fn.desk;
}
