use Rattle.kpn_pool_desk.proofs.Common.{◌≡◌, length, unread, channel_in, with_book, TakesFirst}
use Rattle.kpn_pool_desk.proofs.outside_seats.SinkSeat.take_all.Given as goal

abbrev pub invariant-items : goal.invariant-items
invariant-items g l = record {
  desk : l.desk ≡ with_book l.desk.book l.fn.desk;
  first : TakesFirst l.fn.self l.self l.fn.desk.book l.desk.book;
}

abbrev pub decreases-items : goal.decreases-items
decreases-items g l = length (unread (channel_in l.desk.book.machine l.self.channel))
