use Rattle.kpn_pool_desk.proofs.Common.{◌≡◌, ◌<◌, true, ◌++◌, take, channel_at, is_source, AppendsAll, with_book, AreRecorded}
use Rattle.kpn_history.specs.declared.event.Event.TheVariants as event
use Rattle.kpn_pool_desk.proofs.outside_seats.SourceSeat.feed_all.Given as goal

abbrev pub invariant-items : goal.invariant-items
invariant-items g l = record {
  channel : l.self.channel ≡ l.fn.self.channel;
  fed : l.self.items ≡ l.fn.self.items ++ take l.item-index l.items;
  kept : l.self.forgotten ≡ l.fn.self.forgotten;
  recorded : AreRecorded AppendsAll event.Feed l.fn.self l.self l.fn.desk.book l.desk.book;
  source : 0 < l.item-index → is_source (channel_at g.J.Job.network l.fn.self.channel) ≡ true;
  desk : l.desk ≡ with_book l.desk.book l.fn.desk;
}
