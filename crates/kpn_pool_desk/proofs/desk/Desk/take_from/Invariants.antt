use Rattle.kpn_pool_desk.proofs.Common.{◌≡◌, with_book, TakesOn}
use Rattle.kpn_pool_desk.proofs.desk.Desk.take_from.Given as goal

abbrev pub invariant-items : goal.invariant-items
invariant-items g l = record {
  takes : TakesOn l.fn.self.takers l.fn.self.book l.self.book;
  same : l.self ≡ with_book l.self.book l.fn.self;
}
