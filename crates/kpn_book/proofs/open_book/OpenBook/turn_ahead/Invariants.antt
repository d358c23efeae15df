use Rattle.kpn_book.proofs.Common.{◌≡◌, ◌+◌, ◌*◌, ◌≤◌, slice_get, Some, None, held_count, IsKept, TurnsInAnyOrder, book_of}
use Rattle.kpn_book.proofs.open_book.OpenBook.turn_ahead.Given as goal

abbrev pub invariant-events : goal.invariant-events
invariant-events g l = record {
  turns : TurnsInAnyOrder l.quota (book_of l.fn.self) None (book_of l.self);
  tables : l.self.network.now ≡ l.fn.self.network.now;
  kept : IsKept (book_of l.self);
  held : held_count (book_of l.self) ≡ held_count (book_of l.fn.self);
  commits : l.self.commits ≡ l.fn.self.commits + l.made;
  first : slice_get l.self.schedule.queue 0 ≡ Some l.p;
  room : 2 * l.most ≤ l.self.history.room + 2 * l.made;
}
