use Rattle.kpn_book.proofs.Common.{◌≡◌, ◌-◌, ◌≤◌, None, held_count, IsKept, TurnsInAnyOrder, book_of}
use Rattle.kpn_book.proofs.open_book.OpenBook.go_on.Given as goal

abbrev pub invariant-turns : goal.invariant-turns
invariant-turns g l = record {
  turns : TurnsInAnyOrder l.quota (book_of l.fn.self) None (book_of l.self);
  kept : IsKept (book_of l.self);
  held : held_count (book_of l.self) ≡ held_count (book_of l.fn.self);
  least : l.fn.self.commits ≤ l.self.commits;
  most : l.self.commits ≤ l.end;
  queue : l.self.commits ≡ l.fn.self.commits → l.self.schedule.queue ≡ l.fn.self.schedule.queue;
}

abbrev pub decreases-turns : goal.decreases-turns
decreases-turns g l = l.end - l.self.commits
