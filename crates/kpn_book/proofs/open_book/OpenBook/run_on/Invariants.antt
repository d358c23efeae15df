use Rattle.kpn_book.proofs.Common.{◌+◌, ◌-◌, ◌*◌, ◌≤◌, book_of}
use Rattle.kpn_book.proofs.FirstOfQueue.{IsSoFar}
use Rattle.kpn_book.proofs.open_book.OpenBook.run_on.Given as goal

abbrev pub invariant-rows : goal.invariant-rows
invariant-rows g l = record {
  so_far : IsSoFar l.quota l.made (book_of l.fn.self) (book_of l.self);
  within : l.made ≤ l.most;
}

abbrev pub decreases-rows : goal.decreases-rows
decreases-rows g l = l.most - l.made

abbrev pub invariant-turns : goal.invariant-turns
invariant-turns g l = record {
  so_far : IsSoFar l.quota (l.made + l._turn) (book_of l.fn.self) (book_of l.self);
  room : 2 * l.more ≤ l.self.history.room + 2 * l._turn;
}
