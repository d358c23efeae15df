use Rattle.kpn_book.specs.Open.{book_of}
use Rattle.kpn_book.proofs.Settling.{IsSettledBelow}
use Rattle.kpn_book.proofs.open_book.OpenBook.settle_region.Given as goal

abbrev pub invariant-processes : goal.invariant-processes
invariant-processes g l = IsSettledBelow l.batch (book_of l.fn.self) l.p l.memory (book_of l.self)
