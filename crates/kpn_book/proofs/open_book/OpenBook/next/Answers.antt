use Rattle.kpn_book.proofs.Common.{rules, both_ways, book_of}
use Rattle.kpn_book.proofs.FirstOfQueue.{next_from}
use Rattle.kpn_book.proofs.open_book.OpenBook.next.Goals as goal

pub returns : goal.returns
returns g c =
    next_from c.next.result (book_of c.args.self.now) c.known.ensures.schedule c.requires.countable
    (λ is. both_ways c.is_counted_out.result (search rules) (c.is_counted_out.ensures.1 is)) c.next.ensures
