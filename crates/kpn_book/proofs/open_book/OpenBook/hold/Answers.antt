use Rattle.kpn_book.proofs.Common.{book_of, arith}
use Rattle.kpn_book.proofs.Committing.{kept_claimed}
use Rattle.kpn_book.proofs.FirstOfQueue.{first_by, claimed_by}
use Rattle.kpn_book.proofs.open_book.OpenBook.hold.Goals as goal

pub set_first-requires-clause-first : goal.set_first-requires-clause-first
set_first-requires-clause-first g c = first_by c.args.p (book_of c.args.self.now) c.requires.next

pub returns-clause-claimed : goal.returns-clause-claimed
returns-clause-claimed g c =
    claimed_by c.args.p (book_of c.args.self.now) c.requires.next c.set_first.new.self c.set_first.ensures

pub returns-clause-kept : goal.returns-clause-kept
returns-clause-kept g c =
    let more = c.requires.next.countable in
    kept_claimed (book_of c.args.self.now) c.requires.kept c.args.p _ (returns-clause-claimed g c)
    (λ is. omega (arith, is, more))
