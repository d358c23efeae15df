use Rattle.kpn_book.proofs.Common.{subst, false≢true, IsClaimed, book_of}
use Rattle.kpn_book.proofs.book.Book.claim_into.Goals as goal

pub returns-clause-claimed : goal.returns-clause-claimed
returns-clause-claimed g c is =
    subst (λ x. IsClaimed c.in-Some.process x (book_of c.hold.new.self)) c.self.view_is c.hold.ensures.claimed

pub returns-in_default-clause-claimed : goal.returns-in_default-clause-claimed
returns-in_default-clause-claimed g c is = absurd (false≢true is)
