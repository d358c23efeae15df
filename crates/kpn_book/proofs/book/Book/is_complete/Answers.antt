use Rattle.kpn_book.proofs.Common.{◌↔◌, IsTrue, subst, IsComplete, book_of}
use Rattle.kpn_book.proofs.book.Book.is_complete.Goals as goal

pub returns : goal.returns
returns g c =
    let b = book_of c.self.inside.parts in
    subst (λ b. IsTrue c.is_complete.result ↔ IsComplete b.tables b.history c.args.c) c.self.view_is
    (c.is_complete.ensures b.history c.self.invariant.in_step.run)
