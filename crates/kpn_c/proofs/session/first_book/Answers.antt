use Rattle.kpn_c.proofs.Common.{sym, subst, book_on, keeping_of}
use Rattle.kpn_book.specs.Remembering.{Remembers}
use Rattle.kpn_c.proofs.session.first_book.Goals as goal

pub returns-clause-kept : goal.returns-clause-kept
returns-clause-kept c =
    let so = keeping_of c.args.keeps in
    subst (λ t. Remembers so (book_on t c.detach.result)) c.in_ok-book.ensures.tables
    (subst (Remembers so) (sym c.detach.ensures.same)
    (subst (λ k. Remembers k c.in_ok-book.book) c.keeping_of.ensures c.in_ok-book.ensures.kept))
