use Rattle.kpn_book.proofs.Common.{sym, ap, subst, rules, IsHeld, IsKept, book_of}
use Rattle.kpn_book.proofs.Following.{moved}
use Rattle.kpn_book.proofs.Committing.{kept_put_back}
use Rattle.kpn_book.proofs.book.Book.put_back.Goals as goal

pub invariant_of-self : goal.invariant_of-self
invariant_of-self g c =
    let b = book_of c.self.inside.parts in
    let held : IsHeld b c.args.p = c.is_held.ensures.0 (search rules) in
    subst IsKept (sym (ap (moved b b.machine) c.put_back.ensures))
    (kept_put_back b c.self.invariant c.args.p held)
