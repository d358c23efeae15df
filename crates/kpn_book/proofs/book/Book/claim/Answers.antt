use Rattle.kpn_book.proofs.Common.{◌≡◌, ◌≤◌, false, length, sym, subst, arith, any_has_cells, Frame, Book, book_of}
use Rattle.kpn_book.proofs.Plain.{few_values}
use Rattle.kpn_book.proofs.book.Book.claim.Goals as goal

pub copy-frame-requires : goal.copy-frame-requires
copy-frame-requires g c =
    let b = book_of c.self.inside.parts in
    let there = c.in-Some.ensures.holds.there in
    let long = c.self.invariant.in_step.processes in
    subst (λ (f : Frame). length f.variables ≤ 64) (sym c.frame.ensures)
    (few_values b.tables c.known.ensures (subst (λ (x : Book). any_has_cells x.tables ≡ false) (sym c.self.view_is) c.requires.plain)
    b.machine c.self.invariant.in_step.run.shape c.in-Some.process (omega (arith, there, long)))
