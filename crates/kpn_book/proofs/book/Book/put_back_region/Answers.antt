use Rattle.kpn_book.proofs.Common.{length, ap, sym, ◌∙◌, subst, range_with_len, is_in_region, IsKept, book_of, batch_put_back}
use Rattle.kpn_book.proofs.Following.{moved}
use Rattle.kpn_book.proofs.Regions.{kept_all_put_back}
use Rattle.kpn_book.proofs.book.Book.put_back_region.Goals as goal

pub put_back_region-requires : goal.put_back_region-requires
put_back_region-requires g c =
    c.self.invariant.in_step.processes
    ∙ ap (λ t. length t.instances) (ap (λ b. b.tables) c.self.view_is ∙ sym c.requires)

pub invariant_of-self : goal.invariant_of-self
invariant_of-self g c =
    let b = book_of c.self.inside.parts in
    subst IsKept (sym (ap (moved b b.machine) c.put_back_region.ensures))
    (kept_all_put_back (is_in_region c.args.batch.now.now) (range_with_len 0 (length b.schedule.states)) b
    c.self.invariant)

pub returns : goal.returns
returns g c =
    let b = book_of c.self.inside.parts in
    ap (moved b b.machine) c.put_back_region.ensures
    ∙ ap (batch_put_back c.args.batch.now) c.self.view_is
