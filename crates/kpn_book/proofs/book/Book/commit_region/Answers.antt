use Rattle.kpn_book.proofs.Common.{◌≡◌, IfOk, ap, sym, ◌∙◌, subst, Book, book_of, CommitsRegion, RefusesRegion}
use Rattle.std.specs.Prelude.{OnErr, IfErr}
use Rattle.kpn_book.proofs.book.Book.commit_region.Goals as goal

pub commit_region-requires-clause-tables : goal.commit_region-requires-clause-tables
commit_region-requires-clause-tables g c = c.requires ∙ sym (ap (λ b. b.tables) c.self.view_is)

pub returns : goal.returns
returns g c = record {
  done =
      subst (λ (b : Book). IfOk c.commit_region.result (λ memory. CommitsRegion c.args.batch.now memory b
      (book_of c.commit_region.new.self))) c.self.view_is c.commit_region.ensures.done;
  refused =
      subst (λ (b : Book). IfErr c.commit_region.result (λ cause. RefusesRegion c.args.batch.now b cause))
      c.self.view_is c.commit_region.ensures.refused;
  as_before =
      subst (λ (b : Book). OnErr c.commit_region.result (book_of c.commit_region.new.self ≡ b)) c.self.view_is
      c.commit_region.ensures.as_before;
}
