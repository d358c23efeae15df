use Rattle.kpn_book.proofs.Common.{◌≡◌, ◌<◌, true, false, length, IfOk, ap, sym, ◌∙◌, subst, OnErr, Book, book_of, ClaimsRegion, RefusesClaim, IsSameBook}
use Rattle.kpn_book.proofs.book.Book.claim_region.Goals as goal

pub claim_region-requires-clause-tables : goal.claim_region-requires-clause-tables
claim_region-requires-clause-tables g c = c.requires.tables ∙ sym (ap (λ b. b.tables) c.self.view_is)

pub claim_region-requires-clause-processes : goal.claim_region-requires-clause-processes
claim_region-requires-clause-processes g c = λ p among.
    subst (λ (b : Book). p < length b.tables.instances) (sym c.self.view_is) (c.requires.processes p among)

pub returns : goal.returns
returns g c = record {
  tables = c.claim_region.ensures.tables;
  claimed =
      subst
      (λ (b : Book). IfOk c.claim_region.result (λ claimed. (claimed ≡ true)
      → ClaimsRegion c.args.of.now c.args.most c.args.drains c.claim_region.new.batch b
      (book_of c.claim_region.new.self))) c.self.view_is c.claim_region.ensures.claimed;
  refused =
      subst
      (λ (b : Book). IfOk c.claim_region.result (λ claimed. (claimed ≡ false) → RefusesClaim c.args.of.now b))
      c.self.view_is c.claim_region.ensures.refused;
  as_before =
      subst
      (λ (b : Book). IfOk c.claim_region.result (λ claimed. (claimed ≡ false) → book_of c.claim_region.new.self ≡ b))
      c.self.view_is c.claim_region.ensures.as_before;
  no_memory =
      subst (λ (b : Book). OnErr c.claim_region.result (IsSameBook b (book_of c.claim_region.new.self)))
      c.self.view_is c.claim_region.ensures.no_memory;
}
