use Rattle.kpn_book.proofs.Common.{◌+◌, ◌<◌, ◌^◌, sym, subst, IfOk, OnErr, Book, held_count, RunsInAnyOrder, AnyOrderInVain, book_of}
use Rattle.kpn_book.proofs.book.Book.go_on.Goals as goal

pub go_on-requires-clause-countable : goal.go_on-requires-clause-countable
go_on-requires-clause-countable g c =
    subst (λ (b : Book). b.commits + held_count b + c.args.most < 2 ^ 64) (sym c.self.view_is) c.requires

pub returns : goal.returns
returns g c = record {
  goes =
      subst (λ (b : Book). IfOk c.go_on.result (λ sink. RunsInAnyOrder c.args.quota c.args.most sink b
      (book_of c.go_on.new.self))) c.self.view_is c.go_on.ensures.goes;
  in_vain =
      subst (λ (b : Book). OnErr c.go_on.result (AnyOrderInVain c.args.quota c.args.most b (book_of c.go_on.new.self)))
      c.self.view_is c.go_on.ensures.in_vain;
}
