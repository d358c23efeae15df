use Rattle.kpn_book.proofs.Common.{◌+◌, ◌<◌, ◌^◌, sym, subst, IfOk, OnErr, Book, held_count, RunsInRow, RunsInVain, book_of}
use Rattle.kpn_book.proofs.book.Book.run_on.Goals as goal

pub run_on-requires-clause-countable : goal.run_on-requires-clause-countable
run_on-requires-clause-countable g c =
    subst (λ (b : Book). b.commits + held_count b + c.args.most < 2 ^ 64) (sym c.self.view_is) c.requires

pub returns : goal.returns
returns g c = record {
  runs =
      subst (λ (b : Book). IfOk c.run_on.result (λ sink. RunsInRow c.args.quota c.args.most sink b
      (book_of c.run_on.new.self))) c.self.view_is c.run_on.ensures.runs;
  in_vain =
      subst (λ (b : Book). OnErr c.run_on.result (RunsInVain c.args.quota c.args.most b (book_of c.run_on.new.self)))
      c.self.view_is c.run_on.ensures.in_vain;
}
