use Rattle.kpn_book.proofs.Common.{◌≡◌, true, false, length, sym, ap, subst, rules, both_ways, false≢true, IsMachine, book_of, CanCount}
use Rattle.kpn_book.proofs.open_book.OpenBook.can_join.Goals as goal

pub agrees_with-requires : goal.agrees_with-requires
agrees_with-requires g c =
    subst (λ t. IsMachine t c.args.self.now.machine) (sym c.requires.tables)
    c.requires.kept.in_step.run.shape

pub can_count-requires : goal.can_count-requires
can_count-requires g c = c.requires.kept.in_step.processes

pub returns-then-not-agrees_with : goal.returns-then-not-agrees_with
returns-then-not-agrees_with g c =
    let not_so : c.agrees_with.result ≡ false = search rules in (
      λ is. absurd (false≢true is),
      λ can. absurd (both_ways c.agrees_with.result not_so (c.agrees_with.ensures.1 can.agrees)),
    )

pub returns : goal.returns
returns g c =
    let book = book_of c.args.self.now in
    let so : c.agrees_with.result ≡ true = search rules in
    let same = ap length c.events.ensures in (
      λ is. record {
        agrees = c.agrees_with.ensures.0 so;
        countable = subst (λ n. CanCount n book) same (c.can_count.ensures.0 is);
      },
      λ can. c.can_count.ensures.1 (subst (λ n. CanCount n book) (sym same) can.countable),
    )
