use Rattle.kpn_book.proofs.Common.{◌≡◌, false, rules, both_ways, book_of}
use Rattle.kpn_book.proofs.Answering.{none_at_stop}
use Rattle.kpn_book.proofs.Seen.{not_settled}
use Rattle.kpn_book.proofs.open_book.OpenBook.grow_at_stop.Goals as goal

pub returns-then-not-is_idle-clause-grows : goal.returns-then-not-is_idle-clause-grows
returns-then-not-is_idle-clause-grows g c =
    let b = book_of c.args.self.now in
    let busy : c.is_idle.result ≡ false = search rules in
    none_at_stop b c.requires.step c.requires.no_cycle
    (λ p d owes. not_settled b c.requires.step
    (λ stopped. both_ways c.is_idle.result busy (c.is_idle.ensures.1 stopped)) owes.settled)
