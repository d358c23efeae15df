use Rattle.kpn_book.proofs.Common.{inr, book_of}
use Rattle.kpn_book.proofs.Answering.{none_at_stop, has_grown_at_stop}
use Rattle.kpn_book.proofs.open_book.OpenBook.grow_when_stopped.Goals as goal

pub returns-in_default-clause-grows : goal.returns-in_default-clause-grows
returns-in_default-clause-grows g c =
    let b = book_of c.args.self.now in
    none_at_stop b c.requires.step c.requires.no_cycle
    (c.owed_at_stop.ensures.nothing b.history c.requires.step.run c.in_default.is)

pub returns-clause-grows : goal.returns-clause-grows
returns-clause-grows g c =
    let b = book_of c.args.self.now in
    has_grown_at_stop b (book_of c.grow.new.self) c.known.ensures c.in-Some.owed.process c.in-Some.owed.channel
    (inr (c.in-Some.ensures.growth b.history c.requires.step.run c.requires.no_cycle)) c.grow.ensures.follows
