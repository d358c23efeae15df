use Rattle.kpn_book.proofs.Common.{◌≡◌, rules, book_of}
use Rattle.kpn_book.proofs.Answering.{owes_found, owes_none, has_grown}
use Rattle.kpn_book.proofs.Seen.{nothing_to_grow}
use Rattle.kpn_book.proofs.open_book.OpenBook.grow_if_owed.Goals as goal

pub returns-then-counts-eq0-clause-grows : goal.returns-then-counts-eq0-clause-grows
returns-then-counts-eq0-clause-grows g c =
    let none : c.counts-counts.result.full ≡ 0 = search rules in
    nothing_to_grow (book_of c.args.self.now) c.known.ensures c.requires.step c.counts-counts.result
    c.counts-counts.ensures none c.args.p

pub grow_at_stop-requires-clause-no_cycle : goal.grow_at_stop-requires-clause-no_cycle
grow_at_stop-requires-clause-no_cycle g c =
    owes_none (book_of c.args.self.now) c.known.ensures c.requires.step c.args.p c.requires.waits c.owed.result
    c.owed.ensures.channel c.in_default.is

pub returns-clause-grows : goal.returns-clause-grows
returns-clause-grows g c =
    let b = book_of c.args.self.now in
    has_grown b (book_of c.grow.new.self) c.known.ensures c.args.p c.args.p c.in-Some.d
    (owes_found b c.known.ensures c.requires.step c.args.p c.requires.waits c.owed.result c.owed.ensures.channel
    c.in-Some.d c.in-Some.is) c.grow.ensures.follows
