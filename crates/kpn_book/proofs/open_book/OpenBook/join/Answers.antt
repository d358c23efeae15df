use Rattle.kpn_book.proofs.Common.{◌+◌, ◌<◌, ◌^◌, ◌++◌, length, sym, ap, ◌∙◌, subst, arith, count_by-le-length, is_of_process, process_events, IsMachine, IsKept, book_of}
use Rattle.kpn_book.proofs.Joined.{joined_book}
use Rattle.kpn_book.proofs.open_book.OpenBook.join.Goals as goal

pub join-requires-clause-shape : goal.join-requires-clause-shape
join-requires-clause-shape g c =
    subst (λ t. IsMachine t c.args.self.now.machine) (sym c.requires.tables)
    c.requires.kept.in_step.run.shape

pub returns-clause-kept : goal.returns-clause-kept
returns-clause-kept g c =
    let b = c.args.batch.now in
    let book = book_of c.args.self.now in
    let s = c.join.new.machine in
    let most = count_by-le-length is_of_process b.events in
    let few : book.commits + process_events b.events + length book.tables.instances < 2 ^ 64 =
    omega (arith, most, c.requires.can_join.countable) in
    subst IsKept
    (sym (joined_book b s book c.append.new.self c.wake_region.new.schedule c.made.result
    (c.append.ensures.events ∙ ap (λ xs. book.history ++ xs) c.events-events.ensures) c.append.ensures.kept
    c.wake_region.ensures
    c.made.ensures))
    (c.a_book_with_a_batch.ensures b c.known.ensures book
    (record { network = c.known-2.ensures; schedule = c.known-3.ensures.schedule; kept = c.requires.kept })
    c.requires.tables c.requires.can_join.agrees s c.join.ensures few)
