use Rattle.kpn_book.proofs.Common.{refl, ap, ◌∙◌, all_ready, Book}
use Rattle.kpn_book.proofs.Starting.{kept_at_start}
use Rattle.kpn_book.proofs.book.Book.keeping.Goals as goal

pub invariant_of-result : goal.invariant_of-result
invariant_of-result g c =
    let b : Book = record {
      tables = c.args.network.now;
      history = c.keeping-2.result.events;
      machine = c.in_ok-machine.machine;
      schedule = c.in_ok-schedule.schedule;
      commits = 0;
      keeps_events = c.keeping-2.result.is_kept;
    } in
    kept_at_start b c.keeping-2.ensures.events c.in_ok-machine.ensures.run
    (c.in_ok-schedule.ensures ∙ ap all_ready c.instances.ensures) refl

pub returns-clause-book : goal.returns-clause-book
returns-clause-book g c =
    let b : Book = record {
      tables = c.args.network.now;
      history = c.keeping-2.result.events;
      machine = c.in_ok-machine.machine;
      schedule = c.in_ok-schedule.schedule;
      commits = 0;
      keeps_events = c.keeping-2.result.is_kept;
    } in
    record {
      network = c.known.ensures;
      schedule = c.known-2.ensures.schedule;
      kept =
          kept_at_start b c.keeping-2.ensures.events c.in_ok-machine.ensures.run
          (c.in_ok-schedule.ensures ∙ ap all_ready c.instances.ensures) refl;
    }
