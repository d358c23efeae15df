use Rattle.kpn_pool_desk.proofs.Common.{◌≡◌, subst, AreKept, ShowsJournals, run_of, below_of, at_rest_of, shows_journals, Desk}
use Rattle.kpn_chan.specs.declared.unread.Unread.TheVariants.{Forgotten}
use Rattle.kpn_pool_desk.proofs.desk.Desk.snapshot.Goals as goal

pub returns-in-Ok-clause-run : goal.returns-in-Ok-clause-run
returns-in-Ok-clause-run g c =
    let inner = c.self.inside.book in
    run_of g.J.Job.network inner c.self.invariant.network c.known.ensures
    (c.the_history.ensures.legal inner c.known.ensures) c.in-Ok.view c.in-Ok.ensures.agrees

pub returns-in-Ok-clause-journals : goal.returns-in-Ok-clause-journals
returns-in-Ok-clause-journals g c =
    let inner = c.self.inside.book in
    subst (λ (d : Desk). ShowsJournals d.book c.in-Ok.view) c.self.view_is
    (shows_journals inner (c.journals.ensures.written inner c.known.ensures) c.in-Ok.view
    c.in-Ok.ensures.agrees)

pub returns-in-Ok-clause-below : goal.returns-in-Ok-clause-below
returns-in-Ok-clause-below g c =
    let inner = c.self.inside.book in
    below_of g.J.Job.network inner c.self.invariant.network c.known.ensures
    (c.the_history.ensures.legal inner c.known.ensures) c.in-Ok.view c.in-Ok.ensures.agrees

pub returns-in-Ok-clause-quiet : goal.returns-in-Ok-clause-quiet
returns-in-Ok-clause-quiet g c =
    let inner = c.self.inside.book in
    at_rest_of g.J.Job.network inner c.self.invariant.network c.known.ensures
    (c.the_history.ensures.legal inner c.known.ensures) c.in-Ok.view c.in-Ok.ensures.agrees

pub returns-in-Err-clause-forgotten : goal.returns-in-Err-clause-forgotten
returns-in-Err-clause-forgotten g c =
    subst (λ (d : Desk). c.in-Err.why ≡ Forgotten → ¬ AreKept d.book.machine) c.self.view_is
    c.in-Err.ensures.forgotten
