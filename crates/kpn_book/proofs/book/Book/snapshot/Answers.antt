-- What is copied agrees with the history, and what a view that agrees shows.
use Rattle.kpn_book.proofs.Common.{◌≡◌, subst, sym, Agrees, AreKept, book_of}
use Rattle.kpn_book.proofs.Agreeing.{Agrees-of}
use Rattle.kpn_book.proofs.Snapshots.{run_shown, below_shown, at_rest_shown}
use Rattle.kpn_book.proofs.book.Book.snapshot.Goals as goal

pub returns-clause-agrees : goal.returns-clause-agrees
returns-clause-agrees g c =
    let told = c.in_ok-view.ensures in
    subst (λ b. Agrees b.tables b.history (record c.in_ok-view.view { journals = c.in-Ok.journals }))
    c.self.view_is
    (Agrees-of (book_of c.self.inside.parts) c.self.invariant.in_step c.channels-channels.result
    c.channels-channels.ensures (record c.in_ok-view.view { journals = c.in-Ok.journals })
    c.in-Ok.ensures.journals
    told.read told.caps told.retired told.states told.counts)

pub returns-clause-states : goal.returns-clause-states
returns-clause-states g c =
    subst (λ b. c.in_ok-view.view.states ≡ b.schedule.states) c.self.view_is c.in_ok-view.ensures.states

pub returns-clause-run : goal.returns-clause-run
returns-clause-run g c = run_shown c.args.self.now c.known.ensures _ (returns-clause-agrees g c)

pub returns-clause-below : goal.returns-clause-below
returns-clause-below g c = below_shown c.args.self.now c.known.ensures _ (returns-clause-agrees g c)

pub returns-clause-quiet : goal.returns-clause-quiet
returns-clause-quiet g c = at_rest_shown c.args.self.now c.known.ensures _ (returns-clause-agrees g c)

pub returns-in-Err-clause-forgotten : goal.returns-in-Err-clause-forgotten
returns-in-Err-clause-forgotten g c is kept =
    c.in-Err.ensures.forgotten is (subst (λ b. AreKept b.machine) (sym c.self.view_is) kept)
