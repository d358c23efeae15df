use Rattle.kpn_pool_desk.proofs.Common.{subst, IsBook, Desk}
use Rattle.kpn_pool_desk.proofs.desk.Desk.known.Goals as goal

pub returns-clause-counts : goal.returns-clause-counts
returns-clause-counts g c = λ counts are.
    let book = subst (λ (x : Desk). IsBook x.book) c.self.view_is c.self.invariant.book in
    record {
      empty = c.the_history.ensures.empty c.args.self.now.book book counts are;
      full = c.the_history.ensures.full c.args.self.now.book book counts are;
    }

pub returns-clause-growths : goal.returns-clause-growths
returns-clause-growths g c = λ B rest p d n is.
    c.growths.ensures.owed c.args.self.now.book
    (subst (λ (x : Desk). IsBook x.book) c.self.view_is c.self.invariant.book) B rest p d n is

pub returns-clause-at_stop : goal.returns-clause-at_stop
returns-clause-at_stop g c = λ all settled p d there waits.
    c.growths.ensures.at_stop c.args.self.now.book
    (subst (λ (x : Desk). IsBook x.book) c.self.view_is c.self.invariant.book) all settled p d there waits

pub returns-clause-below : goal.returns-clause-below
returns-clause-below g c =
    c.journals.ensures.below c.args.self.now.book
    (subst (λ (x : Desk). IsBook x.book) c.self.view_is c.self.invariant.book)
