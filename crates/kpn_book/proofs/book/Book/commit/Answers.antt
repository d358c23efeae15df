use Rattle.std.proofs.Common.{◌≡◌, sym, ap, subst, ◌∙◌, IfOk, IfErr}
use Rattle.kpn_book.proofs.Common.{program_of, IsAdvance, IsAtPort, advanced_of, Commits, RefusesCommit}
use Rattle.kpn_book.proofs.Committing.{advance_is}
use Rattle.kpn_book.proofs.book.Book.commit.Given as given
use Rattle.kpn_book.proofs.book.Book.commit.Goals as goal
use Rattle.kpn_book.proofs.book.Book.commit.Goals.{After-to}

-- the parts that are handed on are those of the steps
handed_on : (g : given.Over) (c : After-to g)
    → advanced_of (program_of c.args.self.now.tables c.args.p) c.from.result.now c.to.result.now c.steps.result
    c.stop.result ≡ c.args.advance.now
handed_on g c =
    advance_is c.args.advance.now (program_of c.args.self.now.tables c.args.p) c.from.result.now c.to.result.now
    c.steps.result c.stop.result
    (ap (λ b. program_of b.tables c.args.p) (sym c.self.view_is) ∙ sym c.program-2.ensures
    ∙ sym (c.same.ensures.0 c.if-not-same.false) ∙ c.program.ensures)
    c.from.ensures c.to.ensures c.steps.ensures c.stop.ensures

pub commit_own-requires-clause-advance : goal.commit_own-requires-clause-advance
commit_own-requires-clause-advance g c = subst (λ x. IsAdvance x) (sym (handed_on g c)) c.known.ensures.advance

pub commit_own-requires-clause-port : goal.commit_own-requires-clause-port
commit_own-requires-clause-port g c =
    subst (λ x. IsAtPort x.program x.to x.stop) (sym (handed_on g c)) c.known.ensures.port

pub returns-clause-done : goal.returns-clause-done
returns-clause-done g c =
    subst (λ x. IfOk c.commit_own.result (λ answer. Commits c.args.p x answer c.args.self.now c.commit_own.new.self))
    (handed_on g (goal.at.returns-clause-done g c).After-to) c.commit_own.ensures.done

pub returns-clause-refused : goal.returns-clause-refused
returns-clause-refused g c =
    subst (λ x. IfErr c.commit_own.result (λ cause. RefusesCommit c.args.p x c.args.self.now cause))
    (handed_on g (goal.at.returns-clause-refused g c).After-to) c.commit_own.ensures.refused
