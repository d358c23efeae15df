use Rattle.std.proofs.Common.{◌≡◌, ◌∙◌, ap, subst, rules}
use Rattle.kpn_c.specs.Calls.{StepsEach}
use Rattle.kpn_c.proofs.Networks.{steps_tables}
use Rattle.kpn_c.proofs.session.Session.step_by.Goals as goal

pub with-requires-clause-stays : goal.with-requires-clause-stays
with-requires-clause-stays c told after gives =
    let steps : StepsEach c.args.quota c.args.most told gives.shown.now gives.left.now = search rules in
    subst (λ b. b.tables ≡ c.args.self.book.tables) gives.leaves
    (steps_tables c.args.quota c.args.most told gives.shown.now gives.left.now steps
    ∙ ap (λ b. b.tables) gives.shows)
