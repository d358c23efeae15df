use Rattle.kpn_pool_desk.proofs.Common.{◌≡◌, None, subst, rules, SettlesTurns}
use Rattle.kpn_pool_desk.proofs.Batches.{comes_back}
use Rattle.kpn_pool_desk.proofs.worker.Worker.come_back_with_turns.Goals.{then-lets_all, else-lets_all}
use Rattle.kpn_pool_desk.proofs.worker.Worker.come_back_with_turns.Goals as goal

pub returns-clause-does : goal.returns-clause-does
returns-clause-does g c =
    let turns = c.args.self.now.turns in
    let before = c.args.desk.now in
    let between = c.settle.new.desk in
    let none : c.settle.result ≡ None = search rules in
    let settles : SettlesTurns turns c.settle.result before between = search rules in
    let cut : c.if-lets_all.desk ≡ between =
    elim c.if-lets_all.branch [ then-lets_all w ↦ search rules | else-lets_all w ↦ search rules ] in
    comes_back c.args.most turns c.next.result before between c.if-lets_all.desk c.next.new.self
    (subst (λ why. SettlesTurns turns why before between) none settles) cut c.next.ensures.same c.next.ensures.ends
