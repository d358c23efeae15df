use Rattle.kpn_pool_desk.proofs.Common.{Bool, rules, refl, sym, ap, ◌∙◌, subst, arith, Some, None, SettlesTurns}
use Rattle.kpn_pool_desk.specs.declared.seat.Why.TheVariants.{Abandoned, NoMemory}
use Rattle.kpn_pool_desk.proofs.Batches.{keeps_halts, settled}
use Rattle.kpn_pool_desk.proofs.held_turns.HeldTurns.settle.Goals as goal

pub returns-then-committed-self-clause-settles : goal.returns-then-committed-self-clause-settles
returns-then-committed-self-clause-settles g c =
    let halts = ap (λ d. d.halts) c.halt.ensures in
    subst (λ b. SettlesTurns b (Some NoMemory) c.args.desk.now c.halt.new.self) c.self.view_is
    (settled _ (Some NoMemory) c.args.desk.now c.commit_each-committed.new.desk c.put_back_each.new.desk
    c.halt.new.self c.as_slice-turns.result.now c.commit_each-committed.result c.as_slice-turns.ensures.value
    c.commit_each-committed.ensures.commits c.put_back_each.ensures.back c.commit_each-committed.ensures.same
    c.put_back_each.ensures.same
    (c.halt.ensures ∙ ap (λ (h : Bool). record c.put_back_each.new.desk { halts = h }) (sym halts))
    (c.if-committed-self.true, halts))

pub returns-then-committed-self-2-clause-settles : goal.returns-then-committed-self-2-clause-settles
returns-then-committed-self-2-clause-settles g c =
    let halts =
    keeps_halts c.args.desk.now c.commit_each-committed.new.desk c.put_back_each.new.desk
    c.commit_each-committed.ensures.same c.put_back_each.ensures.same in
    subst (λ b. SettlesTurns b (Some Abandoned) c.args.desk.now c.put_back_each.new.desk) c.self.view_is
    (settled _ (Some Abandoned) c.args.desk.now c.commit_each-committed.new.desk c.put_back_each.new.desk
    c.put_back_each.new.desk c.as_slice-turns.result.now c.commit_each-committed.result c.as_slice-turns.ensures.value
    c.commit_each-committed.ensures.commits c.put_back_each.ensures.back c.commit_each-committed.ensures.same
    c.put_back_each.ensures.same refl (search (rules, arith), search (rules, arith), halts))

pub returns-clause-settles : goal.returns-clause-settles
returns-clause-settles g c =
    let halts =
    keeps_halts c.args.desk.now c.commit_each-committed.new.desk c.put_back_each.new.desk
    c.commit_each-committed.ensures.same c.put_back_each.ensures.same in
    subst (λ b. SettlesTurns b None c.args.desk.now c.put_back_each.new.desk) c.self.view_is
    (settled _ None c.args.desk.now c.commit_each-committed.new.desk c.put_back_each.new.desk
    c.put_back_each.new.desk c.as_slice-turns.result.now c.commit_each-committed.result c.as_slice-turns.ensures.value
    c.commit_each-committed.ensures.commits c.put_back_each.ensures.back c.commit_each-committed.ensures.same
    c.put_back_each.ensures.same refl (search (rules, arith), halts))
