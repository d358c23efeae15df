use Rattle.kpn_deadlock.proofs.Common.{Some, sym, ap, ◌∙◌, arith, awaited}
use Rattle.kpn_deadlock.proofs.Searching.{walk_none, walk_more, walk_closed, walk_ended, walk_smaller, walk_long}
use Rattle.kpn_deadlock.proofs.search.cycle_from.Goals as goal

pub loop-step-init : goal.loop-step-init
loop-step-init g c =
    walk_none c.args.network.now c.args.waits.now c.args.p c.new-members.result.items c.new-members.ensures.items

pub returns-in_default : goal.returns-in_default
returns-in_default g c =
    walk_ended c.args.network.now c.args.waits.now c.args.p c.loop-step._step c.loop-step.at c.loop-step.members.items
    c.loop-step.invariant (ap (awaited c.args.network.now) (sym c.wait_at.ensures) ∙ sym c.in_default.ensures)

pub returns-then-next-p : goal.returns-then-next-p
returns-then-next-p g c =
    walk_closed c.args.network.now c.args.waits.now c.args.p c.loop-step._step c.loop-step.at
    c.loop-step.members.items c.loop-step.invariant c.from_vec.result
    (c.from_vec.ensures ∙ c.in_ok-push.ensures.items)
    (ap (awaited c.args.network.now) (sym c.wait_at.ensures) ∙ sym c.in-Some.ensures ∙ ap Some c.if-next-p.true)

pub returns-then-next-p-2 : goal.returns-then-next-p-2
returns-then-next-p-2 g c =
    walk_smaller c.args.network.now c.args.waits.now c.args.p c.loop-step._step c.loop-step.at
    c.loop-step.members.items c.loop-step.invariant c.in-Some.next
    (ap (awaited c.args.network.now) (sym c.wait_at.ensures) ∙ sym c.in-Some.ensures) c.if-next-p-2.true

pub loop-step-preserved : goal.loop-step-preserved
loop-step-preserved g c =
    walk_more c.args.network.now c.args.waits.now c.args.p c.loop-step._step c.loop-step.at
    c.loop-step.members.items c.loop-step.invariant c.push.new.self.items c.in_ok-push.ensures.items c.in-Some.next
    (ap (awaited c.args.network.now) (sym c.wait_at.ensures) ∙ sym c.in-Some.ensures) c.if-next-p.false
    c.if-next-p-2.false

pub returns : goal.returns
returns g c =
    walk_long c.args.network.now c.args.waits.now c.args.p c.loop-step._step c.loop-step.at
    c.loop-step.members.items c.loop-step.invariant (let n = c.instances-step-end.ensures in omega arith)
