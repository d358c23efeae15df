use Rattle.kpn_deadlock.proofs.Common.{◌∙◌, ap, sym, subst, IsCycleFrom, FindsFrom, all_await_items}
use Rattle.kpn_deadlock.proofs.Telling.{ring_of, no_ring_of}
use Rattle.kpn_deadlock.proofs.search.ring_from.Goals as goal

pub returns-then-do_all_await_items : goal.returns-then-do_all_await_items
returns-then-do_all_await_items g c =
    let waits = c.args.waits.now in
    ring_of c.args.network.now waits c.args.p c.in-Some.members
    (subst (FindsFrom (IsCycleFrom c.args.network.now waits) c.args.p) c.in-Some.is c.in_ok-members.ensures)
    (ap (all_await_items waits) (sym c.as_slice.ensures) ∙ sym c.do_all_await_items.ensures
    ∙ c.if-do_all_await_items.true)

pub returns-else-do_all_await_items : goal.returns-else-do_all_await_items
returns-else-do_all_await_items g c =
    let waits = c.args.waits.now in
    no_ring_of c.args.network.now waits c.args.p c.in-Some.members
    (subst (FindsFrom (IsCycleFrom c.args.network.now waits) c.args.p) c.in-Some.is c.in_ok-members.ensures)
    (ap (all_await_items waits) (sym c.as_slice.ensures) ∙ sym c.do_all_await_items.ensures
    ∙ c.if-do_all_await_items.false)
