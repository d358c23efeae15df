use Rattle.kpn_book.proofs.Common.{sym, subst, IfOk, AreStepped}
use Rattle.kpn_book.proofs.stepping.step.Goals as goal

pub returns-then-in_order : goal.returns-then-in_order
returns-then-in_order c =
    subst (λ o. IfOk c.step_in_order.result (λ enough. AreStepped c.args.limits.now o enough c.args.book.now
    c.step_in_order.new.book)) (sym c.if-in_order.true) c.step_in_order.ensures

pub returns : goal.returns
returns c =
    subst (λ o. IfOk c.step_in_any_order.result (λ enough. AreStepped c.args.limits.now o enough c.args.book.now
    c.step_in_any_order.new.book)) (sym c.if-in_order.false) c.step_in_any_order.ensures
