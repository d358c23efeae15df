use Rattle.kpn_book.proofs.Common.{◌≡◌, ◌-◌, ◌<◌, ◌^◌, false, [], ap, subst, arith, inl, rules, false≢true, IfOk-weaker, RunsInAnyOrder}
use Rattle.kpn_book.proofs.SettledReports.{somebody}
use Rattle.kpn_book.proofs.AnyOrder.{all_on, puts_last, on_and_take}
use Rattle.kpn_book.proofs.stepping.step_in_any_order.Goals as goal

pub go_on-requires : goal.go_on-requires
go_on-requires c =
    let held = c.requires.to_itself.nobody_held in
    let below = c.requires.goes_on.2 in
    let fits : c.args.limits.now.commits < 2 ^ 64 = search rules in
    omega (arith, held, below, fits, c.commits.ensures)

pub returns-in-None : goal.returns-in-None
returns-in-None c =
    let b = c.args.book.now in
    all_on c.args.limits.now c.args.quota c.requires.quota b c.requires.to_itself c.requires.goes_on.0
    (c.args.limits.now.commits - c.commits.result)
    (ap (λ n. c.args.limits.now.commits - n) c.commits.ensures) c.requires.goes_on.2
    (λ none.
    somebody b c.known.ensures c.requires.countable c.requires.to_itself c.requires.goes_on.1 (inl none))
    c.go_on.new.self
    (subst (λ sink. RunsInAnyOrder c.args.quota (c.args.limits.now.commits - c.commits.result) sink b c.go_on.new.self)
    c.in-None.is c.in_ok-put.ensures.goes)

pub returns-in-Some : goal.returns-in-Some
returns-in-Some c =
    let b = c.args.book.now in
    let limits = c.args.limits.now in
    let quota = c.args.quota in
    let most = limits.commits - c.commits.result in
    let is_most = ap (λ n. limits.commits - n) c.commits.ensures in
    let ready : b.schedule.queue ≡ [] → ⊥ =
    λ none.
    somebody b c.known.ensures c.requires.countable c.requires.to_itself c.requires.goes_on.1 (inl none) in
    let now = c.go_on.new.self in
    let sink = c.in-Some.sink in
    let goes = subst (λ s. RunsInAnyOrder quota most s b now) c.in-Some.is c.in_ok-put.ensures.goes in
    let is =
    puts_last limits quota c.requires.quota b c.requires.to_itself c.requires.goes_on.0 most is_most
    c.requires.goes_on.2 ready now sink goes in
    IfOk-weaker c.take_what_was_put.result _ _
    (λ enough stepped.
    on_and_take limits quota c.requires.quota b c.requires.to_itself c.requires.goes_on.0 most is_most
    c.requires.goes_on.2 ready now sink goes is.last is.so_far.later is.committed enough
    c.take_what_was_put.new.book stepped)
    (c.take_what_was_put.ensures false is.last is.so_far.to_itself (λ order. absurd (false≢true order)) is.committed
    is.put is.so_far.few)
