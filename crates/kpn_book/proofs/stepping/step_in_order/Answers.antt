use Rattle.kpn_book.proofs.Common.{◌≡◌, true, ◌-◌, ◌<◌, ◌^◌, [], ap, subst, arith, inl, rules, IfOk-weaker, RunsInRow}
use Rattle.kpn_book.proofs.SettledReports.{somebody}
use Rattle.kpn_book.proofs.InARow.{row_ends, last_to_itself, last_few, last_turn, last_put, row_and_take}
use Rattle.kpn_book.proofs.stepping.step_in_order.Goals as goal

pub run_on-requires : goal.run_on-requires
run_on-requires c =
    let held = c.requires.to_itself.nobody_held in
    let below = c.requires.goes_on.2 in
    let fits : c.args.limits.now.commits < 2 ^ 64 = search rules in
    omega (arith, held, below, fits, c.commits.ensures)

pub returns-in-None : goal.returns-in-None
returns-in-None c =
    let b = c.args.book.now in
    row_ends c.args.limits.now c.args.quota c.requires.quota b c.requires.to_itself c.requires.goes_on.0
    (c.args.limits.now.commits - c.commits.result)
    (ap (λ n. c.args.limits.now.commits - n) c.commits.ensures) c.requires.goes_on.2
    (λ none.
    somebody b c.known.ensures c.requires.countable c.requires.to_itself c.requires.goes_on.1 (inl none))
    c.run_on.new.self
    (subst (λ sink. RunsInRow c.args.quota (c.args.limits.now.commits - c.commits.result) sink b c.run_on.new.self)
    c.in-None.is c.in_ok-put.ensures.runs)

pub returns-in-Some : goal.returns-in-Some
returns-in-Some c =
    let b = c.args.book.now in
    let limits = c.args.limits.now in
    let quota = c.args.quota in
    let most = limits.commits - c.commits.result in
    let is_most = ap (λ n. limits.commits - n) c.commits.ensures in
    let ready : b.schedule.queue ≡ [] → ⊥ =
    λ none.
    somebody b c.known.ensures c.requires.countable c.requires.to_itself c.requires.goes_on.1 (inl none) in
    let now = c.run_on.new.self in
    let sink = c.in-Some.sink in
    let runs = subst (λ s. RunsInRow quota most s b now) c.in-Some.is c.in_ok-put.ensures.runs in
    let itself =
    last_to_itself limits quota c.requires.quota b c.requires.to_itself c.requires.goes_on.0 most is_most
    c.requires.goes_on.2 ready now sink runs in
    let few =
    last_few limits quota c.requires.quota b c.requires.to_itself c.requires.goes_on.0 most is_most
    c.requires.goes_on.2 ready now sink runs in
    let turn =
    last_turn limits quota c.requires.quota b c.requires.to_itself c.requires.goes_on.0 most is_most
    c.requires.goes_on.2 ready now sink runs in
    let put =
    last_put limits quota c.requires.quota b c.requires.to_itself c.requires.goes_on.0 most is_most
    c.requires.goes_on.2 ready now sink runs in
    IfOk-weaker c.take_what_was_put.result _ _
    (λ enough is.
    row_and_take limits quota c.requires.quota b c.requires.to_itself c.requires.goes_on.0 most is_most
    c.requires.goes_on.2 ready now sink runs enough c.take_what_was_put.new.book is)
    (c.take_what_was_put.ensures true runs.last itself (λ _. turn.0) turn.1 put few)
