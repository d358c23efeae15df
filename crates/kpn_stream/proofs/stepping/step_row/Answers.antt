use Rattle.kpn_stream.proofs.Going.{stepped_row, stepped_in_any_order}
use Rattle.kpn_stream.proofs.stepping.step_row.Goals as goal

pub returns-then-is_order_seen : goal.returns-then-is_order_seen
returns-then-is_order_seen c =
    stepped_row c.args.limits.now c.max.result c.commits_left-most.result c.run_on.result c.args.book.now
    c.run_on.new.self c.commits_left-most.ensures.within c.run_on.ensures.runs c.run_on.ensures.in_vain

pub returns : goal.returns
returns c =
    stepped_in_any_order c.args.limits.now c.max-2.result c.commits_left-most.result c.go_on.result c.args.book.now
    c.go_on.new.self c.commits_left-most.ensures.within c.go_on.ensures.goes c.go_on.ensures.in_vain
