-- The numbers are there, and the event is judged by whom it is of.
use Rattle.kpn_audit.proofs.Common.{both_ways, IfOk-weaker, of_process}
use Rattle.kpn_audit.proofs.Followed.{judged_if_made}
use Rattle.kpn_audit.proofs.Refused.{has_its_numbers}
use Rattle.kpn_audit.proofs.judging.judge_next.Goals as goal

pub returns-then-not-has_numbers-clause-judged : goal.returns-then-not-has_numbers-clause-judged
returns-then-not-has_numbers-clause-judged g c H run owes legal =
    both_ways _ c.if-not-has_numbers.true
    (c.has_numbers.ensures.1 (has_its_numbers c.args.network.now H c.args.event legal))

pub returns-in-None-clause-judged : goal.returns-in-None-clause-judged
returns-in-None-clause-judged g c H run owes =
    IfOk-weaker c.judge_here.result _ _
    (λ found made. judged_if_made c.args.network.now H c.args.event c.args.quota c.args.machine.now
    c.judge_here.new.machine found (made H run owes))
    c.judge_here.ensures.judged

pub judge_here-requires-clause-stopped : goal.judge_here-requires-clause-stopped
judge_here-requires-clause-stopped g c p own = absurd (both_ways _ c.in-None.ensures.none ((of_process c.args.event).1 (p, own)))
