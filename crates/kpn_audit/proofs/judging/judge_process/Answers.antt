-- The process comes to a stop and is judged there, or was judged on the way.
use Rattle.std.proofs.lemmas.Result.{IfOk-weaker}
use Rattle.kpn_audit.proofs.Followed.{judged_if_made, made_after_steps}
use Rattle.kpn_audit.proofs.judging.judge_process.Goals as goal

pub returns-in-Ok-clause-judged : goal.returns-in-Ok-clause-judged
returns-in-Ok-clause-judged g c H run owes =
    let t = c.args.network.now in
    let e = c.args.event in
    let s = c.args.machine.now in
    let after = c.judge_here.new.machine in
    IfOk-weaker c.judge_here.result _ _
    (λ found made. judged_if_made t H e c.args.quota s after found
    (made_after_steps t H e c.args.p c.requires.own s c.come_to_stop.new.machine after
    c.come_to_stop.ensures.moved
    found (made H (c.come_to_stop.ensures.run H run) owes)))
    c.judge_here.ensures.judged

pub returns-in-Err-clause-judged : goal.returns-in-Err-clause-judged
returns-in-Err-clause-judged g c H run owes =
    c.in-Err.ensures.judged H run owes c.args.event c.requires.own c.requires.numbers
