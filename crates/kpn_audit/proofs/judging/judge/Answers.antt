-- What is owed is judged first.
use Rattle.kpn_audit.proofs.Common.{subst, Owes}
use Rattle.kpn_audit.proofs.Followed.{judged_if_made}
use Rattle.kpn_audit.proofs.judging.judge.Goals as goal

pub judge_owed-requires-clause-process : goal.judge_owed-requires-clause-process
judge_owed-requires-clause-process g c = (c.requires.owed c.in-Some.growth c.in-Some.is).0

pub returns-in-Some-clause-judged : goal.returns-in-Some-clause-judged
returns-in-Some-clause-judged g c H run owes =
    judged_if_made c.args.network.now H c.args.event c.args.quota c.args.machine.now
    c.judge_owed.new.machine
    c.judge_owed.result
    (c.judge_owed.ensures.judged H run
    (subst (λ o. Owes c.args.network.now H c.args.machine.now o) c.in-Some.is owes))
