-- An event that is due is made, and no other may follow.
use Rattle.kpn_audit.proofs.Common.{both_ways, Legal-due}
use Rattle.kpn_machine.proofs.Running.{IsRun-next}
use Rattle.kpn_audit.proofs.Followed.{goes_by}
use Rattle.kpn_audit.proofs.Refused.{must_be_due}
use Rattle.kpn_audit.proofs.judging.judge_here.Goals as goal

pub is_due-requires-clause-stands : goal.is_due-requires-clause-stands
is_due-requires-clause-stands g c p own = (c.requires.stopped p own).stands

pub returns-then-not-is_due-clause-judged : goal.returns-then-not-is_due-clause-judged
returns-then-not-is_due-clause-judged g c H run owes legal =
    both_ways _ c.if-not-is_due.true
    (c.is_due.ensures.1
    (must_be_due c.args.network.now c.known.ensures H c.args.machine.now run owes c.args.event c.args.stop
    c.requires.stopped legal))

pub returns-clause-judged : goal.returns-clause-judged
returns-clause-judged g c H run owes =
    let t = c.args.network.now in
    let s = c.args.machine.now in
    let e = c.args.event in
    let after = c.apply.new.self in
    let due = c.is_due.ensures.0 c.if-not-is_due.false in
    let next =
    IsRun-next t c.known.ensures H e s after run (Legal-due t c.known.ensures H s run owes e c.requires.numbers due)
    c.in_ok-apply.ensures.changes c.in_ok-apply.ensures.shape in
    record {
      run = next;
      owes = c.owed_after.ensures H next;
      goes = goes_by t s after e c.args.stop c.requires.stopped c.in_ok-apply.ensures.changes.frames;
    }
