-- A process that has ended or waits makes no event.
use Rattle.kpn_audit.proofs.Common.{refl, both_ways, must_be_free}
use Rattle.kpn_audit.proofs.stepping.come_to_stop.Goals as goal

pub returns-then-not-is_free-clause-moved : goal.returns-then-not-is_free-clause-moved
returns-then-not-is_free-clause-moved g c =
    record { steps = 0; reached = refl; others = λ q differs. refl }

pub returns-then-not-is_free-clause-judged : goal.returns-then-not-is_free-clause-judged
returns-then-not-is_free-clause-judged g c H run owes event own numbers legal =
    both_ways _ c.if-not-is_free.true
    (c.is_free.ensures.1
    (must_be_free c.args.network.now c.known.ensures H c.args.machine.now run c.args.p c.requires.process event
    own legal))
