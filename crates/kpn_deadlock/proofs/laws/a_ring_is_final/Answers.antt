use Rattle.kpn_deadlock.proofs.Final.{silent, stays, finished}
use Rattle.kpn_deadlock.proofs.laws.a_ring_is_final.Goals as goal

pub returns-clause-silent : goal.returns-clause-silent
returns-clause-silent c = λ t network H more legal p others ring q h event there.
    silent t network p others more H legal ring q h event there

pub returns-clause-stays : goal.returns-clause-stays
returns-clause-stays c = λ t network H more legal p others ring. stays t network p others H more legal ring

pub returns-clause-finished : goal.returns-clause-finished
returns-clause-finished c = λ t network H legal p others ring q h. finished t network p others H ring q h
