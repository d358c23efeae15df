use Rattle.kpn_history.proofs.CompleteStays.{complete_stays as stays}
use Rattle.kpn_history.proofs.complete_laws.complete_stays.Goals as goal

pub returns-clause-nothing_more : goal.returns-clause-nothing_more
returns-clause-nothing_more c = λ t network H more legal channel complete.
    let s = stays t network H more legal channel complete in s.written

pub returns-clause-complete : goal.returns-clause-complete
returns-clause-complete c = λ t network H more legal channel complete.
    let s = stays t network H more legal channel complete in s.complete
