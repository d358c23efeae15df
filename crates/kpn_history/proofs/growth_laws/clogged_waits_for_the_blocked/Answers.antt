use Rattle.kpn_history.proofs.Stops.{waits_for_blocked, only_a_leave}
use Rattle.kpn_history.proofs.growth_laws.clogged_waits_for_the_blocked.Goals as goal

pub returns-clause-waits : goal.returns-clause-waits
returns-clause-waits c t network H legal v = waits_for_blocked t network H legal v.0

pub returns-clause-no_cycle : goal.returns-clause-no_cycle
returns-clause-no_cycle c t H v = v.1

pub returns-clause-last : goal.returns-clause-last
returns-clause-last c t H nothing v = only_a_leave t H v.0 nothing
