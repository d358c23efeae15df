use Rattle.kpn_ticks.proofs.Schedules.{same_ticks_of}
use Rattle.kpn_ticks.proofs.Lasting.{same_last}
use Rattle.kpn_ticks.proofs.Unchanged.{differ_unchanged, differ_without}
use Rattle.kpn_ticks.proofs.laws.schedules_change_no_tick.Goals as goal

pub returns-clause-ticks : goal.returns-clause-ticks
returns-clause-ticks c = same_ticks_of

pub returns-clause-length : goal.returns-clause-length
returns-clause-length c =
    λ t network b H G legal other alike. same_last t b H G (same_ticks_of t network b H G legal other alike)

pub returns-clause-without_growth : goal.returns-clause-without_growth
returns-clause-without_growth c = differ_unchanged

pub returns-clause-without_capacities : goal.returns-clause-without_capacities
returns-clause-without_capacities c = differ_without
