use Rattle.kpn_history.proofs.Growth.{none_owed_at_first, no_cycle_owed_after}
use Rattle.kpn_history.proofs.OwedGrowth.{one_owed, no_stop_owed_after, no_stop_under_cycles}
use Rattle.kpn_history.proofs.growth_laws.one_growth_is_owed.Goals as goal

pub returns-clause-one : goal.returns-clause-one
returns-clause-one c = one_owed

pub returns-clause-none_at_first : goal.returns-clause-none_at_first
returns-clause-none_at_first c = none_owed_at_first

pub returns-clause-waits : goal.returns-clause-waits
returns-clause-waits c = no_cycle_owed_after

pub returns-clause-stops : goal.returns-clause-stops
returns-clause-stops c = no_stop_owed_after

pub returns-clause-cycles : goal.returns-clause-cycles
returns-clause-cycles c = no_stop_under_cycles
