-- One thing is found of the cycle through a process.
use Rattle.kpn_history.proofs.OwedGrowth.{owed_as_found, nothing_as_found}
use Rattle.kpn_history.proofs.growth_laws.growth_is_owed_by_the_cycle.Goals as goal

pub returns-clause-owed : goal.returns-clause-owed
returns-clause-owed c = owed_as_found

pub returns-clause-nothing : goal.returns-clause-nothing
returns-clause-nothing c = nothing_as_found
