use Rattle.kpn_history.proofs.OwedGrowth.{writer_awaits, owed_below_limit, owed_below_most}
use Rattle.kpn_history.proofs.growth_laws.an_owed_growth_can_be_made.Goals as goal

pub returns-clause-awaited : goal.returns-clause-awaited
returns-clause-awaited c = writer_awaits

pub returns-clause-below_limit : goal.returns-clause-below_limit
returns-clause-below_limit c = owed_below_limit

pub returns-clause-below_largest : goal.returns-clause-below_largest
returns-clause-below_largest c = owed_below_most
