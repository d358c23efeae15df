-- Both journals begin one iterate.
use Rattle.kpn_history.proofs.Kahn.{one_begins_other, first_items}
use Rattle.kpn_history.proofs.laws.schedules_agree.Goals as goal

pub returns-clause-journals : goal.returns-clause-journals
returns-clause-journals c = one_begins_other

pub returns-clause-first_items : goal.returns-clause-first_items
returns-clause-first_items c = first_items
