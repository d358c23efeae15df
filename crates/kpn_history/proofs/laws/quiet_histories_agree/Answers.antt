-- Both are the iterate that is above all journals of both.
use Rattle.kpn_history.proofs.Kahn.{same_journals, one_iterate}
use Rattle.kpn_history.proofs.laws.quiet_histories_agree.Goals as goal

pub returns-clause-journals : goal.returns-clause-journals
returns-clause-journals c = same_journals

pub returns-clause-iterate : goal.returns-clause-iterate
returns-clause-iterate c = one_iterate
