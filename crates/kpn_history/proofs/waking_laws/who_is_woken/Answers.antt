use Rattle.kpn_history.proofs.Waking.{woken, one_is_woken}
use Rattle.kpn_history.proofs.waking_laws.who_is_woken.Goals as goal

pub returns-clause-exact : goal.returns-clause-exact
returns-clause-exact c = woken

pub returns-clause-one : goal.returns-clause-one
returns-clause-one c = one_is_woken
