use Rattle.kpn_history.proofs.Stops.{only_a_leave}
use Rattle.kpn_history.proofs.growth_laws.a_stop_is_final.Goals as goal

pub returns : goal.returns
returns c = only_a_leave
