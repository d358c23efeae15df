use Rattle.kpn_history.proofs.Stops.{quiet_where_ended}
use Rattle.kpn_history.proofs.growth_laws.ended_is_quiet.Goals as goal

pub returns : goal.returns
returns c = quiet_where_ended
