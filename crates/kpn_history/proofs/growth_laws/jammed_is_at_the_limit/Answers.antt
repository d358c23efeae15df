use Rattle.kpn_history.proofs.Stops.{jammed_at_limit}
use Rattle.kpn_history.proofs.growth_laws.jammed_is_at_the_limit.Goals as goal

pub returns : goal.returns
returns c = jammed_at_limit
