use Rattle.kpn_history.proofs.OwedGrowth.{no_wait_left}
use Rattle.kpn_history.proofs.growth_laws.no_wait_is_left_to_grow.Goals as goal

pub returns : goal.returns
returns c = no_wait_left
