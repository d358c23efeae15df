use Rattle.kpn_history.proofs.Growth.{nothing_can_grow}
use Rattle.kpn_history.proofs.growth_laws.no_cycle_is_left_to_grow.Goals as goal

pub returns : goal.returns
returns c = nothing_can_grow
