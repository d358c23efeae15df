use Rattle.kpn_machine.proofs.Moments.{no_cycle_can_grow}
use Rattle.kpn_machine.proofs.laws.no_cycle_is_left_to_grow.Goals as goal

pub returns : goal.returns
returns c = no_cycle_can_grow
