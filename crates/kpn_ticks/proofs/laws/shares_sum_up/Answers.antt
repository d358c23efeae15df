use Rattle.kpn_ticks.proofs.Chaining.{shares_sum}
use Rattle.kpn_ticks.proofs.laws.shares_sum_up.Goals as goal

pub returns : goal.returns
returns c = shares_sum
