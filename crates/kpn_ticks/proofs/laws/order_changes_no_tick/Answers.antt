use Rattle.kpn_ticks.proofs.Exchanging.{reordered_clocks}
use Rattle.kpn_ticks.proofs.laws.order_changes_no_tick.Goals as goal

pub returns : goal.returns
returns c = reordered_clocks
