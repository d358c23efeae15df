use Rattle.kpn_net.specs.declared.wait.Wait.TheVariants.{Nobody}
use Rattle.kpn_net.proofs.WaitTables.{waits-set}
use Rattle.kpn_cycle.proofs.laws.waiter_is_woken.Goals as goal

pub returns : goal.returns
returns c = λ t waits p are. waits-set t waits p Nobody are tt
