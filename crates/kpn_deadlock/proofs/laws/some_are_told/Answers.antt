use Rattle.kpn_deadlock.proofs.Least.{some_told}
use Rattle.kpn_deadlock.proofs.laws.some_are_told.Goals as goal

pub returns : goal.returns
returns c = λ t waits told are. some_told t waits told are
