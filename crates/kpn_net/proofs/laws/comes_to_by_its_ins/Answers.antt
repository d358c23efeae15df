use Rattle.kpn_net.proofs.OwnIns.{ComesTo-own_ins}
use Rattle.kpn_net.proofs.laws.comes_to_by_its_ins.Goals as goal

pub returns : goal.returns
returns c = λ t p lists others agree ending talk h. ComesTo-own_ins t p lists others agree ending talk h
