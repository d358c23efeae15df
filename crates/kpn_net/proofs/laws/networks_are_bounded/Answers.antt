use Rattle.kpn_net.proofs.Networks.{sizes}
use Rattle.kpn_net.proofs.laws.networks_are_bounded.Goals as goal

pub returns-clause-programs : goal.returns-clause-programs
returns-clause-programs c = λ t network. (sizes t network).programs

pub returns-clause-processes : goal.returns-clause-processes
returns-clause-processes c = λ t network. (sizes t network).instances

pub returns-clause-channels : goal.returns-clause-channels
returns-clause-channels c = λ t network. (sizes t network).channels
