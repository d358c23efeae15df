use Rattle.kpn_net.proofs.Findings.{finding_with_same_capacities}
use Rattle.kpn_cycle.proofs.laws.finding_looks_at_no_source.Goals as goal

pub returns : goal.returns
returns c = λ t waits are cap other same p found h. finding_with_same_capacities t waits are cap other same p found h
