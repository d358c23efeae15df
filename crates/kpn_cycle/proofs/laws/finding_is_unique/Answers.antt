use Rattle.kpn_net.proofs.Findings.{finding_unique}
use Rattle.kpn_cycle.proofs.laws.finding_is_unique.Goals as goal

pub returns : goal.returns
returns c = λ t waits cap p found other a b. finding_unique t waits cap p found other a b
