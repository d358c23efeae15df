use Rattle.kpn_audit.proofs.OneFinding.{one_fault, no_fault}
use Rattle.kpn_audit.proofs.laws.one_finding.Goals as goal

pub returns-clause-faults : goal.returns-clause-faults
returns-clause-faults c = one_fault

pub returns-clause-accepted : goal.returns-clause-accepted
returns-clause-accepted c = no_fault
