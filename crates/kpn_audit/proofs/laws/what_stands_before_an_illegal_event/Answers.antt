use Rattle.kpn_audit.proofs.OneFinding.{no_fault_before, not_elsewhere}
use Rattle.kpn_audit.proofs.laws.what_stands_before_an_illegal_event.Goals as goal

pub returns-clause-fault : goal.returns-clause-fault
returns-clause-fault c t H quota k at fault before = no_fault_before t H quota k at fault before

pub returns-clause-somewhere : goal.returns-clause-somewhere
returns-clause-somewhere c t H quota k at scene stands p is = not_elsewhere t H quota k at scene stands p is
