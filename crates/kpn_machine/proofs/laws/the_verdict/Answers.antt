use Rattle.kpn_machine.proofs.Settling.{settled_now, verdict_now}
use Rattle.kpn_machine.proofs.laws.the_verdict.Goals as goal

pub returns-clause-settled : goal.returns-clause-settled
returns-clause-settled c = settled_now

pub returns-clause-verdict : goal.returns-clause-verdict
returns-clause-verdict c = verdict_now
