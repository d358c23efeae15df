use Rattle.kpn_history.proofs.Stops.{one_verdict}
use Rattle.kpn_history.proofs.EndTests.{has_verdict}
use Rattle.kpn_history.proofs.growth_laws.one_verdict.Goals as goal

pub returns-clause-some : goal.returns-clause-some
returns-clause-some c t H settled = let v = has_verdict t H settled in (v.verdict, v.is)

pub returns-clause-one : goal.returns-clause-one
returns-clause-one c = one_verdict
