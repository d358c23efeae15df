use Rattle.kpn_audit.proofs.Completing.{complete_least}
use Rattle.kpn_audit.proofs.complete_laws.complete_is_least.Goals as goal

pub returns : goal.returns
returns g c = complete_least
