use Rattle.kpn_history.proofs.Complete.{least_if_complete}
use Rattle.kpn_history.proofs.complete_laws.complete_is_least.Goals as goal

pub returns : goal.returns
returns c = least_if_complete
