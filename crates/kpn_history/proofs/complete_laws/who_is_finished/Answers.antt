use Rattle.kpn_history.proofs.Finished.{finished_exactly}
use Rattle.kpn_history.proofs.complete_laws.who_is_finished.Goals as goal

pub returns : goal.returns
returns c = finished_exactly
