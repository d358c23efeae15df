use Rattle.kpn_history.proofs.Complete.{least_if_all_finished}
use Rattle.kpn_history.proofs.CompleteQuiet.{finished_if_quiet}
use Rattle.kpn_history.proofs.complete_laws.quiet_is_finished.Goals as goal

pub returns-clause-finished : goal.returns-clause-finished
returns-clause-finished c = finished_if_quiet

pub returns-clause-least : goal.returns-clause-least
returns-clause-least c = least_if_all_finished
