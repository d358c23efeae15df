use Rattle.kpn_history.proofs.Progress.{no_more_if_made}
use Rattle.kpn_history.proofs.progress_laws.what_is_made.Goals as goal

pub returns : goal.returns
returns c t network given H G run run-G served made = no_more_if_made t network given H G run run-G served made
