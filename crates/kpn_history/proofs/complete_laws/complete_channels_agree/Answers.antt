use Rattle.kpn_history.proofs.Complete.{complete_same, begins_complete}
use Rattle.kpn_history.proofs.complete_laws.complete_channels_agree.Goals as goal

pub returns-clause-same : goal.returns-clause-same
returns-clause-same c = complete_same

pub returns-clause-begins : goal.returns-clause-begins
returns-clause-begins c = λ t network G H legal-G legal-H given f begun channel complete.
    begins_complete t network G H legal-G legal-H given f begun channel complete
