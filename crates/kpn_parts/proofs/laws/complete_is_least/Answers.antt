use Rattle.kpn_parts.proofs.Ended.{ended_same}
use Rattle.kpn_parts.proofs.Rest.{wait_in_whole}
use Rattle.kpn_parts.proofs.Agree.{complete_least}
use Rattle.kpn_parts.proofs.laws.complete_is_least.Goals as goal

pub returns-clause-least : goal.returns-clause-least
returns-clause-least c = λ t network cut is order joined given f d complete.
    complete_least t network cut is order joined given f d complete

pub returns-clause-ended : goal.returns-clause-ended
returns-clause-ended c = λ t network cut is order joined r p below.
    ended_same t network cut is r p below order joined.legal

pub returns-clause-waits : goal.returns-clause-waits
returns-clause-waits c = λ t network cut is order joined r p d below waits has_all.
    wait_in_whole t network cut is order joined r p d below waits has_all
