-- Only the process itself reads the channel that it waits on as empty, and writes the one that it waits on as full.
use Rattle.kpn_history.proofs.WaitsAfter.{wait_of-more, ended_is_not_blocked}
use Rattle.kpn_history.proofs.laws.waits_after_one_event.Goals as goal

pub returns-clause-ended : goal.returns-clause-ended
returns-clause-ended c = ended_is_not_blocked

pub returns-clause-one_more : goal.returns-clause-one_more
returns-clause-one_more c = wait_of-more
