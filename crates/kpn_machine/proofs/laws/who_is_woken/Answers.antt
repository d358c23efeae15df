use Rattle.kpn_machine.proofs.Moments.{ended_waits_for_nobody}
use Rattle.kpn_machine.proofs.Waking.{who_writes, who_reads, woken_at_end, woken_once, becomes_free}
use Rattle.kpn_machine.proofs.laws.who_is_woken.Goals as goal

pub returns-clause-writer : goal.returns-clause-writer
returns-clause-writer c = who_writes

pub returns-clause-reader : goal.returns-clause-reader
returns-clause-reader c = who_reads

pub returns-clause-end : goal.returns-clause-end
returns-clause-end c = woken_at_end

pub returns-clause-once : goal.returns-clause-once
returns-clause-once c = woken_once

pub returns-clause-ended : goal.returns-clause-ended
returns-clause-ended c = ended_waits_for_nobody

pub returns-clause-free : goal.returns-clause-free
returns-clause-free c = becomes_free
