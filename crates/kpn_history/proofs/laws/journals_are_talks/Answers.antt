use Rattle.kpn_history.proofs.Journals.{written_on-put, read_on-got, reads_begin_writes, read_then_unread}
use Rattle.kpn_history.proofs.laws.journals_are_talks.Goals as goal

pub returns-clause-written : goal.returns-clause-written
returns-clause-written c t network H legal d p w = written_on-put t network d p w H legal

pub returns-clause-read : goal.returns-clause-read
returns-clause-read c t network H legal d p r = read_on-got t network d p r H legal

pub returns-clause-in_order : goal.returns-clause-in_order
returns-clause-in_order c = reads_begin_writes

pub returns-clause-queued : goal.returns-clause-queued
returns-clause-queued c = read_then_unread
