use Rattle.kpn_machine.proofs.Moments.{journal_now, within_capacity, below_least_now}
use Rattle.kpn_book.proofs.laws.journals.Goals as goal

pub returns-clause-written : goal.returns-clause-written
returns-clause-written c b book i below =
    (book.kept.in_step.run.leads.channels i below).journal

pub returns-clause-queued : goal.returns-clause-queued
returns-clause-queued c b book i below =
    journal_now b.tables book.network b.history b.machine book.kept.in_step.run i below

pub returns-clause-within : goal.returns-clause-within
returns-clause-within c b book i below =
    within_capacity b.tables book.network b.history b.machine book.kept.in_step.run i below

pub returns-clause-below : goal.returns-clause-below
returns-clause-below c b book i below =
    below_least_now b.tables book.network b.history b.machine book.kept.in_step.run i below
