use Rattle.kpn_machine.proofs.Moments.{journal_now, within_capacity, within_limit, below_least_now}
use Rattle.kpn_machine.proofs.laws.every_moment.Goals as goal

pub returns-clause-queued : goal.returns-clause-queued
returns-clause-queued c = journal_now

pub returns-clause-within : goal.returns-clause-within
returns-clause-within c = within_capacity

pub returns-clause-limit : goal.returns-clause-limit
returns-clause-limit c = within_limit

pub returns-clause-below : goal.returns-clause-below
returns-clause-below c = below_least_now
