use Rattle.kpn_history.proofs.AfterEvent.{is_closed-next, is_left-next, has_ended-next, reader_lives-next}
use Rattle.kpn_history.proofs.Capacities.{capacity_after-next}
use Rattle.kpn_history.proofs.event_laws.marks_after_one_event.Goals as goal

pub returns-clause-closed : goal.returns-clause-closed
returns-clause-closed c = is_closed-next

pub returns-clause-left : goal.returns-clause-left
returns-clause-left c = is_left-next

pub returns-clause-ended : goal.returns-clause-ended
returns-clause-ended c = has_ended-next

pub returns-clause-lives : goal.returns-clause-lives
returns-clause-lives c = reader_lives-next

pub returns-clause-capacity : goal.returns-clause-capacity
returns-clause-capacity c = capacity_after-next
