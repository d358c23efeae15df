use Rattle.kpn_history.proofs.AfterEvent.{process_events-next, of_process}
use Rattle.kpn_history.proofs.event_laws.events_of_processes.Goals as goal

pub returns-clause-one_more : goal.returns-clause-one_more
returns-clause-one_more c = process_events-next

pub returns-clause-process : goal.returns-clause-process
returns-clause-process c = of_process
