use Rattle.kpn_history.proofs.Events.{written_on-push, read_on-push, talk_of-push}
use Rattle.kpn_history.proofs.event_laws.lists_after_one_event.Goals as goal

pub returns-clause-written : goal.returns-clause-written
returns-clause-written c = written_on-push

pub returns-clause-read : goal.returns-clause-read
returns-clause-read c = read_on-push

pub returns-clause-said : goal.returns-clause-said
returns-clause-said c = talk_of-push
