use Rattle.kpn_history.proofs.States.{stopped_state, stopped_states, stopped_counts}
use Rattle.kpn_history.proofs.state_laws.stopped_processes.Goals as goal

pub returns-clause-one : goal.returns-clause-one
returns-clause-one g c = stopped_state

pub returns-clause-all : goal.returns-clause-all
returns-clause-all g c = stopped_states

pub returns-clause-counted : goal.returns-clause-counted
returns-clause-counted g c = stopped_counts
