use Rattle.kpn_history.proofs.States.{one_state}
use Rattle.kpn_history.proofs.state_laws.a_process_has_one_state.Goals as goal

pub returns : goal.returns
returns c = one_state
