use Rattle.kpn_history.proofs.Ownership.{IsOwn-last}
use Rattle.kpn_history.proofs.laws.channels_belong_to_events.Goals as goal

pub returns : goal.returns
returns c = IsOwn-last
