-- On a full channel whose reader lives exactly as many items are unread as its capacity.
use Rattle.kpn_history.proofs.Waking.{wait_of-then}
use Rattle.kpn_history.proofs.waking_laws.events_wake_waits.Goals as goal

pub returns : goal.returns
returns c = wait_of-then
