use Rattle.kpn_machine.proofs.Moments.{goes_on_now}
use Rattle.kpn_machine.proofs.laws.frames_go_on.Goals as goal

pub returns : goal.returns
returns c = goes_on_now
