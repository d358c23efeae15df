use Rattle.kpn_machine.proofs.Common.{program_of, frame_in}
use Rattle.kpn_machine.proofs.OneStop.{one_stop}
use Rattle.kpn_machine.proofs.laws.one_stop_stands.Goals as goal

pub returns : goal.returns
returns c t s p = one_stop (program_of t p).blocks (frame_in s p)
