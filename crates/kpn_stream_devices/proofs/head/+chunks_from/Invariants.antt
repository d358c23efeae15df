-- One chunk fewer is left.
use Rattle.kpn_stream_devices.proofs.head.+chunks_from.Given as goal

abbrev pub decreases-chunks_from : goal.decreases-chunks_from
decreases-chunks_from l = l.count
