-- Its size has 24 places, and is below 2^63.
use Rattle.kpn_stream_devices.proofs.ReadBack.{float_reads}
use Rattle.kpn_stream_devices.proofs.laws.a_float_is_read_again.Goals as goal

pub returns : goal.returns
returns c = float_reads
