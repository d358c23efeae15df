-- The bytes are those of the number, which two's complement or the float gives back.
use Rattle.kpn_stream_devices.proofs.Samples.{sample_back}
use Rattle.kpn_stream_devices.proofs.laws.a_sample_is_read_again.Goals as goal

pub returns : goal.returns
returns c = sample_back
