-- What the book says of the sink.
use Rattle.std.proofs.Common.{refl}
use Rattle.kpn_command_stream.proofs.summary.sink_end.Goals as goal

pub returns : goal.returns
returns c = record {
  channel = refl;
  items = c.read_count.ensures;
  complete = c.is_complete.ensures;
  left = c.is_left.ensures;
}
