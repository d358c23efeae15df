-- By the capacity and the reader.
use Rattle.std.proofs.Common.{sym}
use Rattle.kpn_text.proofs.ChannelLemmas.{sink_is}
use Rattle.kpn_text.proofs.networks.channel_spec.Goals as goal

pub returns-in-Some-Sink : goal.returns-in-Some-Sink
returns-in-Some-Sink c =
    sink_is c.args.network.now c.args.c c.in-Some-Sink.cap (sym c.in-Some-Sink.ensures) (sym c.in-Some-Sink.ensures')
