-- The port is one of the process, and its channel one of the network.
use Rattle.kpn_audit.proofs.Common.{ap, ◌∙◌, arith, next_item, in_port, reads_below}
use Rattle.kpn_audit.proofs.Asked.{reads_there}
use Rattle.kpn_audit.proofs.seeing.reads.Goals as goal

pub in_channel-c-requires-clause-port : goal.in_channel-c-requires-clause-port
in_channel-c-requires-clause-port g c =
    in_port c.args.network.now c.known.ensures c.args.machine.now c.args.p c.requires.process c.args.port
    c.requires.stands

pub channel-requires : goal.channel-requires
channel-requires g c =
    let below =
    reads_below c.args.network.now c.known.ensures c.args.machine.now c.args.p c.requires.process
    c.in_channel-c.result
    (record { port = c.args.port; channel = c.in_channel-c.ensures; stands = c.requires.stands }) in
    omega (arith, below, c.requires.shape.channels)

pub returns : goal.returns
returns g c H event quota =
    reads_there c.args.network.now H event quota c.args.machine.now c.args.p c.in_channel-c.result c.requires.free
    c.args.port c.in_channel-c.ensures c.requires.stands _ (c.peek.ensures ∙ ap next_item c.channel.ensures)
