-- The port is one of the process, and its channel one of the network.
use Rattle.kpn_audit.proofs.Common.{ap, ◌∙◌, rules, arith, is_channel_full, out_port, writes_below}
use Rattle.kpn_audit.proofs.Asked.{writes_there}
use Rattle.kpn_audit.proofs.seeing.writes.Goals as goal

pub out_channel-c-requires-clause-port : goal.out_channel-c-requires-clause-port
out_channel-c-requires-clause-port g c =
    out_port c.args.network.now c.known.ensures c.args.machine.now c.args.p c.requires.process c.args.port
    c.args.item c.requires.stands

pub channel-requires : goal.channel-requires
channel-requires g c =
    let below =
    writes_below c.args.network.now c.known.ensures c.args.machine.now c.args.p c.requires.process
    c.out_channel-c.result c.args.item
    (record { port = c.args.port; channel = c.out_channel-c.ensures; stands = c.requires.stands }) in
    omega (arith, below, c.requires.shape.channels)

pub returns : goal.returns
returns g c H event quota =
    writes_there c.args.network.now H event quota c.args.machine.now c.args.p c.out_channel-c.result
    c.requires.free c.args.port c.out_channel-c.ensures _ c.args.item (search rules) c.requires.stands _
    (c.is_full.ensures ∙ ap is_channel_full c.channel.ensures)
