-- The bytes tell the item.
use Rattle.std.proofs.Common.{◌≡◌, Option, Some, None, Ok, IfSome, ℤ}
use Rattle.kpn_stream_devices.proofs.Common.{InputGives, Window, WindowTells}
use Rattle.kpn_stream_devices.proofs.Devices.{told_at_hand}
use Rattle.kpn_stream_devices.proofs.inputs.item_at_hand.Goals as goal

pub returns-clause-gives : goal.returns-clause-gives
returns-clause-gives g c =
    told_at_hand g.I.Read.remaining g.F.Read.remaining c.args.standard.now c.args.input.now c.next_item.result
    c.next_item.new.self c.next_item.ensures.told c.next_item.ensures.over
