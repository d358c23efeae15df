-- The outputs so far.
use Rattle.kpn_command_stream.proofs.Common.{take, AllZip, IsOutputFor}
use Rattle.kpn_command_stream.proofs.devices.open_outputs.Given as goal

abbrev pub invariant-loop-i : goal.invariant-loop-i
invariant-loop-i g l =
    AllZip (IsOutputFor g.S.Ports.goes_to l.request) (take l.i l.places.sinks.items) l.outputs.items
