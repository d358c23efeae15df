-- All outputs stay open, and the files of the first ones hold nothing.
use Rattle.kpn_command_stream.proofs.Common.{All, take, IsEmptied, StayOutputs}
use Rattle.kpn_command_stream.proofs.devices.empty_outputs.Given as goal

abbrev pub invariant-loop-i : goal.invariant-loop-i
invariant-loop-i g l =
    StayOutputs g.S.Ports.goes_to l.places.sinks.items l.initial.outputs.items l.outputs.items
    × All (IsEmptied g.S.Output.Write.contents) (take l.i l.outputs.items)
