-- The inputs so far.
use Rattle.kpn_command_stream.proofs.Common.{take, AllZip, IsInputFor}
use Rattle.kpn_command_stream.proofs.devices.open_inputs.Given as goal

abbrev pub invariant-loop-i : goal.invariant-loop-i
invariant-loop-i g l =
    AllZip (IsInputFor (g.S.Shelf.may_give l.shelf) g.S.Ports.comes_from g.S.Input.Read.remaining)
    (take l.i l.places.sources.items) l.inputs.items
