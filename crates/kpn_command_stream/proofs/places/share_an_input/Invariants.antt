-- The first places have inputs of their own.
use Rattle.kpn_command_stream.proofs.Common.{take, HaveOwnInputs}
use Rattle.kpn_command_stream.proofs.places.share_an_input.Given as goal

abbrev pub invariant-loop-i : goal.invariant-loop-i
invariant-loop-i g l = HaveOwnInputs (g.S.Ports.are_two_inputs l.shelf) (take l.i l.places)
