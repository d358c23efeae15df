-- The first places have other inputs.
use Rattle.kpn_command_stream.proofs.Common.{All, take, EndPlace}
use Rattle.kpn_command_stream.proofs.places.has_input.Given as goal

abbrev pub invariant-loop-place : goal.invariant-loop-place
invariant-loop-place g l =
    All (λ (place : EndPlace). g.S.Ports.are_two_inputs l.shelf place.name.now l.name) (take l.place-index l.places)
