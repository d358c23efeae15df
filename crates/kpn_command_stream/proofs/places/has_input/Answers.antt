-- One place more has another input.
use Rattle.kpn_command_stream.specs.declared.places.EndPlace.{EndPlace}
use Rattle.kpn_command_stream.proofs.Listing.{all_next}
use Rattle.kpn_command_stream.proofs.places.has_input.Goals as goal

pub loop-place-preserved : goal.loop-place-preserved
loop-place-preserved g c =
    all_next (λ (place : EndPlace). g.S.Ports.are_two_inputs c.args.shelf.now place.name.now c.args.name.now)
    c.args.places.now c.loop-place.place-index _ c.loop-place-test.true c.loop-place.invariant
    (c.is_one_input.ensures.two c.if-is_one_input.false)

pub returns-then-is_one_input-clause-shared : goal.returns-then-is_one_input-clause-shared
returns-then-is_one_input-clause-shared g c = λ _ all.
    all c.loop-place.place-index _ c.loop-place-test.true (c.is_one_input.ensures.one c.if-is_one_input.true)
