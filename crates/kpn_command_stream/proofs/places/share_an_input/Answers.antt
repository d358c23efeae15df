-- One place more has an input of its own.
use Rattle.kpn_command_stream.specs.declared.places.EndPlace.{EndPlace}
use Rattle.kpn_command_stream.proofs.Listing.{pairs_next}
use Rattle.kpn_command_stream.proofs.Worded.{pairs_first}
use Rattle.kpn_command_stream.proofs.places.share_an_input.Goals as goal

pub loop-i-preserved : goal.loop-i-preserved
loop-i-preserved g c =
    pairs_next
    (λ (earlier later : EndPlace). g.S.Ports.are_two_inputs c.args.shelf.now earlier.name.now later.name.now)
    c.args.places.now c.loop-i.i _ c.loop-i-test.true c.loop-i.invariant (c.has_input.ensures.own c.if-has_input.false)

pub returns-then-has_input-clause-shared : goal.returns-then-has_input-clause-shared
returns-then-has_input-clause-shared g c = λ _ apart.
    c.has_input.ensures.shared c.if-has_input.true
    (pairs_first (λ (earlier later : EndPlace). ¬ g.S.Ports.may_share c.args.shelf.now earlier.name.now later.name.now)
    c.args.places.now c.loop-i.i _ c.loop-i-test.true apart)
