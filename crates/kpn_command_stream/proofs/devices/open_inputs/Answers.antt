-- One input more.
use Rattle.kpn_command_stream.proofs.Common.{◌<◌, ◌+◌, length, take, sym, subst, rules, AllZip, IsInputFor}
use Rattle.kpn_command_stream.proofs.Listing.{zipped_more}
use Rattle.kpn_command_stream.proofs.devices.open_inputs.Goals as goal

pub loop-i-preserved : goal.loop-i-preserved
loop-i-preserved g c =
    let places = c.args.places.now.sources.items in
    let below : c.loop-i.i < length places = search rules in
    let Is = IsInputFor (g.S.Shelf.may_give c.args.shelf.now) g.S.Ports.comes_from g.S.Input.Read.remaining in
    subst (λ xs. AllZip Is (take (c.loop-i.i + 1) places) xs)
    (sym c.in_ok-push.ensures.items)
    (zipped_more Is places c.loop-i.inputs.items c.loop-i.i
    c.index-place.result.now c.in_ok-input.input c.loop-i.invariant below c.index-place.ensures c.in_ok-input.ensures.input)
