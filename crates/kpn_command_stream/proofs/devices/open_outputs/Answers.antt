-- One output more.
use Rattle.kpn_command_stream.proofs.Common.{◌<◌, ◌+◌, length, take, sym, subst, rules, AllZip, IsOutputFor}
use Rattle.kpn_command_stream.proofs.Listing.{zipped_more}
use Rattle.kpn_command_stream.proofs.devices.open_outputs.Goals as goal

pub loop-i-preserved : goal.loop-i-preserved
loop-i-preserved g c =
    let places = c.args.places.now.sinks.items in
    let below : c.loop-i.i < length places = search rules in
    subst (λ xs. AllZip (IsOutputFor g.S.Ports.goes_to c.args.request.now) (take (c.loop-i.i + 1) places) xs)
    (sym c.in_ok-push.ensures.items)
    (zipped_more (IsOutputFor g.S.Ports.goes_to c.args.request.now) places c.loop-i.outputs.items c.loop-i.i
    c.index-place.result.now c.in_ok-output.output c.loop-i.invariant below c.index-place.ensures c.in_ok-output.ensures.output)
