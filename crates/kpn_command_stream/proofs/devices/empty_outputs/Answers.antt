-- One file more holds nothing.
use Rattle.kpn_command_stream.proofs.Common.{◌≡◌, ◌<◌, length, get_or, subst, rules, IsEmptied, IsOutputFor}
use Rattle.kpn_command_stream.proofs.Listing.{zipped_set, all_more, still_for}
use Rattle.kpn_command_stream.proofs.devices.empty_outputs.Goals as goal

pub loop-i-preserved : goal.loop-i-preserved
loop-i-preserved g c =
    let outputs = c.loop-i.outputs.items in
    let below : c.loop-i.i < length outputs = search rules in
    let at : get_or outputs c.loop-i.i c.index_mut.result.now ≡ c.index_mut.result.now = search rules in
    let emptied = c.in_ok-empty_output.ensures in (
      (λ request are.
          zipped_set (IsOutputFor g.S.Ports.goes_to request) c.args.places.now.sinks.items outputs c.loop-i.i
          c.index_mut.result.now c.empty_output.new.output (c.loop-i.invariant.0 request are) below
          (λ place is.
          still_for g.S.Ports.goes_to request place c.index_mut.result.now c.empty_output.new.output emptied.channel
          emptied.format emptied.bytes emptied.name
          (subst (λ output. IsOutputFor g.S.Ports.goes_to request place output) at is))),
      all_more (IsEmptied g.S.Output.Write.contents) outputs c.loop-i.i c.empty_output.new.output c.loop-i.invariant.1
          below emptied.emptied,
    )
