-- The output hands on what it kept.
use Rattle.kpn_stream_devices.proofs.Common.{◌∙◌, sym, refl, rules, ap, by_output, output_of}
use Rattle.kpn_stream_devices.proofs.outputs.SinkOutputsSinks.flush.Goals as goal

pub returns : goal.returns
returns g c =
    by_output c.in-Some.i c.index_mut.result.now c.hand_on.new.output
    (ap (λ os. output_of os c.args.sink) (sym c.deref.ensures.value) ∙ sym c.output_of.ensures ∙ c.in-Some.is)
    (search rules)
    c.hand_on.ensures.channel c.hand_on.ensures.format c.hand_on.ensures.only c.hand_on.ensures.handed_on refl refl refl
