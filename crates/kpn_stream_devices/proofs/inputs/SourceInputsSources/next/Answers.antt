-- The input answers.
use Rattle.kpn_stream_devices.proofs.Common.{◌∙◌, sym, refl, rules, ap, by_input, input_of}
use Rattle.kpn_stream_devices.proofs.inputs.SourceInputsSources.next.Goals as goal

pub returns : goal.returns
returns g c =
    by_input c.in-Some.i c.index_mut.result.now c.next_of.new.input
    (ap (λ is. input_of is c.args.source) (sym c.deref.ensures.value) ∙ sym c.input_of.ensures ∙ c.in-Some.is)
    (search rules)
    c.next_of.ensures refl refl refl
