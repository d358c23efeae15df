-- The input is looked at.
use Rattle.kpn_stream_devices.proofs.Common.{◌∙◌, sym, refl, rules, ap, at_input, input_of}
use Rattle.kpn_stream_devices.proofs.inputs.SourceInputsSources.look.Goals as goal

pub returns-clause-looks : goal.returns-clause-looks
returns-clause-looks g c =
    at_input c.in-Some.i c.index_mut.result.now c.look_at.new.input
    (ap (λ is. input_of is c.args.source) (sym c.deref.ensures.value) ∙ sym c.input_of.ensures ∙ c.in-Some.is)
    (search rules)
    c.look_at.ensures.looks refl refl refl
