-- The input answers, or stays as it was.
use Rattle.std.proofs.Common.{◌∙◌, ◌≡◌, sym, refl, rules, ap, subst, Some, Ok, w64, SFits}
use Rattle.kpn_stream_devices.proofs.Common.{to_z-of_z, by_input, input_of, InputGives}
use Rattle.kpn_stream_devices.proofs.Devices.{unchanged}
use Rattle.kpn_stream_devices.proofs.inputs.SourceInputsSources.next_at_hand.Goals as goal

pub returns-in_default-clause-as_before : goal.returns-in_default-clause-as_before
returns-in_default-clause-as_before g c =
    unchanged c.args.self.now c.in_ok-i.i c.item_at_hand.new.input c.item_at_hand.new.input
    (c.in_default.ensures.as_before ∙ search rules)

pub returns-clause-item : goal.returns-clause-item
returns-clause-item g c =
    let fits : SFits w64 c.in-Some.item = search rules in
    by_input c.in_ok-i.i c.index_mut.result.now c.item_at_hand.new.input
    (ap (λ is. input_of is c.args.source) (sym c.deref.ensures.value) ∙ sym c.input_of.ensures ∙ c.in_ok-i.was)
    (search rules)
    (subst (λ v. InputGives g.I.Read.remaining g.F.Read.remaining c.args.self.now.standard.now c.index_mut.result.now
    (Ok (Some v)) c.args.self.now.standard.now c.item_at_hand.new.input) (sym (to_z-of_z w64 c.in-Some.item fits))
    c.in-Some.ensures.gives) refl refl refl
