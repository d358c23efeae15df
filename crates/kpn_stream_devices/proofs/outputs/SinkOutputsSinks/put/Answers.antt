-- The output takes the item.
use Rattle.kpn_stream_devices.proofs.Common.{◌∙◌, sym, refl, rules, ap, subst, w64, SFits, to_z-of_z, by_output, output_of, Takes}
use Rattle.std.specs.Prelude.{ℤ}
use Rattle.kpn_stream_devices.proofs.outputs.SinkOutputsSinks.put.Goals as goal

pub returns : goal.returns
returns g c =
    let fits : SFits w64 c.args.item = search rules in
    by_output c.in-Some.i c.index_mut.result.now c.put_to.new.output
    (ap (λ os. output_of os c.args.sink) (sym c.deref.ensures.value) ∙ sym c.output_of.ensures ∙ c.in-Some.is)
    (search rules) c.put_to.ensures.channel c.put_to.ensures.format c.put_to.ensures.only
    (subst (λ (v : ℤ). Takes g.O.Write.contents g.G.Write.contents v c.put_to.result
    c.args.self.now.standard.now c.index_mut.result.now c.put_to.new.standard c.put_to.new.output)
    (to_z-of_z w64 c.args.item fits) (c.put_to.ensures.taken, c.put_to.ensures.few)) refl refl refl
