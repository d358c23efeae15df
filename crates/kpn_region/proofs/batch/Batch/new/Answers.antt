use Rattle.kpn_region.proofs.Common.{◌<◌, ◌∙◌, sym, ap, subst, ext_get_or, process_events, no_frame, batch_of}
use Rattle.kpn_region.proofs.Batches.{IsNew, is_new}
use Rattle.kpn_region.proofs.batch.Batch.new.Given as given
use Rattle.kpn_region.proofs.batch.Batch.new.Goals as goal
use Rattle.kpn_region.proofs.batch.Batch.new.Goals.{After-new}

made : (g : given.Over) (c : After-new g)
    → IsNew (batch_of c.args.network.now c.in_ok-within.within.items c.in_ok-first.first.items
    c.in_ok-frames.frames.items c.in_ok-sides.sides.items c.new.result.items c.in_ok-stops.stops.items)
made g c =
    let first = c.in_ok-first.ensures in
    let frames = c.in_ok-frames.ensures in
    is_new c.args.network.now c.in_ok-within.within.items c.in_ok-first.first.items c.in_ok-frames.frames.items
    c.in_ok-sides.sides.items c.new.result.items c.in_ok-stops.stops.items c.in_ok-within.ensures
    (ext_get_or no_frame c.in_ok-frames.frames.items c.in_ok-first.first.items (frames.len ∙ sym first.len)
    (λ p below. frames.each p (subst (λ n. p < n) frames.len below)
    ∙ sym (first.each p (subst (λ n. p < n) frames.len below)))) c.in_ok-sides.ensures c.new.ensures.items
    c.in_ok-stops.ensures first.len first.fit

pub invariant_of-result : goal.invariant_of-result
invariant_of-result g c =
    ((made g (goal.at.invariant_of-result g c).After-new).batch, sym (ap process_events c.new.ensures.items))

pub returns-clause-fresh : goal.returns-clause-fresh
returns-clause-fresh g c = (made g (goal.at.returns-clause-fresh g c).After-new).fresh

pub returns-clause-empty : goal.returns-clause-empty
returns-clause-empty g c = (made g (goal.at.returns-clause-empty g c).After-new).empty
