use Rattle.kpn_region.proofs.Common.{◌<◌, false, None, length, get_or, replicate, ◌∙◌, sym, ap, subst, program_of, process_events, no_frame, same_size, no_side, batch_of}
use Rattle.kpn_region.proofs.Batches.{IsNew, is_new}
use Rattle.kpn_region.proofs.batch.Batch.clear.Given as given
use Rattle.kpn_region.proofs.batch.Batch.clear.Goals as goal
use Rattle.kpn_region.proofs.batch.Batch.clear.Goals.{After-clear}

pub clear_processes-requires-clause-sizes : goal.clear_processes-requires-clause-sizes
clear_processes-requires-clause-sizes g c p below =
    let s = c.self.inside in
    let t = s.network.now in
    let there : p < length t.instances = subst (λ n. p < n) c.self.invariant.0.is.within below in
    same_size (program_of t p) (get_or s.first.items p no_frame) (get_or s.frames.items p no_frame)
    (c.self.invariant.0.was.fit p there) (c.self.invariant.0.is.fit p there)

cleared : (g : given.Over) (c : After-clear g)
    → IsNew (batch_of c.self.inside.network.now c.clear_processes.new.within.items c.self.inside.first.items
    c.clear_processes.new.frames.items c.clear_sides.new.sides.items c.clear.new.self.items
    c.clear_processes.new.stops.items)
cleared g c =
    let is = c.self.invariant.0.is in
    is_new c.self.inside.network.now c.clear_processes.new.within.items c.self.inside.first.items
    c.clear_processes.new.frames.items c.clear_sides.new.sides.items c.clear.new.self.items
    c.clear_processes.new.stops.items
    (c.clear_processes.ensures.within ∙ ap (λ n. replicate n false) is.within) c.clear_processes.ensures.frames
    (c.clear_sides.ensures ∙ ap (λ n. replicate n no_side) is.sides) c.clear.ensures.items
    (c.clear_processes.ensures.stops ∙ ap (λ n. replicate n None) is.within) c.self.invariant.0.was.frames
    c.self.invariant.0.was.fit

pub invariant_of-self : goal.invariant_of-self
invariant_of-self g c =
    ((cleared g (goal.at.invariant_of-self g c).After-clear).batch, sym (ap process_events c.clear.ensures.items))

pub returns-clause-fresh : goal.returns-clause-fresh
returns-clause-fresh g c = (cleared g (goal.at.returns-clause-fresh g c).After-clear).fresh

pub returns-clause-empty : goal.returns-clause-empty
returns-clause-empty g c = (cleared g (goal.at.returns-clause-empty g c).After-clear).empty
