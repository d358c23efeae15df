use Rattle.kpn_region.proofs.Common.{◌<◌, length, get_or, inl, sym, ap, ◌∙◌, subst, get_or_read, IsBatch, IsFresh, batch_of, slice_set, true, None, IsTrue, program_of, fits, no_frame, same_size}
use Rattle.kpn_region.proofs.Batches.{process_claimed}
use Rattle.kpn_region.proofs.batch.Batch.claim_process.Given as given
use Rattle.kpn_region.proofs.batch.Batch.claim_process.Goals as goal
use Rattle.kpn_region.proofs.batch.Batch.claim_process.Goals.{After-copy_from-2}

pub copy_from-requires : goal.copy_from-requires
copy_from-requires g c =
    let s = c.self.inside in
    let t = s.network.now in
    let p = c.args.p in
    let there : p < length t.instances =
    subst (λ b. p < length b.tables.instances) (sym c.self.view_is) c.requires.process in
    let framed : p < length s.first.items = subst (λ k. p < k) (sym c.self.invariant.0.was.frames) there in
    let own = get_or_read s.first.items p c.index_mut-first.result.now framed c.index_mut-first.ensures.value no_frame in
    inl (same_size (program_of t p) c.args.frame.now (get_or s.first.items p no_frame)
    (subst (λ b. IsTrue (fits (program_of b.tables p) c.args.frame.now)) (sym c.self.view_is) c.requires.fits)
    (c.self.invariant.0.was.fit p there) ∙ ap (λ f. length f.variables) (sym own))

pub copy_from-requires-2 : goal.copy_from-requires-2
copy_from-requires-2 g c =
    let s = c.self.inside in
    let t = s.network.now in
    let p = c.args.p in
    let there : p < length t.instances =
    subst (λ b. p < length b.tables.instances) (sym c.self.view_is) c.requires.process in
    let framed : p < length s.frames.items = subst (λ k. p < k) (sym c.self.invariant.0.is.frames) there in
    let own = get_or_read s.frames.items p c.index_mut-now.result.now framed c.index_mut-now.ensures.value no_frame in
    inl (same_size (program_of t p) c.args.frame.now (get_or s.frames.items p no_frame)
    (subst (λ b. IsTrue (fits (program_of b.tables p) c.args.frame.now)) (sym c.self.view_is) c.requires.fits)
    (c.self.invariant.0.is.fit p there) ∙ ap (λ f. length f.variables) (sym own))

after : (g : given.Over) (c : After-copy_from-2 g)
    → IsBatch (batch_of c.self.inside.network.now (slice_set c.self.inside.within.items c.args.p true)
    (slice_set c.self.inside.first.items c.args.p c.copy_from.new.self)
    (slice_set c.self.inside.frames.items c.args.p c.copy_from-2.new.self) c.self.inside.traffic.sides.items
    c.self.inside.traffic.events.items (slice_set c.self.inside.stops.items c.args.p None))
after g c =
    let s = c.self.inside in
    process_claimed s.network.now s.within.items s.first.items s.frames.items s.traffic.sides.items
    s.traffic.events.items s.stops.items c.self.invariant.0 (subst IsFresh (sym c.self.view_is) c.requires.fresh)
    c.args.p c.args.frame.now c.copy_from.new.self c.copy_from-2.new.self
    (subst (λ b. IsTrue (fits (program_of b.tables c.args.p) c.args.frame.now)) (sym c.self.view_is) c.requires.fits)
    c.copy_from.ensures c.copy_from-2.ensures

pub invariant_of-self : goal.invariant_of-self
invariant_of-self g c = (after g (goal.at.invariant_of-self g c).After-copy_from-2, c.self.invariant.1)

pub invariant_of-self-else-ready : goal.invariant_of-self-else-ready
invariant_of-self-else-ready g c =
    (after g (goal.at.invariant_of-self-else-ready g c).After-copy_from-2, c.self.invariant.1)
