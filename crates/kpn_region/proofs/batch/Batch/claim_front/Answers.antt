use Rattle.kpn_region.proofs.Common.{◌≡◌, ◌∙◌, sym, subst, ap, is_ok, cond, map, slice_set, take, readable, no_side, claimed_with, as_claimed, with_side, Batch, IsFresh}
use Rattle.kpn_region.proofs.Batches.{local_of, claims_whole, channel_claimed, channel_fresh, channel_is_claimed}
use Rattle.kpn_region.proofs.batch.Batch.claim_front.Given as given
use Rattle.kpn_region.proofs.batch.Batch.claim_front.Goals as goal
use Rattle.kpn_region.proofs.batch.Batch.claim_front.Goals.{After-claim_front}

whole : (g : given.Over) (c : After-claim_front g) → as_claimed c.claim_front.new.self ≡ c.claim_front.new.self
whole g c =
    ap as_claimed c.claim_front.ensures
    ∙ claims_whole (is_ok c.claim_front.result) (take c.args.n (readable c.args.channel.now)) c.args.room
    c.args.drains
    ∙ sym c.claim_front.ensures

pub invariant_of-self : goal.invariant_of-self
invariant_of-self g c =
    let s = c.self.inside in (
      channel_claimed s.network.now s.within.items s.first.items s.frames.items s.traffic.sides.items
          s.traffic.events.items s.stops.items c.self.invariant.0 (subst IsFresh (sym c.self.view_is) c.requires.fresh)
          c.args.c c.claim_front.new.self (whole g (goal.at.invariant_of-self g c).After-claim_front),
      c.self.invariant.1,
    )

pub returns-clause-fresh : goal.returns-clause-fresh
returns-clause-fresh g c =
    let s = c.self.inside in
    channel_fresh s.network.now s.within.items s.first.items s.frames.items s.traffic.sides.items
    s.traffic.events.items s.stops.items c.self.invariant.0 (subst IsFresh (sym c.self.view_is) c.requires.fresh)
    c.args.c c.claim_front.new.self (whole g (goal.at.returns-clause-fresh g c).After-claim_front)

pub returns-clause-claims : goal.returns-clause-claims
returns-clause-claims g c =
    let s = c.self.inside in
    let side = cond (is_ok c.claim_front.result)
    (claimed_with (take c.args.n (readable c.args.channel.now)) c.args.room c.args.drains) no_side in
    let now = local_of s.within.items s.first.items
    (map as_claimed (slice_set s.traffic.sides.items c.args.c c.claim_front.new.self)) in
    subst (λ (b : Batch). now ≡ with_side c.args.c side b.first) c.self.view_is
    (channel_is_claimed s.network.now s.within.items s.first.items s.frames.items s.traffic.sides.items
    s.traffic.events.items s.stops.items c.self.invariant.0 (subst IsFresh (sym c.self.view_is) c.requires.fresh)
    c.args.c c.claim_front.new.self (whole g (goal.at.returns-clause-claims g c).After-claim_front)
    ∙ ap (λ x. with_side c.args.c x (local_of s.within.items s.first.items
    (map as_claimed s.traffic.sides.items))) c.claim_front.ensures)
