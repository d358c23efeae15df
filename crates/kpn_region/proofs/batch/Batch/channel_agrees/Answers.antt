use Rattle.kpn_region.proofs.Common.{◌≡◌, ℕ, ◌≤◌, Some, refl, sym, subst, ChannelState, SideState, side_at, ChannelAgrees}
use Rattle.kpn_region.proofs.Comparing.{unseen_agrees}
use Rattle.kpn_region.proofs.batch.Batch.channel_agrees.Goals as goal

pub returns-then-is_unseen : goal.returns-then-is_unseen
returns-then-is_unseen g c =
    let t = c.args.self.now.tables in
    let n = c.args.c in
    let unseen = c.is_unseen.ensures in
    let told = c.if-is_unseen.true in
    let channel = c.channel-channel.result.now in
    let within = subst (λ (x : ChannelState). (cap : ℕ) → x.capacity ≡ Some cap → x.most ≤ cap)
    (sym c.channel-channel.ensures) (λ cap is. c.requires.shape.within n cap c.requires.channel is) in (
      λ is.
          subst (ChannelAgrees t n (side_at c.args.self.now.now n)) c.channel-channel.ensures
          (subst (λ (s : SideState). ChannelAgrees t n s channel) c.side-side.ensures
          (unseen_agrees t n c.side-side.result.now channel (unseen.items told) (unseen.claimed told)
          (unseen.taken told) (unseen.room told) (unseen.drained told) c.known.ensures.most within)),
      λ agrees. refl,
    )
