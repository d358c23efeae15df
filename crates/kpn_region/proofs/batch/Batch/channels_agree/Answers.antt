use Rattle.kpn_region.proofs.Common.{◌≡◌, ◌<◌, true, false, length, ap, subst, inl, inr, arith, rules, both_ways, cases_lt, false≢true, channel_in, side_at, ChannelAgrees}
use Rattle.kpn_region.proofs.batch.Batch.channels_agree.Goals as goal

pub channel_agrees-requires-clause-channel : goal.channel_agrees-requires-clause-channel
channel_agrees-requires-clause-channel g c =
    let count = ap (λ t. length t.channels) c.network-network.ensures in
    let below : c.channels.c < length c.network-network.result.now.channels = search rules in
    omega (arith, count, below)

pub returns-then-not-channel_agrees : goal.returns-then-not-channel_agrees
returns-then-not-channel_agrees g c =
    let not_so : c.channel_agrees.result ≡ false = search rules in
    let count = ap (λ t. length t.channels) c.network-network.ensures in
    let below : c.channels.c < length c.network-network.result.now.channels = search rules in (
      λ is. absurd (false≢true is),
      λ all.
          absurd (both_ways c.channel_agrees.result not_so
          (c.channel_agrees.ensures.1 (all c.channels.c (omega (arith, count, below))))),
    )

pub channels-preserved : goal.channels-preserved
channels-preserved g c d below =
    let so : c.channel_agrees.result ≡ true = search rules in
    elim (cases_lt d c.channels.c) [
      | inl before ↦ c.channels.invariant d before
      | inr behind ↦
          subst (λ k. ChannelAgrees c.args.self.now.tables k (side_at c.args.self.now.now k)
          (channel_in c.args.machine.now k)) (omega (arith, below, behind)) (c.channel_agrees.ensures.0 so)
    ]
