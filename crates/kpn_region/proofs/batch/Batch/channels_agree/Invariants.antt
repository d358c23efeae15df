use Rattle.kpn_region.proofs.Common.{ℕ, ◌<◌, channel_in, side_at, ChannelAgrees}
use Rattle.kpn_region.proofs.batch.Batch.channels_agree.Given as goal

abbrev pub invariant-channels : goal.invariant-channels
invariant-channels g l =
    (d : ℕ) → d < l.c → ChannelAgrees l.self.tables d (side_at l.self.now d) (channel_in l.machine d)
