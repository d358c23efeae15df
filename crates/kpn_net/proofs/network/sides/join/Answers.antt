use Rattle.kpn_net.proofs.Common.{sym, append-nil, take_all}
use Rattle.kpn_net.proofs.SideLemmas.{Keeps-same, Keeps-joined}
use Rattle.kpn_net.proofs.network.sides.join.Goals as goal

pub loop-channel-init : goal.loop-channel-init
loop-channel-init c = λ ends k. Keeps-same _ ends _ (λ d. sym (append-nil (ends d))) k

pub loop-channel-preserved : goal.loop-channel-preserved
loop-channel-preserved c =
    λ ends k. Keeps-joined c.loop-channel.sides ends c.args.ports.now c.loop-channel.channel-index c.args.p _ _
    (c.loop-channel.invariant ends k) c.loop-channel-test.true
    (rw c.loop-channel.auto.sides (c.requires _ 0 c.loop-channel-test.true)) c.with.ensures

pub returns : goal.returns
returns c =
    λ ends k.
    rw (← take_all c.loop-channel.channel-index c.args.ports.now c.loop-channel-test.false)
    (c.loop-channel.invariant ends k)
