use Rattle.kpn_region.proofs.Common.{◌≡◌, ◌<◌, length, sym, ap, ◌∙◌, subst, arith, side_at, ChannelAgrees, JoinsChannels}
use Rattle.kpn_region.proofs.Piecewise.{none_joined, one_more_joined}
use Rattle.kpn_region.proofs.batch.Batch.join_channels.Goals as goal

pub channels-init : goal.channels-init
channels-init g c = none_joined c.args.self.now c.args.machine.now c.requires.shape.waits

pub join_channel-requires-clause-agrees : goal.join_channel-requires-clause-agrees
join_channel-requires-clause-agrees g c =
    let b = c.args.self.now in
    let n = c.channels.c in
    let same = ap (λ t. length t.channels) c.network-network.ensures in
    let below : n < length b.tables.channels = omega (arith, same, c.channels-c-end.ensures, c.channels-test.true) in
    subst (λ x. ChannelAgrees b.tables n (side_at b.now n) x) (sym (c.channels.invariant.others n (omega arith)))
    (c.requires.agrees.channels n below)

pub join_channel-requires-clause-channels : goal.join_channel-requires-clause-channels
join_channel-requires-clause-channels g c = c.channels.invariant.channels ∙ c.requires.shape.channels

pub channels-preserved : goal.channels-preserved
channels-preserved g c =
    let b = c.args.self.now in
    let before = c.args.machine.now in
    let same = ap (λ t. length t.channels) c.network-network.ensures in
    let there : c.channels.c < length before.channels =
    omega (arith, same, c.channels-c-end.ensures, c.channels-test.true, c.requires.shape.channels) in
    one_more_joined b before c.channels.c c.channels.machine c.join_channel.new.machine
    c.channels.invariant there c.join_channel.ensures

pub returns : goal.returns
returns g c =
    let b = c.args.self.now in
    let same = ap (λ t. length t.channels) c.network-network.ensures in
    let all : c.channels.c ≡ length b.tables.channels =
    omega (arith, same, c.channels-c-end.ensures, c.channels-test.false, c.channels.auto.c-end) in
    subst (λ n. JoinsChannels b n c.args.machine.now c.channels.machine) all c.channels.invariant
