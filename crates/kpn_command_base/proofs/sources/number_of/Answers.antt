-- An end has fewer such ends before it than there are.
use Rattle.kpn_command_base.proofs.Common.{◌≡◌, ◌<◌, true, length, take, count_by, sym, ap, ◌∙◌, arith, channel_at, is_end, ends_of}
use Rattle.kpn_command_base.proofs.SourceLemmas.{end_below}
use Rattle.kpn_command_base.proofs.sources.number_of.Goals as goal

pub returns-then-eq-clause-there : goal.returns-then-eq-clause-there
returns-then-eq-clause-there c =
    let t = c.args.document.now.tables in
    let channel = c.loop-channel.channel in
    let is_one = is_end c.args.ends in
    let same : c.network-network.result.now ≡ t = c.network-network.ensures in
    let is : is_one (channel_at t channel) ≡ true =
    ap (λ n. is_one (channel_at n channel)) (sym same) ∙ sym c.is_end.ensures ∙ c.if-is_end.true in
    let long = ap (λ n. length n.channels) same in
    let below : channel < length t.channels =
    omega (arith, c.channels-channel-end.ensures, long, c.loop-channel-test.true) in
    let most : count_by is_one (take channel t.channels) < ends_of c.args.ends t =
    end_below is_one t channel below is in
    omega (arith, most, c.loop-channel.invariant.count)
