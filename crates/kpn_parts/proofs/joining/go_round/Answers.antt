use Rattle.std.proofs.Common.{◌<◌, length, ◌∙◌, rules}
use Rattle.kpn_parts.proofs.Merging.{round_start, round_next, round_all}
use Rattle.kpn_parts.proofs.joining.go_round.Goals as goal

pub loop-r-init : goal.loop-r-init
loop-r-init c =
    round_start c.args.histories.now c.args.links.now c.args.at.now.items c.args.order.now.items
    c.args.carried.now.items c.requires

pub loop-r-preserved : goal.loop-r-preserved
loop-r-preserved c =
    let below : c.loop-r.r < length c.args.histories.now = search rules in
    round_next c.args.histories.now c.args.links.now c.args.order.now.items c.loop-r.at.items c.loop-r.order.items
    c.go_on.new.order.items c.loop-r.carried.items c.go_on.new.carried.items c.loop-r.r c.in_ok-to.to _
    c.as_slice.result.now (c.as_slice.ensures ∙ c.index-histories-r.is) c.loop-r.invariant below
    c.in_ok-to.ensures.own c.in_ok-to.ensures.other c.in_ok-to.ensures.begins c.in_ok-to.ensures.links
    c.in_ok-to.ensures.still

pub returns-clause-idle : goal.returns-clause-idle
returns-clause-idle c =
    round_all c.args.histories.now c.args.links.now c.args.order.now.items c.loop-r.at.items c.loop-r.order.items
    c.loop-r.carried.items c.loop-r.r c.loop-r.invariant c.loop-r-test.false
