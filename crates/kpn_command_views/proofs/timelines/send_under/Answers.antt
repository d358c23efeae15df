-- Events of version 1 grow by its rules.
use Rattle.kpn_command_views.proofs.Common.{OnOk, ap, ◌∙◌, subst, Appends, Tables, under, Cycles, timeline}
use Rattle.kpn_net.specs.declared.tables.Growth.TheVariants as growth
use Rattle.kpn_command_views.proofs.timelines.send_under.Goals as goal

pub returns-in-Two : goal.returns-in-Two
returns-in-Two g c =
    let contents = g.W.Write.contents in
    rw c.in-Two.is
    (subst (λ (t : Tables). OnOk c.send_timeline-in-Two.result
    (Appends (contents c.args.out.now) (contents c.send_timeline-in-Two.new.out)
    (timeline c.args.document.now t c.args.waits.now c.args.events.now)))
    c.network-network.ensures c.send_timeline-in-Two.ensures)

pub returns-in_ok-plain-in-One : goal.returns-in_ok-plain-in-One
returns-in_ok-plain-in-One g c =
    let d = c.args.document.now in
    let events = c.args.events.now in
    let contents = g.W.Write.contents in
    rw c.in-One.is
    (subst (λ (t : Tables). OnOk c.send_timeline.result
    (Appends (contents c.args.out.now) (contents c.send_timeline.new.out) (timeline d t c.args.waits.now events)))
    (c.in_ok-plain-in-One.ensures ∙ ap (under Cycles growth.One) c.network-network.ensures) c.send_timeline.ensures)
