-- One sink more.
use Rattle.kpn_command_stream.proofs.Common.{rules, ◌<◌, ◌∙◌, length, take, List, sym, ap, subst, ◌+◌, AllZip, is_sink, end_numbers, SinkEnd, IsSinkEnd}
use Rattle.kpn_stream.proofs.Handling.{listed}
use Rattle.kpn_command_stream.proofs.Listing.{zipped_more}
use Rattle.kpn_command_stream.proofs.summary.sink_ends.Goals as goal

pub sink_end-requires : goal.sink_end-requires
sink_end-requires c =
    let items = c.in_ok-ends.ends.sinks.items in
    let below : c.loop-i.i < length items = search rules in
    (listed is_sink c.args.book.now.tables items c.loop-i.i c.index-c.result.now
    (c.in_ok-ends.ensures.sinks ∙ ap (end_numbers is_sink) c.network.ensures) below c.index-c.ensures).1

pub loop-i-preserved : goal.loop-i-preserved
loop-i-preserved c =
    let items = c.in_ok-ends.ends.sinks.items in
    let below : c.loop-i.i < length items = search rules in
    subst (λ (sinks : List SinkEnd). AllZip (IsSinkEnd c.args.book.now) (take (c.loop-i.i + 1) items) sinks)
    (sym c.in_ok-push.ensures.items)
    (zipped_more (IsSinkEnd c.args.book.now) items c.loop-i.sinks.items c.loop-i.i c.index-c.result.now c.sink_end.result
    c.loop-i.invariant below c.index-c.ensures c.sink_end.ensures)
