use Rattle.kpn_stream.proofs.Common.{rules, ◌≡◌, ◌<◌, ◌≤◌, true, length, sym, ◌∙◌, is_sink, is_left}
use Rattle.kpn_book.proofs.Ends.{sink_there}
use Rattle.kpn_stream.proofs.Handling.{listed, one_more_end, all_ends}
use Rattle.kpn_stream.proofs.Moments.{left_if_retired}
use Rattle.kpn_stream.proofs.taking.are_left.Goals as goal

pub is_left-requires : goal.is_left-requires
is_left-requires c =
    let items = c.args.ends.now.sinks.items in
    let below : c.sinks.i < length items = search rules in
    (listed is_sink c.args.book.now.tables items c.sinks.i c.index.result.now c.requires below c.index.ensures).1

pub sinks-preserved : goal.sinks-preserved
sinks-preserved c =
    let items = c.args.ends.now.sinks.items in
    let below : c.sinks.i < length items = search rules in
    one_more_end (λ x. is_left c.args.book.now.history x ≡ true) items c.sinks.i c.index.result.now below
    c.index.ensures
    c.sinks.invariant
    (left_if_retired c.args.book.now c.known.ensures c.index.result.now
    (listed is_sink c.args.book.now.tables items c.sinks.i c.index.result.now c.requires below c.index.ensures).0
    (sym c.is_left.ensures ∙ c.if-not-is_left.false))

pub returns : goal.returns
returns c = λ _ d is.
    let items = c.args.ends.now.sinks.items in
    let past : length items ≤ c.sinks.i = search rules in
    all_ends is_sink c.args.book.now.tables (λ x. is_left c.args.book.now.history x ≡ true) items c.sinks.i c.requires
    past c.sinks.invariant d (sink_there c.args.book.now.tables d is) is
