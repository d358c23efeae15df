use Rattle.kpn_stream.proofs.Common.{rules, ◌<◌, ◌≤◌, length, is_source, source_there, IsUnwanted}
use Rattle.kpn_stream.proofs.Handling.{listed, one_more_end, all_ends}
use Rattle.kpn_stream.proofs.reading.least_open.Goals as goal

pub is_due-requires : goal.is_due-requires
is_due-requires c =
    let items = c.args.ends.now.sources.items in
    let below : c.sources.i < length items = search rules in
    (listed is_source c.args.book.now.tables items c.sources.i c.index-c.result.now c.requires below
    c.index-c.ensures).1

pub sources-preserved : goal.sources-preserved
sources-preserved c =
    let items = c.args.ends.now.sources.items in
    let below : c.sources.i < length items = search rules in
    one_more_end (IsUnwanted c.args.book.now) items c.sources.i c.index-c.result.now below c.index-c.ensures
    c.sources.invariant (c.is_due.ensures.not_due c.if-is_due.false)

pub returns-clause-none : goal.returns-clause-none
returns-clause-none c = λ d is.
    let items = c.args.ends.now.sources.items in
    let past : length items ≤ c.sources.i = search rules in
    all_ends is_source c.args.book.now.tables (IsUnwanted c.args.book.now) items c.sources.i c.requires past
    c.sources.invariant d (source_there c.args.book.now.tables d is) is

pub returns-then-is_due-clause-open : goal.returns-then-is_due-clause-open
returns-then-is_due-clause-open c =
    let items = c.args.ends.now.sources.items in
    let below : c.sources.i < length items = search rules in
    record {
      source = (listed is_source c.args.book.now.tables items c.sources.i c.index-c.result.now c.requires below
          c.index-c.ensures).0;
      not_closed = c.is_due.ensures.open c.if-is_due.true;
    }
