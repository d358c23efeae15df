use Rattle.kpn_stream.proofs.Common.{rules, ◌<◌, length, is_source}
use Rattle.kpn_stream.proofs.Handling.{listed}
use Rattle.kpn_stream.proofs.looking.are_several.Goals as goal

pub is_due-requires : goal.is_due-requires
is_due-requires c =
    let items = c.args.ends.now.sources.items in
    let below : c.sources.i < length items = search rules in
    (listed is_source c.args.book.now.tables items c.sources.i c.index.result.now c.requires below c.index.ensures).1
