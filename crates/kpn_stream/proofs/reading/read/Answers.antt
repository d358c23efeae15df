use Rattle.kpn_stream.proofs.Common.{rules, Ok, Err, Some, None, subst, w64, SFits, IfNone, to_z-of_z, Happens}
use Rattle.kpn_history.specs.declared.event.Event.TheVariants as event
use Rattle.kpn_stream.proofs.Batches.{item_due, fed_once, closed_once}
use Rattle.kpn_stream.proofs.Handling.{reads_item, reads_end, reads_fault}
use Rattle.kpn_stream.proofs.reading.read.Goals as goal

pub returns-in-Ok-Some-clause-reads : goal.returns-in-Ok-Some-clause-reads
returns-in-Ok-Some-clause-reads g c =
    let answer : g.S.Sources.gives c.args.sources.now c.args.c (Ok (Some c.in-Ok-Some.item)) c.next.new.self =
    search rules in
    let fits : SFits w64 c.in-Ok-Some.item = search rules in
    reads_item g.S.Sources.gives g.S.Sources.looks c.args.c c.args.book.now c.args.sources.now c.next.new.self
    c.requires.taken (item_due c.args.book.now.tables c.args.book.now.history c.args.c c.requires) c.requires.may_feed.source
    c.in-Ok-Some.item c.feed.result c.feed.new.book answer
    (subst (λ v. IfNone c.feed.result (Happens (event.Feed c.args.c v) c.args.book.now c.feed.new.book))
    (to_z-of_z w64 c.in-Ok-Some.item fits) c.feed.ensures.fed)
    c.feed.ensures.refused

pub close-requires : goal.close-requires
close-requires g c = c.requires.may_feed.not_closed

pub returns-in-Ok-None-clause-reads : goal.returns-in-Ok-None-clause-reads
returns-in-Ok-None-clause-reads g c =
    let answer : g.S.Sources.gives c.args.sources.now c.args.c (Ok None) c.next.new.self = search rules in
    reads_end g.S.Sources.gives g.S.Sources.looks c.args.c c.args.book.now c.args.sources.now c.next.new.self c.requires.taken
    c.requires c.close.result c.close.new.book answer c.close.ensures.closed c.close.ensures.refused

pub returns-in-Err-clause-reads : goal.returns-in-Err-clause-reads
returns-in-Err-clause-reads g c =
    let answer : g.S.Sources.gives c.args.sources.now c.args.c (Err c.in-Err.fault) c.next.new.self = search rules in
    reads_fault g.S.Sources.gives g.S.Sources.looks c.args.c c.args.book.now c.args.sources.now c.next.new.self
    c.requires.taken c.requires c.in-Err.fault answer

pub returns-in-Ok-Some-clause-fed : goal.returns-in-Ok-Some-clause-fed
returns-in-Ok-Some-clause-fed g c =
    let reads = returns-in-Ok-Some-clause-reads g c in
    fed_once c.args.c _ c.feed.result c.args.book.now c.feed.new.book c.requires reads.besides.tables reads.taken
    c.feed.ensures.alone

pub returns-in-Ok-None-clause-fed : goal.returns-in-Ok-None-clause-fed
returns-in-Ok-None-clause-fed g c =
    closed_once c.args.c c.close.result c.args.book.now c.close.new.book c.close.ensures.closed
