use Rattle.kpn_stream.proofs.Common.{sym, subst, ◌∙◌, ReadsInTurn, none_yet_read, once_more_read}
use Rattle.kpn_stream.proofs.Batches.{in_turn}
use Rattle.kpn_stream.proofs.Going.{none_of}
use Rattle.kpn_stream.proofs.reading.read_in_turn.Goals as goal

pub returns-then-is_some : goal.returns-then-is_some
returns-then-is_some g c =
    once_more_read c.read-ended.result c.args.book.now c.read-ended.new.book c.args.sources.now c.read-ended.new.sources
    none_yet_read c.requires.at_hand c.read-ended.ensures.reads

pub returns : goal.returns
returns g c =
    in_turn g.S.Sources.gives g.S.Sources.looks g.S.Sources.at_hand c.args.c c.args.book.now c.read-ended.new.book
    c.args.sources.now c.read-ended.new.sources
    (subst (λ e. ReadsInTurn g.S.Sources.gives g.S.Sources.looks g.S.Sources.at_hand c.args.c c.args.book.now
    c.args.sources.now e c.read-ended.new.book c.read-ended.new.sources)
    (none_of c.read-ended.result (sym c.is_some.ensures ∙ c.if-is_some.false))
    (once_more_read c.read-ended.result c.args.book.now c.read-ended.new.book c.args.sources.now
    c.read-ended.new.sources none_yet_read c.requires.at_hand c.read-ended.ensures.reads))
    c.read_on.ensures
