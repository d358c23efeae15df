use Rattle.kpn_stream.proofs.Common.{sym, ap, ◌∙◌, is_source, end_numbers}
use Rattle.kpn_stream.proofs.Going.{none_of, serves_on, serves_taken, serves_ending}
use Rattle.kpn_stream.proofs.reading.rest.Goals as goal

pub ending_at_rest-requires-clause-sources : goal.ending_at_rest-requires-clause-sources
ending_at_rest-requires-clause-sources g c =
    c.requires.sources ∙ ap (end_numbers is_source) (sym c.flush_all-ended.ensures.serves.besides.tables)

pub ending_at_rest-requires-clause-taken : goal.ending_at_rest-requires-clause-taken
ending_at_rest-requires-clause-taken g c =
    serves_taken g.K.Sinks.takes g.K.Sinks.flushes c.args.limits.now c.flush_all-ended.result c.args.book.now
    c.flush_all-ended.new.book c.args.sinks.now c.flush_all-ended.new.sinks c.flush_all-ended.ensures.serves
    c.requires.taken

pub returns : goal.returns
returns g c =
    serves_ending g.K.Sinks.takes g.K.Sinks.flushes c.args.limits.now _ c.args.book.now c.flush_all-ended.new.book
    c.args.sinks.now c.flush_all-ended.new.sinks c.args.ends.now.sinks.items
    (serves_on g.K.Sinks.takes g.K.Sinks.flushes c.args.limits.now c.flush_all-ended.result c.args.book.now
    c.flush_all-ended.new.book c.args.sinks.now c.flush_all-ended.new.sinks (sym c.is_some.ensures ∙ c.if-is_some.false)
    c.flush_all-ended.ensures.serves)
    c.requires.sinks
    (c.flush_all-ended.ensures.flushed (none_of c.flush_all-ended.result (sym c.is_some.ensures ∙ c.if-is_some.false)))
    c.ending_at_rest.ensures
