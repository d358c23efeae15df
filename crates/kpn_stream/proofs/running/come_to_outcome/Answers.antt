use Rattle.std.proofs.Common.{sym, ◌∙◌}
use Rattle.kpn_stream.proofs.Going.{none_of, serves-refl, serves_on, serves_taken, serves_ending}
use Rattle.kpn_stream.proofs.running.come_to_outcome.Goals as goal

pub returns-then-is_none : goal.returns-then-is_none
returns-then-is_none g c =
    serves-refl g.K.Sinks.takes g.K.Sinks.flushes c.args.limits.now c.args.book.now c.args.sinks.now

pub ending_of-requires : goal.ending_of-requires
ending_of-requires g c =
    serves_taken g.K.Sinks.takes g.K.Sinks.flushes c.args.limits.now c.flush_all-ended.result c.args.book.now
    c.flush_all-ended.new.book c.args.sinks.now c.flush_all-ended.new.sinks c.flush_all-ended.ensures.serves
    c.requires.taken

pub returns : goal.returns
returns g c =
    serves_ending g.K.Sinks.takes g.K.Sinks.flushes c.args.limits.now _ c.args.book.now c.flush_all-ended.new.book
    c.args.sinks.now c.flush_all-ended.new.sinks c.args.ends.now.sinks.items
    (serves_on g.K.Sinks.takes g.K.Sinks.flushes c.args.limits.now c.flush_all-ended.result c.args.book.now
    c.flush_all-ended.new.book c.args.sinks.now c.flush_all-ended.new.sinks (sym c.is_some.ensures ∙ c.if-is_some.false)
    c.flush_all-ended.ensures.serves)
    c.requires.ends
    (c.flush_all-ended.ensures.flushed (none_of c.flush_all-ended.result (sym c.is_some.ensures ∙ c.if-is_some.false)))
    c.ending_of.ensures.well
