use Rattle.kpn_stream.proofs.Common.{None, sym, ap, ◌∙◌, is_source, end_numbers}
use Rattle.kpn_stream.proofs.Going.{none_of, serves_goes_on, serves_on, serves_taken, reads_flushed}
use Rattle.kpn_stream.proofs.Seeing.{stepless-trans, stepless_serves, stepless_read}
use Rattle.kpn_stream.proofs.reading.wait_for_one.Goals as goal

pub returns-then-is_some-clause-goes_on : goal.returns-then-is_some-clause-goes_on
returns-then-is_some-clause-goes_on g c =
    serves_goes_on g.S.Sources.gives g.S.Sources.looks g.S.Sources.at_hand g.K.Sinks.takes g.K.Sinks.flushes
    c.args.limits.now
    c.flush_all-ended.result c.args.book.now c.flush_all-ended.new.book c.args.sources.now c.args.sinks.now
    c.flush_all-ended.new.sinks c.flush_all-ended.ensures.serves

pub returns-then-not-is_idle-clause-goes_on : goal.returns-then-not-is_idle-clause-goes_on
returns-then-not-is_idle-clause-goes_on g c =
    serves_goes_on g.S.Sources.gives g.S.Sources.looks g.S.Sources.at_hand g.K.Sinks.takes g.K.Sinks.flushes
    c.args.limits.now _
    c.args.book.now c.flush_all-ended.new.book c.args.sources.now c.args.sinks.now c.flush_all-ended.new.sinks
    (serves_on g.K.Sinks.takes g.K.Sinks.flushes c.args.limits.now c.flush_all-ended.result c.args.book.now
    c.flush_all-ended.new.book c.args.sinks.now c.flush_all-ended.new.sinks (sym c.is_some.ensures ∙ c.if-is_some.false)
    c.flush_all-ended.ensures.serves)

pub source_due-requires-clause-sources : goal.source_due-requires-clause-sources
source_due-requires-clause-sources g c =
    c.requires.sources ∙ ap (end_numbers is_source) (sym c.flush_all-ended.ensures.serves.besides.tables)

pub source_due-requires-clause-taken : goal.source_due-requires-clause-taken
source_due-requires-clause-taken g c =
    serves_taken g.K.Sinks.takes g.K.Sinks.flushes c.args.limits.now c.flush_all-ended.result c.args.book.now
    c.flush_all-ended.new.book c.args.sinks.now c.flush_all-ended.new.sinks c.flush_all-ended.ensures.serves
    c.requires.taken

pub returns-in_default-clause-goes_on : goal.returns-in_default-clause-goes_on
returns-in_default-clause-goes_on g c =
    serves_goes_on g.S.Sources.gives g.S.Sources.looks g.S.Sources.at_hand g.K.Sinks.takes g.K.Sinks.flushes
    c.args.limits.now _
    c.args.book.now c.flush_all-ended.new.book c.args.sources.now c.args.sinks.now c.flush_all-ended.new.sinks
    (serves_on g.K.Sinks.takes g.K.Sinks.flushes c.args.limits.now c.flush_all-ended.result c.args.book.now
    c.flush_all-ended.new.book c.args.sinks.now c.flush_all-ended.new.sinks (sym c.is_some.ensures ∙ c.if-is_some.false)
    c.flush_all-ended.ensures.serves)

pub returns-clause-goes_on : goal.returns-clause-goes_on
returns-clause-goes_on g c =
    reads_flushed g.S.Sources.gives g.S.Sources.looks g.S.Sources.at_hand g.K.Sinks.takes g.K.Sinks.flushes
    c.args.limits.now
    c.first_to_come-c.result c.read.result c.args.book.now c.flush_all-ended.new.book c.read.new.book
    c.args.sources.now c.first_to_come-c.new.sources c.read.new.sources c.args.sinks.now c.flush_all-ended.new.sinks
    c.args.ends.now.sinks.items
    (serves_on g.K.Sinks.takes g.K.Sinks.flushes c.args.limits.now c.flush_all-ended.result c.args.book.now
    c.flush_all-ended.new.book c.args.sinks.now c.flush_all-ended.new.sinks (sym c.is_some.ensures ∙ c.if-is_some.false)
    c.flush_all-ended.ensures.serves)
    c.requires.sinks
    (c.flush_all-ended.ensures.flushed (none_of c.flush_all-ended.result (sym c.is_some.ensures ∙ c.if-is_some.false)))
    (c.is_idle.ensures.stopped c.if-not-is_idle.false) c.first_to_come-c.ensures.looked c.read.ensures.reads

pub returns-then-is_some-clause-taken : goal.returns-then-is_some-clause-taken
returns-then-is_some-clause-taken g c =
    serves_taken g.K.Sinks.takes g.K.Sinks.flushes c.args.limits.now c.flush_all-ended.result c.args.book.now
    c.flush_all-ended.new.book c.args.sinks.now c.flush_all-ended.new.sinks c.flush_all-ended.ensures.serves
    c.requires.taken

pub returns-then-not-is_idle-clause-taken : goal.returns-then-not-is_idle-clause-taken
returns-then-not-is_idle-clause-taken g c =
    serves_taken g.K.Sinks.takes g.K.Sinks.flushes c.args.limits.now c.flush_all-ended.result c.args.book.now
    c.flush_all-ended.new.book c.args.sinks.now c.flush_all-ended.new.sinks c.flush_all-ended.ensures.serves
    c.requires.taken

pub returns-in_default-clause-taken : goal.returns-in_default-clause-taken
returns-in_default-clause-taken g c =
    serves_taken g.K.Sinks.takes g.K.Sinks.flushes c.args.limits.now c.flush_all-ended.result c.args.book.now
    c.flush_all-ended.new.book c.args.sinks.now c.flush_all-ended.new.sinks c.flush_all-ended.ensures.serves
    c.requires.taken

pub returns-clause-taken : goal.returns-clause-taken
returns-clause-taken g c = c.read.ensures.reads.taken

pub returns-then-not-may_wait-clause-goes_on : goal.returns-then-not-may_wait-clause-goes_on
returns-then-not-may_wait-clause-goes_on g c =
    serves_goes_on g.S.Sources.gives g.S.Sources.looks g.S.Sources.at_hand g.K.Sinks.takes g.K.Sinks.flushes
    c.args.limits.now _
    c.args.book.now c.flush_all-ended.new.book c.args.sources.now c.args.sinks.now c.flush_all-ended.new.sinks
    (serves_on g.K.Sinks.takes g.K.Sinks.flushes c.args.limits.now c.flush_all-ended.result c.args.book.now
    c.flush_all-ended.new.book c.args.sinks.now c.flush_all-ended.new.sinks (sym c.is_some.ensures ∙ c.if-is_some.false)
    c.flush_all-ended.ensures.serves)

pub returns-then-not-may_wait-clause-taken : goal.returns-then-not-may_wait-clause-taken
returns-then-not-may_wait-clause-taken g c =
    serves_taken g.K.Sinks.takes g.K.Sinks.flushes c.args.limits.now c.flush_all-ended.result c.args.book.now
    c.flush_all-ended.new.book c.args.sinks.now c.flush_all-ended.new.sinks c.flush_all-ended.ensures.serves
    c.requires.taken

pub returns-then-is_some-clause-stepless : goal.returns-then-is_some-clause-stepless
returns-then-is_some-clause-stepless g c =
    stepless_serves g.K.Sinks.takes g.K.Sinks.flushes c.args.limits.now c.flush_all-ended.result
    c.args.book.now c.flush_all-ended.new.book c.args.sinks.now c.flush_all-ended.new.sinks
    c.flush_all-ended.ensures.serves

pub returns-then-not-is_idle-clause-stepless : goal.returns-then-not-is_idle-clause-stepless
returns-then-not-is_idle-clause-stepless g c =
    stepless_serves g.K.Sinks.takes g.K.Sinks.flushes c.args.limits.now None
    c.args.book.now c.flush_all-ended.new.book c.args.sinks.now c.flush_all-ended.new.sinks
    (serves_on g.K.Sinks.takes g.K.Sinks.flushes c.args.limits.now c.flush_all-ended.result
    c.args.book.now c.flush_all-ended.new.book c.args.sinks.now c.flush_all-ended.new.sinks
    (sym c.is_some.ensures ∙ c.if-is_some.false) c.flush_all-ended.ensures.serves)

pub returns-then-not-may_wait-clause-stepless : goal.returns-then-not-may_wait-clause-stepless
returns-then-not-may_wait-clause-stepless g c =
    stepless_serves g.K.Sinks.takes g.K.Sinks.flushes c.args.limits.now None
    c.args.book.now c.flush_all-ended.new.book c.args.sinks.now c.flush_all-ended.new.sinks
    (serves_on g.K.Sinks.takes g.K.Sinks.flushes c.args.limits.now c.flush_all-ended.result
    c.args.book.now c.flush_all-ended.new.book c.args.sinks.now c.flush_all-ended.new.sinks
    (sym c.is_some.ensures ∙ c.if-is_some.false) c.flush_all-ended.ensures.serves)

pub returns-in_default-clause-stepless : goal.returns-in_default-clause-stepless
returns-in_default-clause-stepless g c =
    stepless_serves g.K.Sinks.takes g.K.Sinks.flushes c.args.limits.now None
    c.args.book.now c.flush_all-ended.new.book c.args.sinks.now c.flush_all-ended.new.sinks
    (serves_on g.K.Sinks.takes g.K.Sinks.flushes c.args.limits.now c.flush_all-ended.result
    c.args.book.now c.flush_all-ended.new.book c.args.sinks.now c.flush_all-ended.new.sinks
    (sym c.is_some.ensures ∙ c.if-is_some.false) c.flush_all-ended.ensures.serves)

pub returns-clause-stepless : goal.returns-clause-stepless
returns-clause-stepless g c =
    stepless-trans None c.read.result c.args.book.now c.flush_all-ended.new.book c.read.new.book
    (stepless_serves g.K.Sinks.takes g.K.Sinks.flushes c.args.limits.now None
    c.args.book.now c.flush_all-ended.new.book c.args.sinks.now c.flush_all-ended.new.sinks
    (serves_on g.K.Sinks.takes g.K.Sinks.flushes c.args.limits.now c.flush_all-ended.result
    c.args.book.now c.flush_all-ended.new.book c.args.sinks.now c.flush_all-ended.new.sinks
    (sym c.is_some.ensures ∙ c.if-is_some.false) c.flush_all-ended.ensures.serves))
    (stepless_read g.S.Sources.gives g.S.Sources.looks g.S.Sources.at_hand c.first_to_come-c.result c.read.result
    c.flush_all-ended.new.book c.read.new.book c.first_to_come-c.new.sources c.read.new.sources c.read.ensures.reads)
