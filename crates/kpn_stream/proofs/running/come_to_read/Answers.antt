use Rattle.kpn_stream.proofs.Going.{goes_on-refl, serves_goes_on, serves_taken}
use Rattle.kpn_stream.proofs.Seeing.{stepless-refl, stepless_serves}
use Rattle.kpn_stream.proofs.running.come_to_read.Goals as goal

pub returns-then-limits-commits-clause-goes_on : goal.returns-then-limits-commits-clause-goes_on
returns-then-limits-commits-clause-goes_on g c =
    serves_goes_on g.S.Sources.gives g.S.Sources.looks g.S.Sources.at_hand g.K.Sinks.takes g.K.Sinks.flushes
    c.args.limits.now c.come_to_outcome.result
    c.args.book.now c.come_to_outcome.new.book c.args.sources.now c.args.sinks.now c.come_to_outcome.new.sinks
    c.come_to_outcome.ensures

pub returns-then-commits-pace-clause-goes_on : goal.returns-then-commits-pace-clause-goes_on
returns-then-commits-pace-clause-goes_on g c =
    goes_on-refl g.S.Sources.gives g.S.Sources.looks g.S.Sources.at_hand g.K.Sinks.takes g.K.Sinks.flushes
    c.args.limits.now
    c.args.book.now c.args.sources.now c.args.sinks.now

pub returns-then-limits-commits-clause-taken : goal.returns-then-limits-commits-clause-taken
returns-then-limits-commits-clause-taken g c =
    serves_taken g.K.Sinks.takes g.K.Sinks.flushes c.args.limits.now c.come_to_outcome.result c.args.book.now
    c.come_to_outcome.new.book c.args.sinks.now c.come_to_outcome.new.sinks c.come_to_outcome.ensures c.requires.taken

pub returns-then-commits-pace-clause-taken : goal.returns-then-commits-pace-clause-taken
returns-then-commits-pace-clause-taken g c = c.requires.taken

pub returns-then-limits-commits-clause-stepless : goal.returns-then-limits-commits-clause-stepless
returns-then-limits-commits-clause-stepless g c =
    stepless_serves g.K.Sinks.takes g.K.Sinks.flushes c.args.limits.now c.come_to_outcome.result c.args.book.now
    c.come_to_outcome.new.book c.args.sinks.now c.come_to_outcome.new.sinks c.come_to_outcome.ensures

pub returns-then-commits-pace-clause-stepless : goal.returns-then-commits-pace-clause-stepless
returns-then-commits-pace-clause-stepless g c = stepless-refl c.args.book.now
