use Rattle.kpn_stream.proofs.Going.{serves_goes_on, serves_taken, reads_in_turn}
use Rattle.kpn_stream.proofs.Batches.{in_turn_taken}
use Rattle.kpn_stream.proofs.Seeing.{stepless_serves, stepless_in_turn}
use Rattle.kpn_stream.proofs.reading.read_one.Goals as goal

pub returns-in_default-clause-goes_on : goal.returns-in_default-clause-goes_on
returns-in_default-clause-goes_on g c =
    serves_goes_on g.S.Sources.gives g.S.Sources.looks g.S.Sources.at_hand g.K.Sinks.takes g.K.Sinks.flushes
    c.args.limits.now c.rest.result c.args.book.now
    c.rest.new.book c.args.sources.now c.args.sinks.now c.rest.new.sinks c.rest.ensures

pub read_in_turn-requires-clause-due : goal.read_in_turn-requires-clause-due
read_in_turn-requires-clause-due g c = c.in-Some.ensures

pub returns-then-is_at_hand-clause-goes_on : goal.returns-then-is_at_hand-clause-goes_on
returns-then-is_at_hand-clause-goes_on g c =
    reads_in_turn g.S.Sources.gives g.S.Sources.looks g.S.Sources.at_hand g.K.Sinks.takes g.K.Sinks.flushes
    c.args.limits.now c.in-Some.c c.args.book.now c.args.sources.now c.args.sinks.now c.read_in_turn.ensures

pub returns-in_default-clause-taken : goal.returns-in_default-clause-taken
returns-in_default-clause-taken g c =
    serves_taken g.K.Sinks.takes g.K.Sinks.flushes c.args.limits.now c.rest.result c.args.book.now c.rest.new.book
    c.args.sinks.now c.rest.new.sinks c.rest.ensures c.requires.taken

pub returns-then-is_at_hand-clause-taken : goal.returns-then-is_at_hand-clause-taken
returns-then-is_at_hand-clause-taken g c =
    in_turn_taken g.S.Sources.gives g.S.Sources.looks g.S.Sources.at_hand c.in-Some.c c.args.book.now c.args.sources.now
    c.read_in_turn.ensures c.requires.taken

pub returns-in_default-clause-stepless : goal.returns-in_default-clause-stepless
returns-in_default-clause-stepless g c =
    stepless_serves g.K.Sinks.takes g.K.Sinks.flushes c.args.limits.now c.rest.result c.args.book.now
    c.rest.new.book c.args.sinks.now c.rest.new.sinks c.rest.ensures

pub returns-then-is_at_hand-clause-stepless : goal.returns-then-is_at_hand-clause-stepless
returns-then-is_at_hand-clause-stepless g c =
    stepless_in_turn g.S.Sources.gives g.S.Sources.looks g.S.Sources.at_hand c.in-Some.c c.args.book.now
    c.args.sources.now c.read_in_turn.ensures
