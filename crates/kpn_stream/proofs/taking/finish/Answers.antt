use Rattle.std.proofs.Common.{rules, Ok, Err, sym, ◌∙◌}
use Rattle.kpn_stream.proofs.Going.{serves-refl}
use Rattle.kpn_stream.proofs.Handling.{serves_enough, flushes_not, leaving_taken, handled_taken}
use Rattle.kpn_stream.proofs.Moments.{taken_if_retired}
use Rattle.kpn_stream.proofs.taking.finish.Goals as goal

pub returns-then-is_left-clause-serves : goal.returns-then-is_left-clause-serves
returns-then-is_left-clause-serves g c =
    serves-refl g.K.Sinks.takes g.K.Sinks.flushes c.args.limits.now c.args.book.now c.args.sinks.now

pub returns-then-is_left-clause-taken : goal.returns-then-is_left-clause-taken
returns-then-is_left-clause-taken g c = λ _.
    taken_if_retired c.args.book.now c.known.ensures c.args.c c.requires.sink (sym c.is_left.ensures ∙
    c.if-is_left.true)

pub returns-in-Ok-clause-serves : goal.returns-in-Ok-clause-serves
returns-in-Ok-clause-serves g c =
    let answer : g.K.Sinks.flushes c.args.sinks.now c.args.c (Ok tt) c.flush.new.self = search rules in
    serves_enough g.K.Sinks.takes g.K.Sinks.flushes c.args.limits.now c.args.c c.leave.result c.args.book.now
    c.leave.new.book
    c.args.sinks.now c.flush.new.self c.requires.given answer c.leave.ensures

pub returns-in-Ok-clause-taken : goal.returns-in-Ok-clause-taken
returns-in-Ok-clause-taken g c =
    leaving_taken c.args.limits.now c.args.c c.leave.result c.args.book.now c.leave.new.book c.leave.ensures

pub returns-in-Err-clause-serves : goal.returns-in-Err-clause-serves
returns-in-Err-clause-serves g c =
    let answer : g.K.Sinks.flushes c.args.sinks.now c.args.c (Err c.in-Err.fault) c.flush.new.self = search rules in
    flushes_not g.K.Sinks.takes g.K.Sinks.flushes c.args.limits.now c.args.c c.in-Err.fault c.handle.result
    c.args.book.now
    c.handle.new.book c.args.sinks.now c.flush.new.self answer c.handle.ensures

pub returns-in-Err-clause-taken : goal.returns-in-Err-clause-taken
returns-in-Err-clause-taken g c =
    λ on. handled_taken c.args.limits.now c.args.c c.in-Err.fault c.handle.result c.args.book.now c.handle.new.book
    c.handle.ensures on
