use Rattle.std.proofs.Common.{rules, Ok, Err, refl, sym, ◌∙◌, inl, inr}
use Rattle.kpn_stream.proofs.Going.{serves-refl}
use Rattle.kpn_stream.proofs.Handling.{serves_flush, flushes_not, handled_flushed}
use Rattle.kpn_stream.proofs.Moments.{left_if_retired}
use Rattle.kpn_stream.proofs.taking.flush.Goals as goal

pub returns-then-is_left-clause-serves : goal.returns-then-is_left-clause-serves
returns-then-is_left-clause-serves g c =
    serves-refl g.K.Sinks.takes g.K.Sinks.flushes c.args.limits.now c.args.book.now c.args.sinks.now

pub returns-then-is_left-clause-flushed : goal.returns-then-is_left-clause-flushed
returns-then-is_left-clause-flushed g c = λ _.
    inl (
      left_if_retired c.args.book.now c.known.ensures c.args.c c.requires.sink
          (sym c.is_left.ensures ∙ c.if-is_left.true),
      refl,
      refl,
    )

pub returns-in-Ok-clause-serves : goal.returns-in-Ok-clause-serves
returns-in-Ok-clause-serves g c =
    let answer : g.K.Sinks.flushes c.args.sinks.now c.args.c (Ok tt) c.flush.new.self = search rules in
    serves_flush g.K.Sinks.takes g.K.Sinks.flushes c.args.limits.now c.args.c c.args.book.now c.args.sinks.now
    c.flush.new.self answer

pub returns-in-Ok-clause-flushed : goal.returns-in-Ok-clause-flushed
returns-in-Ok-clause-flushed g c = λ _.
    let answer : g.K.Sinks.flushes c.args.sinks.now c.args.c (Ok tt) c.flush.new.self = search rules in
    inr (inl (answer, refl))

pub returns-in-Err-clause-serves : goal.returns-in-Err-clause-serves
returns-in-Err-clause-serves g c =
    let answer : g.K.Sinks.flushes c.args.sinks.now c.args.c (Err c.in-Err.fault) c.flush.new.self = search rules in
    flushes_not g.K.Sinks.takes g.K.Sinks.flushes c.args.limits.now c.args.c c.in-Err.fault c.handle.result
    c.args.book.now
    c.handle.new.book c.args.sinks.now c.flush.new.self answer c.handle.ensures

pub returns-in-Err-clause-flushed : goal.returns-in-Err-clause-flushed
returns-in-Err-clause-flushed g c =
    let answer : g.K.Sinks.flushes c.args.sinks.now c.args.c (Err c.in-Err.fault) c.flush.new.self = search rules in
    λ on. handled_flushed g.K.Sinks.flushes c.args.limits.now c.args.c c.in-Err.fault c.handle.result c.args.book.now
    c.handle.new.book
    c.args.sinks.now c.flush.new.self answer c.handle.ensures on
