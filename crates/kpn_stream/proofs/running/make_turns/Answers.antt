use Rattle.kpn_stream.proofs.Common.{Some, None, false, sym, ap, ◌∙◌, subst, is_source, is_sink, end_numbers, is_halted, is_of_source, StreamGoesOn, Watches}
use Rattle.kpn_stream.proofs.Going.{besides-refl, goes_on-refl, goes_on-trans, serves_goes_on}
use Rattle.kpn_stream.proofs.Seeing.{watches_steps, watches-trans, watches_serves}
use Rattle.kpn_stream.proofs.running.make_turns.Goals as goal

pub turns-init : goal.turns-init
turns-init g c = record {
  goes_on =
      goes_on-refl g.S.Sources.gives g.S.Sources.looks g.S.Sources.at_hand g.K.Sinks.takes g.K.Sinks.flushes
      c.args.limits.now c.args.book.now
      c.args.sources.now c.args.sinks.now;
  sources = c.requires.sources;
  sinks = c.requires.sinks;
  taken = c.requires.taken;
  watched = watches_steps g.W.Watcher.knows g.W.Watcher.sees c.args.book.now c.args.book.now c.args.watcher.now
      (besides-refl is_of_source c.args.book.now);
}

pub returns-in-Some-clause-goes_on : goal.returns-in-Some-clause-goes_on
returns-in-Some-clause-goes_on g c =
    goes_on-trans g.S.Sources.gives g.S.Sources.looks g.S.Sources.at_hand g.K.Sinks.takes g.K.Sinks.flushes
    c.args.limits.now (Some c.in-Some.ending)
    c.args.book.now c.turns.book c.turn-ended.new.book c.args.sources.now c.turns.sources c.turn-ended.new.sources
    c.args.sinks.now c.turns.sinks c.turn-ended.new.sinks c.turns.invariant.goes_on
    (subst
    (λ e.
    StreamGoesOn g.S.Sources.gives g.S.Sources.looks g.S.Sources.at_hand g.K.Sinks.takes g.K.Sinks.flushes c.args.limits.now
    e c.turns.book c.turn-ended.new.book
    c.turns.sources c.turn-ended.new.sources c.turns.sinks c.turn-ended.new.sinks)
    c.in-Some.is c.turn-ended.ensures.goes_on)

pub out_of_memory-requires-clause-ends : goal.out_of_memory-requires-clause-ends
out_of_memory-requires-clause-ends g c = c.turns.invariant.sinks

pub returns-clause-goes_on : goal.returns-clause-goes_on
returns-clause-goes_on g c =
    goes_on-trans g.S.Sources.gives g.S.Sources.looks g.S.Sources.at_hand g.K.Sinks.takes g.K.Sinks.flushes
    c.args.limits.now
    (Some c.out_of_memory.result) c.args.book.now c.turns.book c.out_of_memory.new.book c.args.sources.now
    c.turns.sources c.turns.sources c.args.sinks.now c.turns.sinks c.out_of_memory.new.sinks c.turns.invariant.goes_on
    (serves_goes_on g.S.Sources.gives g.S.Sources.looks g.S.Sources.at_hand g.K.Sinks.takes g.K.Sinks.flushes
    c.args.limits.now
    (Some c.out_of_memory.result) c.turns.book c.out_of_memory.new.book c.turns.sources c.turns.sinks
    c.out_of_memory.new.sinks c.out_of_memory.ensures)

pub turns-preserved : goal.turns-preserved
turns-preserved g c =
    let one =
    subst
    (λ e.
    StreamGoesOn g.S.Sources.gives g.S.Sources.looks g.S.Sources.at_hand g.K.Sinks.takes g.K.Sinks.flushes c.args.limits.now
    e c.turns.book c.turn-ended.new.book
    c.turns.sources c.turn-ended.new.sources c.turns.sinks c.turn-ended.new.sinks)
    c.in_default.is c.turn-ended.ensures.goes_on in
    record {
      goes_on =
          goes_on-trans g.S.Sources.gives g.S.Sources.looks g.S.Sources.at_hand g.K.Sinks.takes g.K.Sinks.flushes
          c.args.limits.now None c.args.book.now
          c.turns.book c.turn-ended.new.book c.args.sources.now c.turns.sources c.turn-ended.new.sources
          c.args.sinks.now
          c.turns.sinks c.turn-ended.new.sinks c.turns.invariant.goes_on one;
      sources = c.turns.invariant.sources ∙ ap (end_numbers is_source) (sym one.tables);
      sinks = c.turns.invariant.sinks ∙ ap (end_numbers is_sink) (sym one.tables);
      taken = c.turn-ended.ensures.taken c.in_default.is;
      watched =
          watches-trans g.W.Watcher.knows g.W.Watcher.sees c.args.book.now c.turns.book c.turn-ended.new.book c.args.watcher.now
          c.turns.watcher c.turn-ended.new.watcher false c.turns.invariant.goes_on.tables c.turns.invariant.watched
          (subst
          (λ e. Watches g.W.Watcher.knows g.W.Watcher.sees c.turns.book c.turn-ended.new.book c.turns.watcher (is_halted e)
          c.turn-ended.new.watcher)
          c.in_default.is c.turn-ended.ensures.watched);
    }

pub returns-in-Some-clause-watched : goal.returns-in-Some-clause-watched
returns-in-Some-clause-watched g c =
    watches-trans g.W.Watcher.knows g.W.Watcher.sees c.args.book.now c.turns.book c.turn-ended.new.book c.args.watcher.now
    c.turns.watcher c.turn-ended.new.watcher (is_halted (Some c.in-Some.ending)) c.turns.invariant.goes_on.tables
    c.turns.invariant.watched
    (subst
    (λ e. Watches g.W.Watcher.knows g.W.Watcher.sees c.turns.book c.turn-ended.new.book c.turns.watcher (is_halted e)
    c.turn-ended.new.watcher)
    c.in-Some.is c.turn-ended.ensures.watched)

pub returns-clause-watched : goal.returns-clause-watched
returns-clause-watched g c =
    watches-trans g.W.Watcher.knows g.W.Watcher.sees c.args.book.now c.turns.book c.out_of_memory.new.book c.args.watcher.now
    c.turns.watcher c.turns.watcher (is_halted (Some c.out_of_memory.result)) c.turns.invariant.goes_on.tables
    c.turns.invariant.watched
    (watches_serves g.W.Watcher.knows g.W.Watcher.sees g.K.Sinks.takes g.K.Sinks.flushes c.args.limits.now (Some c.out_of_memory.result) c.turns.book
    c.out_of_memory.new.book c.turns.sinks c.out_of_memory.new.sinks c.turns.watcher c.out_of_memory.ensures)
