use Rattle.kpn_stream.proofs.Common.{Some, None, sym, ap, ◌∙◌, subst, is_source, is_sink, end_numbers, is_halted, Serves}
use Rattle.kpn_stream.proofs.Going.{serves_goes_on, serves_taken, goes_on-trans}
use Rattle.kpn_stream.proofs.Moments.{taken_at_start}
use Rattle.kpn_stream.proofs.Seeing.{watches-trans, watches_serves}
use Rattle.kpn_stream.proofs.running.run.Goals as goal

pub come_to_outcome-over-requires-clause-taken : goal.come_to_outcome-over-requires-clause-taken
come_to_outcome-over-requires-clause-taken g c = taken_at_start c.args.book.now c.requires.start

pub returns-in-Some-clause-goes_on : goal.returns-in-Some-clause-goes_on
returns-in-Some-clause-goes_on g c =
    serves_goes_on g.S.Sources.gives g.S.Sources.looks g.S.Sources.at_hand g.K.Sinks.takes g.K.Sinks.flushes
    c.args.limits.now (Some c.in-Some.ending)
    c.args.book.now c.come_to_outcome-over.new.book c.args.sources.now c.args.sinks.now c.come_to_outcome-over.new.sinks
    (subst
    (λ e.
    Serves g.K.Sinks.takes g.K.Sinks.flushes c.args.limits.now e c.args.book.now c.come_to_outcome-over.new.book
    c.args.sinks.now c.come_to_outcome-over.new.sinks)
    c.in-Some.is c.come_to_outcome-over.ensures)

pub make_turns-requires-clause-sources : goal.make_turns-requires-clause-sources
make_turns-requires-clause-sources g c =
    c.requires.sources ∙ ap (end_numbers is_source) (sym c.come_to_outcome-over.ensures.besides.tables)

pub make_turns-requires-clause-sinks : goal.make_turns-requires-clause-sinks
make_turns-requires-clause-sinks g c =
    c.requires.sinks ∙ ap (end_numbers is_sink) (sym c.come_to_outcome-over.ensures.besides.tables)

pub make_turns-requires-clause-taken : goal.make_turns-requires-clause-taken
make_turns-requires-clause-taken g c =
    serves_taken g.K.Sinks.takes g.K.Sinks.flushes c.args.limits.now c.come_to_outcome-over.result c.args.book.now
    c.come_to_outcome-over.new.book c.args.sinks.now c.come_to_outcome-over.new.sinks c.come_to_outcome-over.ensures
    (taken_at_start c.args.book.now c.requires.start)

pub returns-clause-goes_on : goal.returns-clause-goes_on
returns-clause-goes_on g c =
    goes_on-trans g.S.Sources.gives g.S.Sources.looks g.S.Sources.at_hand g.K.Sinks.takes g.K.Sinks.flushes
    c.args.limits.now (Some c.make_turns.result)
    c.args.book.now c.come_to_outcome-over.new.book c.make_turns.new.book c.args.sources.now c.args.sources.now
    c.make_turns.new.sources c.args.sinks.now c.come_to_outcome-over.new.sinks c.make_turns.new.sinks
    (serves_goes_on g.S.Sources.gives g.S.Sources.looks g.S.Sources.at_hand g.K.Sinks.takes g.K.Sinks.flushes
    c.args.limits.now None c.args.book.now
    c.come_to_outcome-over.new.book c.args.sources.now c.args.sinks.now c.come_to_outcome-over.new.sinks
    (subst
    (λ e.
    Serves g.K.Sinks.takes g.K.Sinks.flushes c.args.limits.now e c.args.book.now c.come_to_outcome-over.new.book
    c.args.sinks.now c.come_to_outcome-over.new.sinks)
    c.in_default.is c.come_to_outcome-over.ensures))
    c.make_turns.ensures.goes_on

pub returns-in-Some-clause-watched : goal.returns-in-Some-clause-watched
returns-in-Some-clause-watched g c =
    watches_serves g.W.Watcher.knows g.W.Watcher.sees g.K.Sinks.takes g.K.Sinks.flushes c.args.limits.now (Some c.in-Some.ending) c.args.book.now
    c.come_to_outcome-over.new.book c.args.sinks.now c.come_to_outcome-over.new.sinks c.args.watcher.now
    (subst
    (λ e.
    Serves g.K.Sinks.takes g.K.Sinks.flushes c.args.limits.now e c.args.book.now c.come_to_outcome-over.new.book
    c.args.sinks.now c.come_to_outcome-over.new.sinks)
    c.in-Some.is c.come_to_outcome-over.ensures)

pub returns-clause-watched : goal.returns-clause-watched
returns-clause-watched g c =
    watches-trans g.W.Watcher.knows g.W.Watcher.sees c.args.book.now c.come_to_outcome-over.new.book c.make_turns.new.book
    c.args.watcher.now c.args.watcher.now c.make_turns.new.watcher (is_halted (Some c.make_turns.result))
    c.come_to_outcome-over.ensures.besides.tables
    (watches_serves g.W.Watcher.knows g.W.Watcher.sees g.K.Sinks.takes g.K.Sinks.flushes c.args.limits.now None c.args.book.now c.come_to_outcome-over.new.book
    c.args.sinks.now c.come_to_outcome-over.new.sinks c.args.watcher.now
    (subst
    (λ e.
    Serves g.K.Sinks.takes g.K.Sinks.flushes c.args.limits.now e c.args.book.now c.come_to_outcome-over.new.book
    c.args.sinks.now c.come_to_outcome-over.new.sinks)
    c.in_default.is c.come_to_outcome-over.ensures))
    c.make_turns.ensures.watched
