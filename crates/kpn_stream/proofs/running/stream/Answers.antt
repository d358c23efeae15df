use Rattle.kpn_stream.proofs.Common.{Some, None, false, sym, subst, ◌∙◌, Fed, at_first, ServedSince, EndsFlushed, Called, at_start, failed_source, failed_sink, Watched, not_yet_seen}
use Rattle.kpn_stream.proofs.running.stream.Goals as goal

pub returns-clause-sources : goal.returns-clause-sources
returns-clause-sources g c =
    subst
    (λ t.
    Fed t g.S.Sources.gives g.S.Sources.looks c.args.sources.now c.run-ending.new.book.history (failed_source (Some
    c.run-ending.result))
    c.run-ending.new.sources)
    (c.run-ending.ensures.goes_on.tables ∙ c.in_ok-book.ensures.tables)
    (c.run-ending.ensures.goes_on.sources_go_on c.args.sources.now
    (subst (λ H. Fed c.in_ok-book.book.tables g.S.Sources.gives g.S.Sources.looks c.args.sources.now H None
    c.args.sources.now)
    (sym c.in_ok-book.ensures.history) at_first))

pub returns-clause-sinks : goal.returns-clause-sinks
returns-clause-sinks g c =
    subst
    (λ H.
    ServedSince g.K.Sinks.takes g.K.Sinks.flushes c.args.limits.now.take H c.args.sinks.now
    c.run-ending.new.book.history
    (failed_sink (Some c.run-ending.result)) c.run-ending.new.sinks)
    c.in_ok-book.ensures.history c.run-ending.ensures.goes_on.sinks_go_on

pub returns-clause-calls : goal.returns-clause-calls
returns-clause-calls g c =
    c.run-ending.ensures.goes_on.calls_go_on c.args.network.now (sym c.in_ok-book.ensures.tables) c.args.sources.now
    c.args.sinks.now
    (subst
    (λ H.
    Called c.args.network.now g.S.Sources.gives g.S.Sources.looks g.S.Sources.at_hand g.K.Sinks.takes g.K.Sinks.flushes
    c.args.limits.now.take c.args.sources.now c.args.sinks.now H c.args.sources.now
    c.args.sinks.now)
    (sym c.in_ok-book.ensures.history) at_start)

pub returns-clause-flushed : goal.returns-clause-flushed
returns-clause-flushed g c =
    subst
    (λ H.
    EndsFlushed g.K.Sinks.takes g.K.Sinks.flushes c.args.limits.now.take c.args.network.now H c.args.sinks.now
    (Some c.run-ending.result) c.run-ending.new.book.history c.run-ending.new.sinks)
    c.in_ok-book.ensures.history
    (subst
    (λ t.
    EndsFlushed g.K.Sinks.takes g.K.Sinks.flushes c.args.limits.now.take t c.in_ok-book.book.history c.args.sinks.now
    (Some c.run-ending.result) c.run-ending.new.book.history c.run-ending.new.sinks)
    (c.run-ending.ensures.goes_on.tables ∙ c.in_ok-book.ensures.tables) c.run-ending.ensures.goes_on.flushed)

pub returns-clause-ending : goal.returns-clause-ending
returns-clause-ending g c = c.run-ending.ensures.goes_on.ending.0

pub returns-clause-taken : goal.returns-clause-taken
returns-clause-taken g c = c.run-ending.ensures.goes_on.ending.1

pub returns-clause-kept : goal.returns-clause-kept
returns-clause-kept g c = c.run-ending.ensures.goes_on.remembers c.args.keeping c.in_ok-book.ensures.kept

pub returns-clause-watched : goal.returns-clause-watched
returns-clause-watched g c =
    c.run-ending.ensures.watched c.args.network.now (sym c.in_ok-book.ensures.tables) c.args.watcher.now
    (subst
    (λ H. Watched c.args.network.now g.W.Watcher.knows g.W.Watcher.sees c.args.watcher.now H false c.args.watcher.now)
    (sym c.in_ok-book.ensures.history) not_yet_seen)
