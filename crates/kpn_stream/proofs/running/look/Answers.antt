use Rattle.kpn_stream.proofs.Common.{None, true, false, refl, sym, ◌∙◌, subst, AreFlushed, serves_them, is_over}
use Rattle.kpn_stream.proofs.Going.{none_of, serves_on, serves_taken}
use Rattle.kpn_stream.proofs.Seeing.{watches-trans, watches_serves, watches_look}
use Rattle.kpn_stream.proofs.running.look.Goals as goal

pub returns-then-is_some-clause-serves : goal.returns-then-is_some-clause-serves
returns-then-is_some-clause-serves g c = serves_them c.flush_all-ended.ensures.serves

pub returns-then-is_some-clause-taken : goal.returns-then-is_some-clause-taken
returns-then-is_some-clause-taken g c =
    serves_taken g.K.Sinks.takes g.K.Sinks.flushes c.args.limits.now c.flush_all-ended.result
    c.args.book.now c.flush_all-ended.new.book c.args.sinks.now c.flush_all-ended.new.sinks
    c.flush_all-ended.ensures.serves c.requires.taken

pub returns-then-is_some-clause-watched : goal.returns-then-is_some-clause-watched
returns-then-is_some-clause-watched g c =
    watches_serves g.W.Watcher.knows g.W.Watcher.sees g.K.Sinks.takes g.K.Sinks.flushes c.args.limits.now c.flush_all-ended.result
    c.args.book.now c.flush_all-ended.new.book c.args.sinks.now c.flush_all-ended.new.sinks
    c.args.watcher.now c.flush_all-ended.ensures.serves

pub returns-then-look-clause-serves : goal.returns-then-look-clause-serves
returns-then-look-clause-serves g c =
    is_over refl
    (serves_on g.K.Sinks.takes g.K.Sinks.flushes c.args.limits.now c.flush_all-ended.result
    c.args.book.now c.flush_all-ended.new.book c.args.sinks.now c.flush_all-ended.new.sinks
    (sym c.is_some.ensures ∙ c.if-is_some.false) c.flush_all-ended.ensures.serves)
    (subst
    (λ xs.
    AreFlushed g.K.Sinks.flushes xs c.args.book.now.history c.args.sinks.now c.flush_all-ended.new.book.history
    c.flush_all-ended.new.sinks)
    c.requires.ends
    (c.flush_all-ended.ensures.flushed (none_of c.flush_all-ended.result (sym c.is_some.ensures ∙ c.if-is_some.false))))

pub returns-then-look-clause-taken : goal.returns-then-look-clause-taken
returns-then-look-clause-taken g c =
    serves_taken g.K.Sinks.takes g.K.Sinks.flushes c.args.limits.now c.flush_all-ended.result
    c.args.book.now c.flush_all-ended.new.book c.args.sinks.now c.flush_all-ended.new.sinks
    c.flush_all-ended.ensures.serves c.requires.taken

pub returns-then-look-clause-watched : goal.returns-then-look-clause-watched
returns-then-look-clause-watched g c =
    watches-trans g.W.Watcher.knows g.W.Watcher.sees c.args.book.now c.flush_all-ended.new.book c.flush_all-ended.new.book
    c.args.watcher.now c.args.watcher.now c.look.new.self true c.flush_all-ended.ensures.serves.besides.tables
    (watches_serves g.W.Watcher.knows g.W.Watcher.sees g.K.Sinks.takes g.K.Sinks.flushes c.args.limits.now None
    c.args.book.now c.flush_all-ended.new.book c.args.sinks.now c.flush_all-ended.new.sinks
    c.args.watcher.now
    (serves_on g.K.Sinks.takes g.K.Sinks.flushes c.args.limits.now c.flush_all-ended.result
    c.args.book.now c.flush_all-ended.new.book c.args.sinks.now c.flush_all-ended.new.sinks
    (sym c.is_some.ensures ∙ c.if-is_some.false) c.flush_all-ended.ensures.serves))
    (watches_look g.W.Watcher.knows g.W.Watcher.sees c.flush_all-ended.new.book c.args.watcher.now c.look.new.self true
    c.known.ensures
    (subst (λ h. g.W.Watcher.sees c.args.watcher.now c.flush_all-ended.new.book h c.look.new.self) c.if-look.true
    c.look.ensures.sees))

pub returns-clause-serves : goal.returns-clause-serves
returns-clause-serves g c =
    serves_them
    (serves_on g.K.Sinks.takes g.K.Sinks.flushes c.args.limits.now c.flush_all-ended.result
    c.args.book.now c.flush_all-ended.new.book c.args.sinks.now c.flush_all-ended.new.sinks
    (sym c.is_some.ensures ∙ c.if-is_some.false) c.flush_all-ended.ensures.serves)

pub returns-clause-taken : goal.returns-clause-taken
returns-clause-taken g c =
    serves_taken g.K.Sinks.takes g.K.Sinks.flushes c.args.limits.now c.flush_all-ended.result
    c.args.book.now c.flush_all-ended.new.book c.args.sinks.now c.flush_all-ended.new.sinks
    c.flush_all-ended.ensures.serves c.requires.taken

pub returns-clause-watched : goal.returns-clause-watched
returns-clause-watched g c =
    watches-trans g.W.Watcher.knows g.W.Watcher.sees c.args.book.now c.flush_all-ended.new.book c.flush_all-ended.new.book
    c.args.watcher.now c.args.watcher.now c.look.new.self false c.flush_all-ended.ensures.serves.besides.tables
    (watches_serves g.W.Watcher.knows g.W.Watcher.sees g.K.Sinks.takes g.K.Sinks.flushes c.args.limits.now None
    c.args.book.now c.flush_all-ended.new.book c.args.sinks.now c.flush_all-ended.new.sinks
    c.args.watcher.now
    (serves_on g.K.Sinks.takes g.K.Sinks.flushes c.args.limits.now c.flush_all-ended.result
    c.args.book.now c.flush_all-ended.new.book c.args.sinks.now c.flush_all-ended.new.sinks
    (sym c.is_some.ensures ∙ c.if-is_some.false) c.flush_all-ended.ensures.serves))
    (watches_look g.W.Watcher.knows g.W.Watcher.sees c.flush_all-ended.new.book c.args.watcher.now c.look.new.self false
    c.known.ensures
    (subst (λ h. g.W.Watcher.sees c.args.watcher.now c.flush_all-ended.new.book h c.look.new.self) c.if-look.false
    c.look.ensures.sees))

pub returns-clause-known : goal.returns-clause-known
returns-clause-known g c = λ on. c.look.ensures.knows
