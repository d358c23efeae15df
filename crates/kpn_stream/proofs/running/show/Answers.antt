use Rattle.kpn_stream.proofs.Common.{is_of_source, serves_them}
use Rattle.kpn_stream.proofs.Going.{besides-refl, serves-refl}
use Rattle.kpn_stream.proofs.Seeing.{watches_steps}
use Rattle.kpn_stream.proofs.running.show.Goals as goal

pub returns-clause-serves : goal.returns-clause-serves
returns-clause-serves g c =
    serves_them (serves-refl g.K.Sinks.takes g.K.Sinks.flushes c.args.limits.now c.args.book.now c.args.sinks.now)

pub returns-clause-watched : goal.returns-clause-watched
returns-clause-watched g c =
    watches_steps g.W.Watcher.knows g.W.Watcher.sees c.args.book.now c.args.book.now c.args.watcher.now
    (besides-refl is_of_source c.args.book.now)

pub returns-clause-known : goal.returns-clause-known
returns-clause-known g c = λ on. c.has_news.ensures c.if-has_news.false
