use Rattle.std.proofs.Common.{rules, ◌≡◌}
use Rattle.kpn_stream.proofs.Moments.{stopped_if_none}
use Rattle.kpn_stream.proofs.stepping.is_idle.Goals as goal

pub returns-clause-stopped : goal.returns-clause-stopped
returns-clause-stopped c = λ is.
    let ready : c.counts-counts.result.ready ≡ 0 = search rules in
    let held : c.counts-counts.result.held ≡ 0 = search rules in
    stopped_if_none c.args.book.now c.known.ensures c.counts-counts.result c.counts-counts.ensures ready held
