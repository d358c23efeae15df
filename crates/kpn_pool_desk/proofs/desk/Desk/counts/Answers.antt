use Rattle.kpn_pool_desk.proofs.Common.{subst, Desk}
use Rattle.kpn_pool_desk.specs.Invariant.{AreBlockedCounts}
use Rattle.kpn_pool_desk.proofs.desk.Desk.counts.Goals as goal

pub returns-clause-blocked : goal.returns-clause-blocked
returns-clause-blocked g c =
    let inner = c.self.inside.book in
    subst (λ (d : Desk). AreBlockedCounts d.book c.counts.result) c.self.view_is
    (record {
      empty = c.the_history.ensures.empty inner c.known.ensures c.counts.result c.counts.ensures;
      full = c.the_history.ensures.full inner c.known.ensures c.counts.result c.counts.ensures;
    })
