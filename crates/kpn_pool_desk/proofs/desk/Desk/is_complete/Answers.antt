use Rattle.std.proofs.Common.{◌↔◌, ◌<◌, IsTrue, length, sym, subst}
use Rattle.kpn_history.specs.Complete.{IsComplete}
use Rattle.kpn_pool_desk.specs.Desk.{Desk}
use Rattle.kpn_pool_desk.proofs.desk.Desk.is_complete.Goals as goal

pub is_complete-requires : goal.is_complete-requires
is_complete-requires g c =
    subst (λ t. c.args.c < length t.channels) (sym c.self.invariant.network) c.requires

pub returns : goal.returns
returns g c =
    subst (λ (d : Desk). IsTrue c.is_complete.result ↔ IsComplete g.J.Job.network d.book.history c.args.c)
    c.self.view_is
    (subst (λ t. IsTrue c.is_complete.result ↔ IsComplete t c.self.inside.book.history c.args.c)
    c.self.invariant.network c.is_complete.ensures)
