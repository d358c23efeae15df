use Rattle.kpn_book.proofs.Tallies.{idle_is}
use Rattle.kpn_book.proofs.schedule.Schedule.is_idle.Goals as goal

pub returns : goal.returns
returns g c =
    rw (← c.self.view_is)
    (idle_is c.self.inside.states.items c.self.inside.tally.going c.self.invariant.1.1.going)
