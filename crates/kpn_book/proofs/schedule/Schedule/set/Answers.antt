use Rattle.kpn_book.proofs.Common.{◌≡◌, ◌<◌, length, get_or, sym, subst, false, length-set, Ready, is_ready, waiting}
use Rattle.kpn_book.proofs.Queueing.{IsSchedule-set}
use Rattle.kpn_book.proofs.schedule.Schedule.set.Goals as goal

pub invariant_of-self : goal.invariant_of-self
invariant_of-self g c =
    rw c.change.ensures.states (
      IsSchedule-set c.self.inside.states.items (waiting c.self.inside.queue) c.self.invariant.0 c.args.p
          (subst (λ s. c.args.p < length s.states) (sym c.self.view_is) c.requires.process)
          (subst (λ s. is_ready (get_or s.states c.args.p Ready) ≡ false) (sym c.self.view_is) c.requires.old)
          c.args.state c.requires.new,
      (
        rw (length-set c.self.inside.states.items c.args.p c.args.state) c.self.invariant.1.0,
        rw c.change.ensures.states at c.change.ensures.tally,
      ),
    )
