use Rattle.kpn_book.proofs.Common.{◌≡◌, ◌<◌, length, get_or, sym, subst, false, length-set, Ready, is_ready, waiting}
use Rattle.kpn_book.proofs.Queueing.{has_room, IsSchedule-made_ready}
use Rattle.kpn_book.proofs.schedule.Schedule.make_ready.Goals as goal

pub put-requires : goal.put-requires
put-requires g c = (
  length c.self.inside.states.items,
  c.self.invariant.1.0,
  has_room c.self.inside.states.items (waiting c.self.inside.queue) c.self.invariant.0 c.args.p
      (subst (λ s. c.args.p < length s.states) (sym c.self.view_is) c.requires.process)
      (subst (λ s. is_ready (get_or s.states c.args.p Ready) ≡ false) (sym c.self.view_is) c.requires.state),
)

pub invariant_of-self : goal.invariant_of-self
invariant_of-self g c =
    rw (c.put.ensures.numbers, c.change.ensures.states) (
      IsSchedule-made_ready c.self.inside.states.items (waiting c.self.inside.queue) c.self.invariant.0 c.args.p
          (subst (λ s. c.args.p < length s.states) (sym c.self.view_is) c.requires.process)
          (subst (λ s. is_ready (get_or s.states c.args.p Ready) ≡ false) (sym c.self.view_is) c.requires.state),
      (
        rw (length-set c.self.inside.states.items c.args.p Ready) (c.put.ensures.queue _ c.self.invariant.1.0),
        rw c.change.ensures.states at c.change.ensures.tally,
      ),
    )
