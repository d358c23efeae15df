use Rattle.kpn_book.proofs.Common.{◌≡◌, Some, slice_get, sym, ◌∙◌, subst, length-set, slice_get_within, Schedule, first_held, with_state, waiting}
use Rattle.kpn_book.proofs.Waiting.{first_waits}
use Rattle.kpn_book.proofs.Queueing.{scheduled, first_is_there, first_is_ready, IsSchedule-left, left_first}
use Rattle.kpn_book.proofs.schedule.Schedule.set_first.Goals as goal

pub change-requires-clause-process : goal.change-requires-clause-process
change-requires-clause-process g c =
    first_is_there c.self.inside.states.items (waiting c.self.inside.queue) c.args.p c.self.invariant.0
    (subst (λ (s : Schedule). slice_get s.queue 0 ≡ Some c.args.p) (sym c.self.view_is) c.requires.first)

pub change-requires-clause-from : goal.change-requires-clause-from
change-requires-clause-from g c =
    first_is_ready c.self.inside.states.items (waiting c.self.inside.queue) c.args.p c.self.invariant.0
    (subst (λ (s : Schedule). slice_get s.queue 0 ≡ Some c.args.p) (sym c.self.view_is) c.requires.first)

pub drop_first-requires : goal.drop_first-requires
drop_first-requires g c =
    slice_get_within c.self.inside.queue.numbers.items c.self.inside.queue.taken c.args.p
    (sym (first_waits c.self.inside.queue.numbers.items c.self.inside.queue.taken)
    ∙ subst (λ (s : Schedule). slice_get s.queue 0 ≡ Some c.args.p) (sym c.self.view_is) c.requires.first)

pub invariant_of-self : goal.invariant_of-self
invariant_of-self g c =
    let first = subst (λ (s : Schedule). slice_get s.queue 0 ≡ Some c.args.p) (sym c.self.view_is) c.requires.first in
    rw (c.drop_first.ensures.numbers, c.change.ensures.states) (
      IsSchedule-left c.self.inside.states.items (waiting c.self.inside.queue) c.args.p c.self.invariant.0 first
          c.args.state c.requires.new,
      (
        rw (length-set c.self.inside.states.items c.args.p c.args.state)
            (c.drop_first.ensures.queue _ c.self.invariant.1.0),
        rw c.change.ensures.states at c.change.ensures.tally,
      ),
    )

pub returns : goal.returns
returns g c =
    subst (λ (s : Schedule). scheduled c.change.new.states.items (waiting c.drop_first.new.self)
    ≡ with_state c.args.p c.args.state (first_held c.args.p s)) c.self.view_is
    (left_first c.self.inside.states.items (waiting c.self.inside.queue) c.args.p c.args.state
    c.change.new.states.items (waiting c.drop_first.new.self) c.change.ensures.states c.drop_first.ensures.numbers)
