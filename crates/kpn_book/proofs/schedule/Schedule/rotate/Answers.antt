use Rattle.kpn_book.proofs.Common.{◌≡◌, length, Some, slice_get, sym, ◌∙◌, subst, slice_get_within, Schedule, first_held, made_ready, waiting}
use Rattle.kpn_book.proofs.Waiting.{first_waits}
use Rattle.kpn_book.proofs.Queueing.{scheduled, rotated, IsSchedule-rotated, few_wait}
use Rattle.kpn_book.proofs.schedule.Schedule.rotate.Goals as goal

pub drop_first-requires : goal.drop_first-requires
drop_first-requires g c =
    slice_get_within c.self.inside.queue.numbers.items c.self.inside.queue.taken c.args.p
    (sym (first_waits c.self.inside.queue.numbers.items c.self.inside.queue.taken)
    ∙ subst (λ (s : Schedule). slice_get s.queue 0 ≡ Some c.args.p) (sym c.self.view_is) c.requires)

pub put-requires : goal.put-requires
put-requires g c =
    let first = subst (λ (s : Schedule). slice_get s.queue 0 ≡ Some c.args.p) (sym c.self.view_is) c.requires in (
      length c.self.inside.states.items,
      c.drop_first.ensures.queue _ c.self.invariant.1.0,
      rw c.drop_first.ensures.numbers
          (few_wait c.self.inside.states.items (waiting c.self.inside.queue) c.args.p c.self.invariant.0 first),
    )

pub invariant_of-self : goal.invariant_of-self
invariant_of-self g c =
    let first = subst (λ (s : Schedule). slice_get s.queue 0 ≡ Some c.args.p) (sym c.self.view_is) c.requires in
    rw (c.put.ensures.numbers, c.drop_first.ensures.numbers) (
      IsSchedule-rotated c.self.inside.states.items (waiting c.self.inside.queue) c.args.p c.self.invariant.0 first,
      (c.put.ensures.queue _ (c.drop_first.ensures.queue _ c.self.invariant.1.0), c.self.invariant.1.1),
    )

pub returns : goal.returns
returns g c =
    let first = subst (λ (s : Schedule). slice_get s.queue 0 ≡ Some c.args.p) (sym c.self.view_is) c.requires in
    subst (λ (s : Schedule). scheduled c.self.inside.states.items (waiting c.put.new.self)
    ≡ made_ready c.args.p (first_held c.args.p s)) c.self.view_is
    (rotated c.self.inside.states.items (waiting c.self.inside.queue) c.args.p c.self.invariant.0 first
    (waiting c.put.new.self) (rw c.drop_first.ensures.numbers at c.put.ensures.numbers))
