use Rattle.kpn_book.proofs.Common.{refl, ap, ◌∙◌, arith, Legal-due, book_of, held_by, Follows}
use Rattle.kpn_history.specs.declared.event.Event.TheVariants as event
use Rattle.kpn_book.proofs.Following.{own_held, held_is_there, held_is_free, may_be_woken, followed, recorded, process_fits}
use Rattle.kpn_book.proofs.Answering.{no_cycle_then, answered_ended}
use Rattle.kpn_book.proofs.FirstOfQueue.{held_so}
use Rattle.kpn_book.proofs.open_book.OpenBook.finish.Given as given
use Rattle.kpn_book.proofs.open_book.OpenBook.finish.Goals as goal
use Rattle.kpn_book.proofs.open_book.OpenBook.finish.Goals.{After-wake_all}

pub end-woken-requires-clause-process : goal.end-woken-requires-clause-process
end-woken-requires-clause-process g c =
    let o = held_by c.args.hold c.args.p (book_of c.args.self.now) in
    let held = held_so c.args.hold c.args.p (book_of c.args.self.now) c.requires.may.held in
    held_is_there o c.requires.may.sound.in_step c.args.p held

pub end-woken-requires-clause-free : goal.end-woken-requires-clause-free
end-woken-requires-clause-free g c =
    let o = held_by c.args.hold c.args.p (book_of c.args.self.now) in
    let held = held_so c.args.hold c.args.p (book_of c.args.self.now) c.requires.may.held in
    held_is_free o c.requires.may.sound.in_step c.args.p held

pub number-requires : goal.number-requires
number-requires g c =
    let o = held_by c.args.hold c.args.p (book_of c.args.self.now) in
    let held = held_so c.args.hold c.args.p (book_of c.args.self.now) c.requires.may.held in
    process_fits o.tables c.known.ensures c.args.p (held_is_there o c.requires.may.sound.in_step c.args.p held)

pub wake_all-requires : goal.wake_all-requires
wake_all-requires g c =
    let o = held_by c.args.hold c.args.p (book_of c.args.self.now) in
    let held = held_so c.args.hold c.args.p (book_of c.args.self.now) c.requires.may.held in
    may_be_woken o c.known.ensures c.requires.may.sound.in_step (event.Ended c.args.p c.args.how)
    (own_held o c.args.p held) (held_is_there o c.requires.may.sound.in_step c.args.p held)
    c.set_state.new.schedule c.as_slice.result.now c.set_state.ensures
    (c.as_slice.ensures.value ∙ c.end-woken.ensures.woken)

-- the process has ended
ended : (g : given.Over) (c : After-wake_all g)
    → let o = held_by c.args.hold c.args.p (book_of c.args.self.now) in
    Follows (event.Ended c.args.p c.args.how) o
    (recorded o c.push.new.self c.end-woken.new.self c.wake_all.new.schedule)
ended g c =
    let o = held_by c.args.hold c.args.p (book_of c.args.self.now) in
    let held = held_so c.args.hold c.args.p (book_of c.args.self.now) c.requires.may.held in
    let e = event.Ended c.args.p c.args.how in
    let step = c.requires.may.sound.in_step in
    let there = held_is_there o step c.args.p held in
    followed o c.known.ensures step e (own_held o c.args.p held) there c.end-woken.new.self
    c.end-woken.ensures.changes c.end-woken.ensures.shape
    (Legal-due o.tables c.known.ensures o.history o.machine step.run c.requires.may.sound.nothing_owed e there
    (held_is_free o step c.args.p held, c.requires.stands))
    (event.Ended c.number.result c.args.how) c.push.new.self c.set_state.new.schedule c.wake_all.new.schedule
    c.as_slice.result.now (ap (λ x. event.Ended x c.args.how) c.number.ensures) c.push.ensures.events c.push.ensures.kept
    c.set_state.ensures c.wake_all.ensures (c.as_slice.ensures.value ∙ c.end-woken.ensures.woken)

pub grow_at_stop-grown-requires-clause-room : goal.grow_at_stop-grown-requires-clause-room
grow_at_stop-grown-requires-clause-room g c =
    let two = c.requires.may.room in
    let pushed = c.push.ensures.room in
    omega (arith, two, pushed)

pub grow_at_stop-grown-requires-clause-step : goal.grow_at_stop-grown-requires-clause-step
grow_at_stop-grown-requires-clause-step g c =
    (ended g (goal.at.grow_at_stop-grown-requires-clause-step g c).After-wake_all).in_step

pub grow_at_stop-grown-requires-clause-no_cycle : goal.grow_at_stop-grown-requires-clause-no_cycle
grow_at_stop-grown-requires-clause-no_cycle g c =
    let o = held_by c.args.hold c.args.p (book_of c.args.self.now) in
    no_cycle_then (event.Ended c.args.p c.args.how) o
    (recorded o c.push.new.self c.end-woken.new.self c.wake_all.new.schedule)
    (ended g (goal.at.grow_at_stop-grown-requires-clause-no_cycle g c).After-wake_all) refl

pub returns : goal.returns
returns g c =
    let o = held_by c.args.hold c.args.p (book_of c.args.self.now) in
    let pushed = c.push.ensures.room in
    let grown = c.grow_at_stop-grown.ensures.room in
    record {
      answered =
          answered_ended o (recorded o c.push.new.self c.end-woken.new.self c.wake_all.new.schedule)
          (book_of c.grow_at_stop-grown.new.self) c.args.p c.args.how c.grow_at_stop-grown.result
          (ended g (goal.at.returns g c).After-wake_all) c.grow_at_stop-grown.ensures.grows;
      room = omega (arith, pushed, grown);
    }
