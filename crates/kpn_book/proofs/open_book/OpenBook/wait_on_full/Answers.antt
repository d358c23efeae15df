use Rattle.kpn_book.proofs.Common.{[], refl, ap, ◌∙◌, inr, arith, writes_below, Legal-due, IsWriteTo, book_of, held_by, Follows}
use Rattle.kpn_history.specs.declared.event.Event.TheVariants as event
use Rattle.kpn_book.proofs.Following.{own_held, held_is_there, held_is_free, followed, recorded, process_fits, channel_fits}
use Rattle.kpn_book.proofs.Answering.{answered_wait}
use Rattle.kpn_book.proofs.FirstOfQueue.{held_so}
use Rattle.kpn_book.proofs.open_book.OpenBook.wait_on_full.Given as given
use Rattle.kpn_book.proofs.open_book.OpenBook.wait_on_full.Goals as goal
use Rattle.kpn_book.proofs.open_book.OpenBook.wait_on_full.Goals.{After-set_state}

pub wait_on_full-requires-clause-process : goal.wait_on_full-requires-clause-process
wait_on_full-requires-clause-process g c =
    let o = held_by c.args.hold c.args.p (book_of c.args.self.now) in
    let held = held_so c.args.hold c.args.p (book_of c.args.self.now) c.requires.may.held in
    held_is_there o c.requires.may.sound.in_step c.args.p held

pub wait_on_full-requires-clause-free : goal.wait_on_full-requires-clause-free
wait_on_full-requires-clause-free g c =
    let o = held_by c.args.hold c.args.p (book_of c.args.self.now) in
    let held = held_so c.args.hold c.args.p (book_of c.args.self.now) c.requires.may.held in
    held_is_free o c.requires.may.sound.in_step c.args.p held

pub number-requires : goal.number-requires
number-requires g c =
    let o = held_by c.args.hold c.args.p (book_of c.args.self.now) in
    let held = held_so c.args.hold c.args.p (book_of c.args.self.now) c.requires.may.held in
    process_fits o.tables c.known.ensures c.args.p (held_is_there o c.requires.may.sound.in_step c.args.p held)

pub number-requires-2 : goal.number-requires-2
number-requires-2 g c =
    let o = held_by c.args.hold c.args.p (book_of c.args.self.now) in
    let held = held_so c.args.hold c.args.p (book_of c.args.self.now) c.requires.may.held in
    let there = held_is_there o c.requires.may.sound.in_step c.args.p held in
    channel_fits o.tables c.known.ensures c.args.c
    (writes_below o.tables c.known.ensures o.machine c.args.p there c.args.c c.args.item c.requires.writes)

-- the process waits
waits : (g : given.Over) (c : After-set_state g)
    → let o = held_by c.args.hold c.args.p (book_of c.args.self.now) in
    Follows (event.WaitFull c.args.p c.args.c) o
    (recorded o c.push.new.self c.wait_on_full.new.self c.set_state.new.schedule)
waits g c =
    let o = held_by c.args.hold c.args.p (book_of c.args.self.now) in
    let held = held_so c.args.hold c.args.p (book_of c.args.self.now) c.requires.may.held in
    let e = event.WaitFull c.args.p c.args.c in
    let step = c.requires.may.sound.in_step in
    let there = held_is_there o step c.args.p held in
    let below = writes_below o.tables c.known.ensures o.machine c.args.p there c.args.c c.args.item c.requires.writes in
    followed o c.known.ensures step e (own_held o c.args.p held) tt c.wait_on_full.new.self
    c.wait_on_full.ensures.changes c.wait_on_full.ensures.shape
    (Legal-due o.tables c.known.ensures o.history o.machine step.run c.requires.may.sound.nothing_owed e
    (there, below) (held_is_free o step c.args.p held, (c.args.item, c.requires.writes), c.requires.ready))
    (event.WaitFull c.number.result c.number-2.result) c.push.new.self c.set_state.new.schedule
    c.set_state.new.schedule []
    (ap (λ x. event.WaitFull x c.number-2.result) c.number.ensures
    ∙ ap (λ x. event.WaitFull c.args.p x) c.number-2.ensures)
    c.push.ensures.events c.push.ensures.kept c.set_state.ensures refl refl

pub grow_if_owed-requires-clause-room : goal.grow_if_owed-requires-clause-room
grow_if_owed-requires-clause-room g c =
    let two = c.requires.may.room in
    let pushed = c.push.ensures.room in
    omega (arith, two, pushed)

pub grow_if_owed-requires-clause-step : goal.grow_if_owed-requires-clause-step
grow_if_owed-requires-clause-step g c =
    (waits g (goal.at.grow_if_owed-requires-clause-step g c).After-set_state).in_step

pub grow_if_owed-requires-clause-process : goal.grow_if_owed-requires-clause-process
grow_if_owed-requires-clause-process g c =
    let o = held_by c.args.hold c.args.p (book_of c.args.self.now) in
    let held = held_so c.args.hold c.args.p (book_of c.args.self.now) c.requires.may.held in
    held_is_there o c.requires.may.sound.in_step c.args.p held

pub grow_if_owed-requires-clause-waits : goal.grow_if_owed-requires-clause-waits
grow_if_owed-requires-clause-waits g c =
    let history = (waits g (goal.at.grow_if_owed-requires-clause-waits g c).After-set_state).appends.history in
    record {
      before = c.args.self.now.history.events;
      wait = event.WaitFull c.args.p c.args.c;
      is = history;
      waits = refl;
    }

pub returns : goal.returns
returns g c =
    let o = held_by c.args.hold c.args.p (book_of c.args.self.now) in
    let follows = waits g (goal.at.returns g c).After-set_state in
    let pushed = c.push.ensures.room in
    let grown = c.grow_if_owed.ensures.room in
    record {
      answered =
          answered_wait o (recorded o c.push.new.self c.wait_on_full.new.self c.set_state.new.schedule) c.args.p
          (event.WaitFull c.args.p c.args.c) refl (λ s. IsWriteTo o.tables c.args.p s c.args.c c.args.item)
          (λ s asks. inr (record {
            channel = c.args.c;
            item = c.args.item;
            asks = asks;
            full = c.requires.ready;
            is = refl;
          }))
          follows c.grow_if_owed.result (book_of c.grow_if_owed.new.self) c.grow_if_owed.ensures.grows;
      room = omega (arith, pushed, grown);
    }
