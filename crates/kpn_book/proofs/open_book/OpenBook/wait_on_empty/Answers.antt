use Rattle.kpn_book.proofs.Common.{[], refl, ap, ◌∙◌, inl, arith, reads_below, Legal-due, IsReadFrom, book_of, held_by, Follows}
use Rattle.kpn_history.specs.declared.event.Event.TheVariants as event
use Rattle.kpn_book.proofs.Following.{own_held, held_is_there, held_is_free, followed, recorded, process_fits, channel_fits}
use Rattle.kpn_book.proofs.Answering.{answered_wait}
use Rattle.kpn_book.proofs.FirstOfQueue.{held_so}
use Rattle.kpn_book.proofs.open_book.OpenBook.wait_on_empty.Given as given
use Rattle.kpn_book.proofs.open_book.OpenBook.wait_on_empty.Goals as goal
use Rattle.kpn_book.proofs.open_book.OpenBook.wait_on_empty.Goals.{After-set_state}

pub wait_on_empty-requires-clause-process : goal.wait_on_empty-requires-clause-process
wait_on_empty-requires-clause-process g c =
    let o = held_by c.args.hold c.args.p (book_of c.args.self.now) in
    let held = held_so c.args.hold c.args.p (book_of c.args.self.now) c.requires.may.held in
    held_is_there o c.requires.may.sound.in_step c.args.p held

pub wait_on_empty-requires-clause-free : goal.wait_on_empty-requires-clause-free
wait_on_empty-requires-clause-free g c =
    let o = held_by c.args.hold c.args.p (book_of c.args.self.now) in
    let held = held_so c.args.hold c.args.p (book_of c.args.self.now) c.requires.may.held in
    held_is_free o c.requires.may.sound.in_step c.args.p held

pub number-requires : goal.number-requires
number-requires g c =
    let o = held_by c.args.hold c.args.p (book_of c.args.self.now) in
    let held = held_so c.args.hold c.args.p (book_of c.args.self.now) c.requires.may.held in
    process_fits o.tables c.known.ensures c.args.p (held_is_there o c.requires.may.sound.in_step c.args.p held)

pub number-requires-2 : goal.number-requires-2
number-requires-2 g c =
    let o = held_by c.args.hold c.args.p (book_of c.args.self.now) in
    let held = held_so c.args.hold c.args.p (book_of c.args.self.now) c.requires.may.held in
    let there = held_is_there o c.requires.may.sound.in_step c.args.p held in
    channel_fits o.tables c.known.ensures c.args.c
    (reads_below o.tables c.known.ensures o.machine c.args.p there c.args.c c.requires.reads)

-- the process waits
waits : (g : given.Over) (c : After-set_state g)
    → let o = held_by c.args.hold c.args.p (book_of c.args.self.now) in
    Follows (event.WaitEmpty c.args.p c.args.c) o
    (recorded o c.push.new.self c.wait_on_empty.new.self c.set_state.new.schedule)
waits g c =
    let o = held_by c.args.hold c.args.p (book_of c.args.self.now) in
    let held = held_so c.args.hold c.args.p (book_of c.args.self.now) c.requires.may.held in
    let e = event.WaitEmpty c.args.p c.args.c in
    let step = c.requires.may.sound.in_step in
    let there = held_is_there o step c.args.p held in
    let below = reads_below o.tables c.known.ensures o.machine c.args.p there c.args.c c.requires.reads in
    followed o c.known.ensures step e (own_held o c.args.p held) tt c.wait_on_empty.new.self
    c.wait_on_empty.ensures.changes c.wait_on_empty.ensures.shape
    (Legal-due o.tables c.known.ensures o.history o.machine step.run c.requires.may.sound.nothing_owed e
    (there, below) (held_is_free o step c.args.p held, c.requires.reads, c.requires.ready))
    (event.WaitEmpty c.number.result c.number-2.result) c.push.new.self c.set_state.new.schedule
    c.set_state.new.schedule []
    (ap (λ x. event.WaitEmpty x c.number-2.result) c.number.ensures
    ∙ ap (λ x. event.WaitEmpty c.args.p x) c.number-2.ensures)
    c.push.ensures.events c.push.ensures.kept c.set_state.ensures refl refl

pub grow_if_owed-requires-clause-room : goal.grow_if_owed-requires-clause-room
grow_if_owed-requires-clause-room g c =
    let two = c.requires.may.room in
    let pushed = c.push.ensures.room in
    omega (arith, two, pushed)

pub grow_if_owed-requires-clause-step : goal.grow_if_owed-requires-clause-step
grow_if_owed-requires-clause-step g c =
    (waits g (goal.at.grow_if_owed-requires-clause-step g c).After-set_state).in_step

pub grow_if_owed-requires-clause-process : goal.grow_if_owed-requires-clause-process
grow_if_owed-requires-clause-process g c =
    let o = held_by c.args.hold c.args.p (book_of c.args.self.now) in
    let held = held_so c.args.hold c.args.p (book_of c.args.self.now) c.requires.may.held in
    held_is_there o c.requires.may.sound.in_step c.args.p held

pub grow_if_owed-requires-clause-waits : goal.grow_if_owed-requires-clause-waits
grow_if_owed-requires-clause-waits g c =
    let history = (waits g (goal.at.grow_if_owed-requires-clause-waits g c).After-set_state).appends.history in
    record {
      before = c.args.self.now.history.events;
      wait = event.WaitEmpty c.args.p c.args.c;
      is = history;
      waits = refl;
    }

pub returns : goal.returns
returns g c =
    let o = held_by c.args.hold c.args.p (book_of c.args.self.now) in
    let follows = waits g (goal.at.returns g c).After-set_state in
    let pushed = c.push.ensures.room in
    let grown = c.grow_if_owed.ensures.room in
    record {
      answered =
          answered_wait o (recorded o c.push.new.self c.wait_on_empty.new.self c.set_state.new.schedule) c.args.p
          (event.WaitEmpty c.args.p c.args.c) refl (λ s. IsReadFrom o.tables c.args.p s c.args.c)
          (λ s asks. inl (record { channel = c.args.c; asks = asks; empty = c.requires.ready; is = refl }))
          follows c.grow_if_owed.result (book_of c.grow_if_owed.new.self) c.grow_if_owed.ensures.grows;
      room = omega (arith, pushed, grown);
    }
