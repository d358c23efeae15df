use Rattle.kpn_book.proofs.Common.{◌≡◌, ◌+◌, true, false, refl, sym, ◌∙◌, subst, arith, rules, book_of}
use Rattle.kpn_book.proofs.Following.{recorded, same_recorded}
use Rattle.kpn_book.proofs.FirstOfQueue.{IsSoFar, none_so_far, more_so_far, runs_to_sink, runs_so_far, runs_till_idle, refused_with, refused_before, refused_in_turn}
use Rattle.kpn_book.proofs.open_book.OpenBook.run_on.Goals as goal

pub rows-init : goal.rows-init
rows-init g c = record {
  so_far = none_so_far c.args.quota (book_of c.args.self.now) c.requires.kept;
  within = omega arith;
}

pub turns-init : goal.turns-init
turns-init g c =
    let b = book_of c.args.self.now in
    let now = book_of c.rows.self in
    let with_memory = recorded now c.reserve.new.self now.machine now.schedule in
    let same : with_memory ≡ now =
    same_recorded now c.reserve.new.self now.machine now.schedule now.history c.in_ok-reserve.ensures.events
    c.in_ok-reserve.ensures.kept in
    let none : c.rows.made + 0 ≡ c.rows.made = omega arith in
    record {
      so_far =
          subst (λ n. IsSoFar c.args.quota n b with_memory) (sym none)
          (subst (IsSoFar c.args.quota c.rows.made b) (sym same) c.rows.invariant.so_far);
      room = let fits = c.turns_for-more.ensures.fits in let is = c.room.ensures in omega (arith, fits, is);
    }

pub turn-requires-clause-countable : goal.turn-requires-clause-countable
turn-requires-clause-countable g c =
    let so_far = c.turns.invariant.so_far in
    let commits = so_far.commits in
    let held = so_far.held in
    let below = c.turns-test.true in
    let within = c.turns_for-more.ensures.within in
    omega (arith, commits, held, below, within, c.requires.countable)

pub turn-requires-clause-room : goal.turn-requires-clause-room
turn-requires-clause-room g c =
    let room = c.turns.invariant.room in let below = c.turns-test.true in omega (arith, room, below)

pub returns-in_default-clause-runs : goal.returns-in_default-clause-runs
returns-in_default-clause-runs g c =
    let b = book_of c.args.self.now in
    let now = book_of c.turns.self in
    let below = c.turns-test.true in
    let within = c.turns_for-more.ensures.within in
    runs_till_idle c.args.quota c.args.most (c.rows.made + c.turns._turn) b now now refl c.turns.invariant.so_far
    (omega (arith, below, within, c.rows.invariant.within)) (sym c.in_default.is ∙ c.next.ensures)

pub turns-preserved : goal.turns-preserved
turns-preserved g c =
    let b = book_of c.args.self.now in
    let now = book_of c.turns.self in
    let told : c.is_some.result ≡ false = search rules in
    let next : c.rows.made + c.turns._turn + 1 ≡ c.rows.made + (c.turns._turn + 1) = omega arith in
    record {
      so_far =
          subst (λ n. IsSoFar c.args.quota n b (book_of c.turn.new.self)) next
          (more_so_far c.args.quota (c.rows.made + c.turns._turn) b now now (book_of c.turn.new.self) refl
          c.turns.invariant.so_far c.in_ok-sink.sink (sym c.is_some.ensures ∙ told) c.in_ok-sink.ensures.turn);
      room =
          let room = c.turns.invariant.room in let used = c.turn.ensures.room in omega (arith, room, used);
    }

pub returns-then-is_some-clause-runs : goal.returns-then-is_some-clause-runs
returns-then-is_some-clause-runs g c =
    let b = book_of c.args.self.now in
    let now = book_of c.turns.self in
    let told : c.is_some.result ≡ true = search rules in
    let below = c.turns-test.true in
    let within = c.turns_for-more.ensures.within in
    runs_to_sink c.args.quota (c.rows.made + c.turns._turn) b now now (book_of c.turn.new.self) refl
    c.turns.invariant.so_far c.args.most (omega (arith, below, within, c.rows.invariant.within)) c.in_ok-sink.sink
    (sym c.is_some.ensures ∙ told) c.in_ok-sink.ensures.turn

pub rows-preserved : goal.rows-preserved
rows-preserved g c =
    let within = c.turns_for-more.ensures.within in
    let all : c.turns._turn ≡ c.turns_for-more.result = omega arith in
    record {
      so_far =
          subst (λ n. IsSoFar c.args.quota (c.rows.made + n) (book_of c.args.self.now) (book_of c.turns.self)) all
          c.turns.invariant.so_far;
      within = omega (arith, within, c.rows.invariant.within);
    }

pub rows-smaller : goal.rows-smaller
rows-smaller g c =
    let some = c.turns_for-more.ensures.some in
    let within = c.turns_for-more.ensures.within in
    omega (arith, some, within, c.rows-test.true)

pub returns-clause-runs : goal.returns-clause-runs
returns-clause-runs g c =
    runs_so_far c.args.quota c.args.most c.rows.made (book_of c.args.self.now) (book_of c.rows.self)
    c.rows.invariant.so_far c.rows.invariant.within (λ below. absurd (omega (arith, below, c.rows-test.false)))

pub returns-in_err-reserve-clause-in_vain : goal.returns-in_err-reserve-clause-in_vain
returns-in_err-reserve-clause-in_vain g c =
    let now = book_of c.rows.self in
    refused_with c.from_residual.result
    (refused_before c.args.quota c.args.most c.rows.made (book_of c.args.self.now) now
    (recorded now c.reserve.new.self now.machine now.schedule)
    (same_recorded now c.reserve.new.self now.machine now.schedule now.history c.in_err-reserve.ensures.events
    c.in_err-reserve.ensures.kept) c.rows.invariant.so_far
    c.rows-test.true)

pub returns-in_err-sink-clause-in_vain : goal.returns-in_err-sink-clause-in_vain
returns-in_err-sink-clause-in_vain g c =
    let below = c.turns-test.true in
    let within = c.turns_for-more.ensures.within in
    refused_with c.from_residual-in_err-sink.result
    (refused_in_turn c.args.quota c.args.most (c.rows.made + c.turns._turn) (book_of c.args.self.now)
    (book_of c.turns.self) (book_of c.turn.new.self) c.in_err-sink.ensures.in_vain c.turns.invariant.so_far
    (omega (arith, below, within, c.rows-test.true)))
