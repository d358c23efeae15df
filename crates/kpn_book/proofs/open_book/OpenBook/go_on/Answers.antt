use Rattle.kpn_book.proofs.Common.{◌≡◌, false, [], refl, sym, ap, ◌∙◌, arith, inl, inr, rules, cases_eq, held_count, book_of}
use Rattle.kpn_book.specs.GoingOn.{no_turn}
use Rattle.kpn_book.proofs.Following.{recorded, same_recorded}
use Rattle.kpn_book.proofs.FirstOfQueue.{no_first, refused_with}
use Rattle.kpn_book.proofs.GoingOn.{goes_then, goes_none, goes_within, goes_some, vain_then}
use Rattle.kpn_book.proofs.open_book.OpenBook.go_on.Given as given
use Rattle.kpn_book.proofs.open_book.OpenBook.go_on.Goals as goal
use Rattle.kpn_book.proofs.open_book.OpenBook.go_on.Goals.{After-turn_ahead}

-- the book with memory for the turn is the same book
same : (g : given.Over) (c : After-turn_ahead g)
    → recorded (book_of c.turns.self) c.reserve.new.self c.turns.self.machine c.turns.self.schedule
    ≡ book_of c.turns.self
same g c =
    same_recorded (book_of c.turns.self) c.reserve.new.self c.turns.self.machine c.turns.self.schedule
    (book_of c.turns.self).history c.in_ok-reserve.ensures.events c.in_ok-reserve.ensures.kept

pub turns-init : goal.turns-init
turns-init g c = record {
  turns = no_turn;
  kept = c.requires.kept;
  held = refl;
  least = omega arith;
  most = omega arith;
  queue = λ _. refl;
}

pub returns-in_default-clause-goes : goal.returns-in_default-clause-goes
returns-in_default-clause-goes g c =
    let now = book_of c.turns.self in
    let none : now.schedule.queue ≡ [] = no_first now.schedule.queue (sym c.next.ensures ∙ c.in_default.is) in
    let least = c.turns.invariant.least in
    let most = c.turns.invariant.most in
    record {
      turns = c.turns.invariant.turns;
      within = omega (arith, most);
      some = λ ready many.
          elim (cases_eq c.turns.self.commits c.args.self.now.commits) [
            | inl same ↦ absurd (ready (sym (c.turns.invariant.queue same) ∙ none))
            | inr other ↦ omega (arith, least, other)
          ];
    }

pub turn_ahead-requires-clause-countable : goal.turn_ahead-requires-clause-countable
turn_ahead-requires-clause-countable g c =
    let held = c.turns.invariant.held in
    let most = c.turns.invariant.most in
    let within = c.turn_within-more.ensures.within in
    let all = c.requires.countable in
    let test = c.turns-test.true in
    omega (arith, held, most, within, all, test)

pub returns-in_err-sink-clause-in_vain : goal.returns-in_err-sink-clause-in_vain
returns-in_err-sink-clause-in_vain g c =
    let x = (goal.at.returns-in_err-sink-clause-in_vain g c).After-turn_ahead in
    let now = book_of c.turns.self in
    let after = book_of c.turn_ahead.new.self in
    let most = c.turns.invariant.most in
    let within = c.turn_within-more.ensures.within in
    let test = c.turns-test.true in
    let vain =
    vain_then c.args.quota c.turn_within-more.result (book_of c.args.self.now) now
    (recorded now c.reserve.new.self c.turns.self.machine c.turns.self.schedule) after (same g x)
    c.turns.invariant.turns c.in_err-sink.ensures.in_vain in
    let fewer = vain.1 in
    refused_with c.from_residual-in_err-sink.result
    (record { turns = vain.0; fewer = omega (arith, most, within, test, fewer) })

pub returns-then-is_some-clause-goes : goal.returns-then-is_some-clause-goes
returns-then-is_some-clause-goes g c =
    let x = (goal.at.returns-then-is_some-clause-goes g c).After-turn_ahead in
    let first = book_of c.args.self.now in
    let now = book_of c.turns.self in
    let with_memory = recorded now c.reserve.new.self c.turns.self.machine c.turns.self.schedule in
    let after = book_of c.turn_ahead.new.self in
    let goes = c.in_ok-sink.ensures.goes in
    let least = c.turns.invariant.least in
    let most = c.turns.invariant.most in
    let within = c.turn_within-more.ensures.within in
    let test = c.turns-test.true in
    let is =
    goes_within c.args.quota c.turn_within-more.result first now with_memory after (same g x)
    c.turns.invariant.turns c.in_ok-sink.sink goes in
    let more =
    goes_some c.args.quota c.turn_within-more.result first now with_memory after (same g x)
    c.turns.invariant.turns c.in_ok-sink.sink goes c.in-Some.p (sym c.in-Some.is ∙ c.next.ensures)
    c.turn_within-more.ensures.some in
    record {
      turns =
          goes_then c.args.quota c.turn_within-more.result first now with_memory after (same g x)
          c.turns.invariant.turns c.in_ok-sink.sink goes;
      within = omega (arith, most, within, test, is);
      some = λ ready many. omega (arith, least, more);
    }

pub turns-preserved : goal.turns-preserved
turns-preserved g c =
    let x = (goal.at.turns-preserved g c).After-turn_ahead in
    let first = book_of c.args.self.now in
    let now = book_of c.turns.self in
    let with_memory = recorded now c.reserve.new.self c.turns.self.machine c.turns.self.schedule in
    let after = book_of c.turn_ahead.new.self in
    let goes = c.in_ok-sink.ensures.goes in
    let told : c.is_some.result ≡ false = search rules in
    let least = c.turns.invariant.least in
    let most = c.turns.invariant.most in
    let within = c.turn_within-more.ensures.within in
    let test = c.turns-test.true in
    let is =
    goes_within c.args.quota c.turn_within-more.result first now with_memory after (same g x)
    c.turns.invariant.turns c.in_ok-sink.sink goes in
    let more =
    goes_some c.args.quota c.turn_within-more.result first now with_memory after (same g x)
    c.turns.invariant.turns c.in_ok-sink.sink goes c.in-Some.p (sym c.in-Some.is ∙ c.next.ensures)
    c.turn_within-more.ensures.some in
    record {
      turns =
          goes_none c.args.quota c.turn_within-more.result first now with_memory after (same g x)
          c.turns.invariant.turns c.in_ok-sink.sink goes (sym c.is_some.ensures ∙ told);
      kept = c.in_ok-sink.ensures.kept;
      held = c.in_ok-sink.ensures.held ∙ ap held_count (same g x) ∙ c.turns.invariant.held;
      least = omega (arith, least, more);
      most = omega (arith, most, within, test, is);
      queue = λ none. absurd (omega (arith, least, more, none));
    }
