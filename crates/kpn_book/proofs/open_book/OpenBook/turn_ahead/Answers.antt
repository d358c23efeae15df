use Rattle.kpn_book.proofs.Common.{◌≡◌, None, refl, sym, ap, subst, ◌∙◌, arith, inl, inr, cases_eq, IsNetwork, held_count, IsBook, book_of, GoesFurther}
use Rattle.kpn_book.specs.Open.{HasProgramAndPorts}
use Rattle.kpn_book.specs.GoingOn.{no_turn, another_order, steps_on, IsReordered}
use Rattle.kpn_book.proofs.FirstOfQueue.{holds_first, first_there, refused_with}
use Rattle.kpn_book.proofs.Following.{moved}
use Rattle.kpn_book.proofs.GoingOn.{goes_back, and_then}
use Rattle.kpn_book.proofs.open_book.OpenBook.turn_ahead.Given as given
use Rattle.kpn_book.proofs.open_book.OpenBook.turn_ahead.Goals as goal
use Rattle.kpn_book.proofs.open_book.OpenBook.turn_ahead.Goals.{After-rotate}

pub program-program-requires : goal.program-program-requires
program-program-requires g c =
    first_there (book_of c.args.self.now) c.args.p c.known-2.ensures.schedule c.requires.kept c.requires.first

pub ins-ins-requires : goal.ins-ins-requires
ins-ins-requires g c =
    first_there (book_of c.args.self.now) c.args.p c.known-2.ensures.schedule c.requires.kept c.requires.first

pub outs-outs-requires : goal.outs-outs-requires
outs-outs-requires g c =
    first_there (book_of c.args.self.now) c.args.p c.known-2.ensures.schedule c.requires.kept c.requires.first

pub events-init : goal.events-init
events-init g c = record {
  turns = no_turn;
  tables = refl;
  kept = c.requires.kept;
  held = refl;
  commits = omega arith;
  first = c.requires.first;
  room = let room = c.requires.room in omega (arith, room);
}

pub event_ahead-requires-clause-own : goal.event_ahead-requires-clause-own
event_ahead-requires-clause-own g c =
    subst (λ t. HasProgramAndPorts t c.args.p c.program-program.result.now c.ins-ins.result.now c.outs-outs.result.now)
    (sym c.events.invariant.tables)
    (record { runs = c.program-program.ensures; reads = c.ins-ins.ensures; writes = c.outs-outs.ensures })

pub returns-in_err-ended-clause-in_vain : goal.returns-in_err-ended-clause-in_vain
returns-in_err-ended-clause-in_vain g c =
    let now = book_of c.events.self in
    let after = book_of c.event_ahead.new.self in
    let steps = c.in_err-ended.ensures.in_vain in
    let same : after.commits ≡ now.commits = ap (λ b. b.commits) steps.there in
    let commits = c.events.invariant.commits in
    let below = c.events-test.true in
    refused_with c.from_residual.result
    (record {
      turns = steps_on now after c.events.invariant.turns steps;
      fewer = omega (arith, same, commits, below);
    })

pub returns-in-Some-clause-goes : goal.returns-in-Some-clause-goes
returns-in-Some-clause-goes g c =
    let first = book_of c.args.self.now in
    let now = book_of c.events.self in
    let after = book_of c.event_ahead.new.self in
    let commits = c.events.invariant.commits in
    let below = c.events-test.true in
    let goes =
    subst (λ e. GoesFurther c.args.quota c.args.p c.events.made e now after) c.in-Some.is c.in_ok-ended.ensures.goes in
    let most = goes.at_most in
    let less = goes.not_less in
    record {
      turns = and_then c.args.quota first now c.in-Some.sink after c.events.invariant.turns goes.turns;
      within = omega (arith, commits, below, most);
      some = λ ready many.
          elim (cases_eq c.events.made 0) [
            | inl none ↦ let one = goes.begins none in omega (arith, commits, one)
            | inr other ↦ omega (arith, commits, other, less)
          ];
    }

pub events-preserved : goal.events-preserved
events-preserved g c =
    let first = book_of c.args.self.now in
    let now = book_of c.events.self in
    let after = book_of c.event_ahead.new.self in
    let commits = c.events.invariant.commits in
    let goes =
    subst (λ e. GoesFurther c.args.quota c.args.p c.events.made e now after) c.in_default.is
    c.in_ok-ended.ensures.goes in
    let on = goes.goes_on refl in
    let one = on.1 in
    record {
      turns = and_then c.args.quota first now None after c.events.invariant.turns goes.turns;
      tables = goes.tables ∙ c.events.invariant.tables;
      kept = c.in_ok-ended.ensures.kept;
      held = goes.held ∙ c.events.invariant.held;
      commits = omega (arith, commits, one);
      first = on.0;
      room =
          let room = c.events.invariant.room in
          let used = c.in_ok-ended.ensures.room in omega (arith, room, used);
    }

-- the turn was as long as may be
order : (g : given.Over) (c : After-rotate g)
    → IsReordered (book_of c.events.self) (moved (book_of c.events.self) c.events.self.machine c.rotate.new.self)
order g c =
    let now = book_of c.events.self in
    let is : IsBook now =
    record {
      network = subst IsNetwork (sym c.events.invariant.tables) c.known.ensures;
      schedule = c.known-3.ensures.schedule;
      kept = c.events.invariant.kept;
    } in
    goes_back now c.args.p is
    (holds_first now.schedule c.known-3.ensures.schedule c.args.p c.events.invariant.first) c.events.invariant.first
    c.rotate.new.self c.rotate.ensures

pub returns-clause-goes : goal.returns-clause-goes
returns-clause-goes g c =
    let x = (goal.at.returns-clause-goes g c).After-rotate in
    let now = book_of c.events.self in
    let commits = c.events.invariant.commits in
    let most = c.events.auto.made-end in
    let all = c.events-test.false in
    let some = c.requires.some in
    record {
      turns =
          another_order now (moved now c.events.self.machine c.rotate.new.self) c.events.invariant.turns (order g x);
      within = omega (arith, commits, most);
      some = λ ready many. omega (arith, commits, all, some);
    }

pub returns-clause-held : goal.returns-clause-held
returns-clause-held g c =
    ap held_count (order g (goal.at.returns-clause-held g c).After-rotate).same ∙ c.events.invariant.held

pub returns-clause-kept : goal.returns-clause-kept
returns-clause-kept g c = (order g (goal.at.returns-clause-kept g c).After-rotate).is.kept
