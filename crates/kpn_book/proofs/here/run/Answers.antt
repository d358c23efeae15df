use Rattle.std.proofs.lemmas.Bool.{both_ways}
use Rattle.kpn_book.specs.RunHere.{no_turn}
use Rattle.kpn_book.proofs.Stepped.{IsLater-refl, IsLater-trans}
use Rattle.kpn_book.proofs.here.run.Goals as goal

pub returns-then-has_enough : goal.returns-then-has_enough
returns-then-has_enough c = record {
  made = λ _. (0, no_turn);
  later = IsLater-refl c.args.book.now;
  nobody_held = c.requires.nobody_held;
  comes_to = c.has_enough.ensures.0 c.if-has_enough.true;
  within = λ below. below;
}

pub run-init : goal.run-init
run-init c = record {
  turns = λ _. (0, no_turn);
  later = IsLater-refl c.args.book.now;
  to_itself = c.requires;
  few = λ enough. both_ways c.has_enough.result c.if-has_enough.false (c.has_enough.ensures.1 enough);
  within = λ below. below;
}

pub returns-then-branch : goal.returns-then-branch
returns-then-branch c =
    let stepped = c.in_ok-step.ensures in
    record {
      made = λ ordered.
          let turns = c.run.invariant.turns ordered in stepped.made ordered c.args.book.now turns.0 turns.1;
      later = IsLater-trans c.args.book.now c.run.book c.step.new.book c.run.invariant.later stepped.later;
      nobody_held = stepped.to_itself.nobody_held;
      comes_to = stepped.decides.0 c.if-branch.true;
      within = λ _. stepped.within;
    }

pub run-preserved : goal.run-preserved
run-preserved c =
    let stepped = c.in_ok-step.ensures in
    record {
      turns = λ ordered.
          let turns = c.run.invariant.turns ordered in stepped.made ordered c.args.book.now turns.0 turns.1;
      later = IsLater-trans c.args.book.now c.run.book c.step.new.book c.run.invariant.later stepped.later;
      to_itself = stepped.to_itself;
      few = λ enough. both_ways c.in_ok-step.field-0 c.if-branch.false (stepped.decides.1 enough);
      within = λ _. stepped.within;
    }
