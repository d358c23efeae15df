use Rattle.kpn_pool_desk.proofs.Common.{sym, ap, ◌∙◌, subst, inl, inr, program_of, advanced_of, IsHeld, IsOwnAdvance, Commits, RefusesCommit, Desk}
use Rattle.kpn_book.specs.declared.answers.Refused.TheVariants.{NoMemory}
use Rattle.kpn_pool_desk.proofs.Batches.{commit_alone, foreign_unless, steps_made}
use Rattle.kpn_pool_desk.proofs.turn.Turn.commit.Goals as goal

pub returns-in-Ok-clause-commits : goal.returns-in-Ok-clause-commits
returns-in-Ok-clause-commits g c yes_made =
    let program = program_of g.J.Job.network c.self.inside.process in
    let last = c.in-Some.last in
    let made = c.in-Some-made.made in
    let x = advanced_of program last.claim.frame last.to made.0 made.1 in
    let steps =
    ap (λ t. t.steps) (sym c.self.view_is)
    ∙ steps_made program c.self.inside.last last made c.in-Some.is c.in-Some-made.is c.self.invariant in
    inl (
      x,
      c.in-Ok.done,
      steps,
      subst (λ (d : Desk). Commits c.args.self.now.process x c.in-Ok.done c.args.desk.now.book d.book)
          (sym c.note.ensures)
          (subst (λ p. Commits p x c.in-Ok.done c.args.desk.now.book c.commit.new.desk.book)
          (ap (λ t. t.process) c.self.view_is) c.in-Ok.ensures.done),
    )

pub returns-in-Ok-clause-same : goal.returns-in-Ok-clause-same
returns-in-Ok-clause-same g c =
    commit_alone c.args.desk.now c.commit.new.desk c.note.new.self c.in-Ok.ensures.total c.note.ensures

pub returns-in-Err-clause-commits : goal.returns-in-Err-clause-commits
returns-in-Err-clause-commits g c told =
    let program = program_of g.J.Job.network c.self.inside.process in
    let last = c.in-Some.last in
    let made = c.in-Some-made.made in
    let x = advanced_of program last.claim.frame last.to made.0 made.1 in
    let b = c.args.desk.now.book in
    let steps =
    ap (λ t. t.steps) (sym c.self.view_is)
    ∙ steps_made program c.self.inside.last last made c.in-Some.is c.in-Some-made.is c.self.invariant in
    let foreign =
    foreign_unless c.self.inside.process x b c.in-Err.cause c.in-Err.ensures.refused (c.are_foreign.ensures.foreign told) in
    inr (
      inl (
        x,
        steps,
        subst (λ p. ¬ (IsHeld b p × IsOwnAdvance b p x)) (ap (λ t. t.process) c.self.view_is) foreign,
      ),
      ap (λ d. d.book) c.in-Err.ensures.as_before.1,
    )

pub returns-in-Err-clause-refused : goal.returns-in-Err-clause-refused
returns-in-Err-clause-refused g c told =
    let program = program_of g.J.Job.network c.self.inside.process in
    let last = c.in-Some.last in
    let made = c.in-Some-made.made in
    let x = advanced_of program last.claim.frame last.to made.0 made.1 in
    let b = c.args.desk.now.book in
    let steps =
    ap (λ t. t.steps) (sym c.self.view_is)
    ∙ steps_made program c.self.inside.last last made c.in-Some.is c.in-Some-made.is c.self.invariant in
    let refused : RefusesCommit c.self.inside.process x b NoMemory =
    subst (RefusesCommit c.self.inside.process x b) (c.are_foreign.ensures.memory told) c.in-Err.ensures.refused in
    let process = ap (λ t. t.process) c.self.view_is in (
      inr (
        x,
        steps,
        subst (λ p. IsHeld b p) process refused.0,
        subst (λ p. IsOwnAdvance b p x) process refused.1,
      ),
      c.in-Err.ensures.as_before.1,
    )
