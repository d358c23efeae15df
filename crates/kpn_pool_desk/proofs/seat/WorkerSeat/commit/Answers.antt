use Rattle.kpn_pool_desk.proofs.Common.{◌≡◌, ◌+◌, ◌<◌, sym, ap, ◌∙◌, subst, arith, err_from_is_err_and, program_of, advanced_of, held_count, Commits, RefusesCommit, commits_much, Desk}
use Rattle.kpn_pool_desk.proofs.Keeping.{counted_desk}
use Rattle.kpn_pool_desk.proofs.seat.WorkerSeat.commit.Goals as goal

pub returns-in_err-done-clause-refused : goal.returns-in_err-done-clause-refused
returns-in_err-done-clause-refused g c =
    let told = err_from_is_err_and c.from_residual.result c.from_residual.ensures.1 in
    let x =
    advanced_of (program_of g.J.Job.network c.args.p) c.args.from.now c.args.to.now c.args.made.0 c.args.made.1 in
    rw (told.1, told.2)
    (subst (λ (d : Desk). RefusesCommit c.args.p x d.book c.in_err-done.field-0.0) c.desk.view_is
    (subst (λ t. RefusesCommit c.args.p
    (advanced_of (program_of t c.args.p) c.args.from.now c.args.to.now c.args.made.0 c.args.made.1) c.desk.inside.book
    c.in_err-done.field-0.0) c.desk.invariant.network c.in_err-done.ensures.refused))

pub count-requires : goal.count-requires
count-requires g c =
    let x =
    advanced_of (program_of c.desk.inside.book.tables c.args.p) c.args.from.now c.args.to.now c.args.made.0 c.args.made.1
    in
    let one : c.commit_own.new.self.commits ≡ c.desk.inside.book.commits + 1 =
    c.what_a_commit_does.ensures.commits c.args.p x c.in_ok-done.done c.desk.inside.book c.commit_own.new.self
    c.in_ok-done.ensures.done in
    let counted : c.desk.inside.total.total ≡ c.desk.inside.book.commits = c.desk.invariant.counted in
    let few : c.commit_own.new.self.commits + held_count c.commit_own.new.self < 18446744073709551616 =
    c.known-2.ensures.kept.countable in
    omega (arith, one, counted, few)

pub invariant_of-desk-2 : goal.invariant_of-desk-2
invariant_of-desk-2 g c =
    let x =
    advanced_of (program_of c.desk.inside.book.tables c.args.p) c.args.from.now c.args.to.now c.args.made.0 c.args.made.1
    in
    let one =
    c.what_a_commit_does.ensures.commits c.args.p x c.in_ok-done.done c.desk.inside.book c.commit_own.new.self
    c.in_ok-done.ensures.done in
    counted_desk c.desk.invariant c.commit_own.new.self c.count.new.total.total c.known-2.ensures
    (c.what_a_commit_does.ensures.tables c.args.p x c.in_ok-done.done c.desk.inside.book c.commit_own.new.self
    c.in_ok-done.ensures.done)
    (commits_much c.args.p x c.in_ok-done.done c.desk.inside.book c.commit_own.new.self c.in_ok-done.ensures.done)
    (c.count.ensures.total ∙ ap (λ n. n + 1) c.desk.invariant.counted ∙ sym one)

pub returns-clause-done : goal.returns-clause-done
returns-clause-done g c =
    subst (λ (d : Desk). Commits c.args.p
    (advanced_of (program_of g.J.Job.network c.args.p) c.args.from.now c.args.to.now c.args.made.0 c.args.made.1)
    c.in_ok-done.done d.book c.commit_own.new.self) c.desk.view_is
    (subst (λ t. Commits c.args.p
    (advanced_of (program_of t c.args.p) c.args.from.now c.args.to.now c.args.made.0 c.args.made.1) c.in_ok-done.done
    c.desk.inside.book c.commit_own.new.self) c.desk.invariant.network c.in_ok-done.ensures.done)
