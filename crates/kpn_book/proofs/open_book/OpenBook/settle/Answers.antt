use Rattle.kpn_book.proofs.Common.{◌≡◌, length, true, false, Some, None, refl, sym, ap, ◌∙◌, subst, arith, rules, IsKept, book_of}
use Rattle.kpn_book.proofs.Following.{moved}
use Rattle.kpn_book.proofs.Committing.{kept_put_back}
use Rattle.kpn_book.proofs.Settling.{stuck_here, settles_not, settles_by, part_held}
use Rattle.kpn_book.proofs.open_book.OpenBook.settle.Goals as goal

pub has_part-requires-clause-region : goal.has_part-requires-clause-region
has_part-requires-clause-region g c =
    let same = ap (λ t. length t.instances) c.requires.tables in omega (arith, c.requires.process, same)

pub has_part-requires-clause-process : goal.has_part-requires-clause-process
has_part-requires-clause-process g c =
    let same = c.requires.kept.in_step.processes in omega (arith, c.requires.process, same)

pub returns-then-not-has_part-clause-settles : goal.returns-then-not-has_part-clause-settles
returns-then-not-has_part-clause-settles g c =
    let told : c.has_part.result ≡ false = search rules in
    settles_not c.args.batch.now c.args.p (book_of c.args.self.now) (sym c.has_part.ensures ∙ told)

pub put_back-requires-clause-process : goal.put_back-requires-clause-process
put_back-requires-clause-process g c =
    let same = c.requires.kept.in_step.processes in omega (arith, c.requires.process, same)

pub put_back-requires-clause-held : goal.put_back-requires-clause-held
put_back-requires-clause-held g c =
    let told : c.has_part.result ≡ true = search rules in
    (part_held c.args.batch.now c.args.p (book_of c.args.self.now) (sym c.has_part.ensures ∙ told)).held

pub returns-in_default-clause-settles : goal.returns-in_default-clause-settles
returns-in_default-clause-settles g c =
    let b = book_of c.args.self.now in
    let told : c.has_part.result ≡ true = search rules in
    settles_by c.args.batch.now c.args.p b (moved b b.machine c.put_back.new.self) true None
    (sym c.has_part.ensures ∙ told) (sym c.in_default.is ∙ c.stop.ensures)
    (refl, ap (moved b b.machine) c.put_back.ensures)

pub returns-in_default-clause-kept : goal.returns-in_default-clause-kept
returns-in_default-clause-kept g c =
    let b = book_of c.args.self.now in
    let told : c.has_part.result ≡ true = search rules in
    subst IsKept (sym (ap (moved b b.machine) c.put_back.ensures))
    (kept_put_back b c.requires.kept c.args.p
    (part_held c.args.batch.now c.args.p b (sym c.has_part.ensures ∙ told)))

pub commit_or_put_back-requires-clause-held : goal.commit_or_put_back-requires-clause-held
commit_or_put_back-requires-clause-held g c =
    let told : c.has_part.result ≡ true = search rules in
    part_held c.args.batch.now c.args.p (book_of c.args.self.now) (sym c.has_part.ensures ∙ told)

pub commit_or_put_back-requires-clause-stands : goal.commit_or_put_back-requires-clause-stands
commit_or_put_back-requires-clause-stands g c =
    let told : c.has_part.result ≡ true = search rules in
    (stuck_here c.args.batch.now c.args.p (book_of c.args.self.now) c.in-Some.stop c.known.ensures c.requires.tables
    c.requires.process c.requires.frame (sym c.has_part.ensures ∙ told)
    (sym c.stop.ensures ∙ c.in-Some.is)).stands

pub commit_or_put_back-requires-clause-port : goal.commit_or_put_back-requires-clause-port
commit_or_put_back-requires-clause-port g c =
    let told : c.has_part.result ≡ true = search rules in
    (stuck_here c.args.batch.now c.args.p (book_of c.args.self.now) c.in-Some.stop c.known.ensures c.requires.tables
    c.requires.process c.requires.frame (sym c.has_part.ensures ∙ told)
    (sym c.stop.ensures ∙ c.in-Some.is)).port

pub returns-clause-settles : goal.returns-clause-settles
returns-clause-settles g c =
    let told : c.has_part.result ≡ true = search rules in
    settles_by c.args.batch.now c.args.p (book_of c.args.self.now) (book_of c.commit_or_put_back.new.self)
    c.commit_or_put_back.result (Some c.in-Some.stop) (sym c.has_part.ensures ∙ told)
    (sym c.in-Some.is ∙ c.stop.ensures) c.commit_or_put_back.ensures.commits
