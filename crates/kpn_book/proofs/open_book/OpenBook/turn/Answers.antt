use Rattle.kpn_book.proofs.Common.{◌+◌, ◌<◌, ◌^◌, refl, sym, subst, arith, rules, program_of, advanced_of, frame_in, IsKept, book_of, StepsUncommitted}
use Rattle.kpn_book.proofs.FirstOfQueue.{holds_first, first_there, first_kept, kept_in_vain, turn_in_vain, refused_with, turn_fits, turn_made}
use Rattle.kpn_book.proofs.open_book.OpenBook.turn.Goals as goal

pub step-stop-requires-clause-process : goal.step-stop-requires-clause-process
step-stop-requires-clause-process g c =
    first_there (book_of c.args.self.now) c.args.p c.known-2.ensures.schedule c.requires.kept c.requires.first

pub program-program-requires : goal.program-program-requires
program-program-requires g c =
    first_there (book_of c.args.self.now) c.args.p c.known-2.ensures.schedule c.requires.kept c.requires.first

pub handle_first-requires-clause-first : goal.handle_first-requires-clause-first
handle_first-requires-clause-first g c =
    holds_first c.args.self.now.schedule c.known-2.ensures.schedule c.args.p c.requires.first

pub handle_first-requires-clause-kept : goal.handle_first-requires-clause-kept
handle_first-requires-clause-kept g c =
    let b = book_of c.args.self.now in
    let p = c.args.p in
    let s = c.step-stop.new.self in
    let x =
    advanced_of (program_of b.tables p) (frame_in b.machine p) (frame_in s p) c.step-stop.result.0
    c.step-stop.result.1 in
    let holds = holds_first b.schedule c.known-2.ensures.schedule p c.requires.first in
    first_kept c.args.quota p b c.requires.kept holds c.requires.countable s x (record { program = refl; from = refl })
    c.step-stop.ensures.advance c.step-stop.ensures.quota c.step-stop.ensures.after

pub returns-in_err-sink-clause-kept : goal.returns-in_err-sink-clause-kept
returns-in_err-sink-clause-kept g c =
    let b = book_of c.args.self.now in
    let p = c.args.p in
    let s = c.step-stop.new.self in
    let x =
    advanced_of (program_of b.tables p) (frame_in b.machine p) (frame_in s p) c.step-stop.result.0
    c.step-stop.result.1 in
    let holds = holds_first b.schedule c.known-2.ensures.schedule p c.requires.first in
    subst IsKept (sym c.in_err-sink.ensures.as_before)
    (kept_in_vain c.args.quota p b c.requires.kept holds c.requires.countable s x (record { program = refl; from = refl })
    c.step-stop.ensures.advance c.step-stop.ensures.quota c.step-stop.ensures.after)

pub overflow_add-self : goal.overflow_add-self
overflow_add-self g c =
    let b = book_of c.args.self.now in
    let p = c.args.p in
    let s = c.step-stop.new.self in
    let x =
    advanced_of (program_of b.tables p) (frame_in b.machine p) (frame_in s p) c.step-stop.result.0
    c.step-stop.result.1 in
    let holds = holds_first b.schedule c.known-2.ensures.schedule p c.requires.first in
    let below : c.handle_first.new.self.commits + 1 < 2 ^ 64 =
    turn_fits c.args.quota p b c.requires.kept holds c.requires.countable s x (record { program = refl; from = refl })
    c.step-stop.ensures.advance c.step-stop.ensures.quota c.step-stop.ensures.after c.in_ok-sink.sink
    (book_of c.handle_first.new.self) c.in_ok-sink.ensures.handles in
    search rules

pub returns-clause-turn : goal.returns-clause-turn
returns-clause-turn g c =
    let b = book_of c.args.self.now in
    let p = c.args.p in
    let s = c.step-stop.new.self in
    let x =
    advanced_of (program_of b.tables p) (frame_in b.machine p) (frame_in s p) c.step-stop.result.0
    c.step-stop.result.1 in
    let holds = holds_first b.schedule c.known-2.ensures.schedule p c.requires.first in
    turn_made c.args.quota p b c.requires.kept holds c.requires.countable s x (record { program = refl; from = refl })
    c.step-stop.ensures.advance c.step-stop.ensures.quota c.step-stop.ensures.after c.in_ok-sink.sink
    (book_of c.handle_first.new.self) c.in_ok-sink.ensures.handles
    (record { network = c.known.ensures; schedule = c.known-2.ensures.schedule; kept = c.requires.kept })
    c.known-3.ensures.schedule

pub returns-clause-kept : goal.returns-clause-kept
returns-clause-kept g c = (returns-clause-turn g c).kept

pub returns-in_err-sink-clause-in_vain : goal.returns-in_err-sink-clause-in_vain
returns-in_err-sink-clause-in_vain g c =
    let b = book_of c.args.self.now in
    let p = c.args.p in
    let s = c.step-stop.new.self in
    let x =
    advanced_of (program_of b.tables p) (frame_in b.machine p) (frame_in s p) c.step-stop.result.0
    c.step-stop.result.1 in
    let holds = holds_first b.schedule c.known-2.ensures.schedule p c.requires.first in
    refused_with c.from_residual.result
    (subst (StepsUncommitted c.args.quota b) (sym c.in_err-sink.ensures.as_before)
    (turn_in_vain c.args.quota p b c.requires.kept holds c.requires.countable s x
    (record { program = refl; from = refl }) c.step-stop.ensures.advance c.step-stop.ensures.quota
    c.step-stop.ensures.after c.in_err-sink.ensures.wants c.requires.first))
