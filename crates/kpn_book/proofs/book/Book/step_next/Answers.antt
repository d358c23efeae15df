use Rattle.kpn_book.proofs.Common.{◌+◌, ◌<◌, ◌^◌, refl, sym, ap, ◌∙◌, subst, rules, program_of, advanced_of, frame_in, put_back, IsKept, book_of}
use Rattle.kpn_book.proofs.Following.{moved}
use Rattle.kpn_book.proofs.Answering.{is_counted}
use Rattle.kpn_book.proofs.Committing.{port_reserved, kept_put_back, HasStepped, has_stepped}
use Rattle.kpn_book.proofs.book.Book.step_next.Given as given
use Rattle.kpn_book.proofs.book.Book.step_next.Goals as goal
use Rattle.kpn_book.proofs.book.Book.step_next.Goals.{After-step-stop}

stepped : (g : given.Over) (c : After-step-stop g)
    → let o = book_of c.hold_next.new.self in
    HasStepped c.args.quota c.in-Some.p c.step-stop.result.1 c.args.self.now
    (moved o c.step-stop.new.self o.schedule)
stepped g c =
    let p = c.in-Some.p in
    let o = book_of c.hold_next.new.self in
    let s = c.step-stop.new.self in
    let stop = c.step-stop.result.1 in
    let x = advanced_of (program_of o.tables p) (frame_in o.machine p) (frame_in s p) c.step-stop.result.0 stop in
    let o1 = moved o s o.schedule in
    subst (λ z. HasStepped c.args.quota p stop z o1) c.self.view_is
    (has_stepped c.args.quota p (book_of c.self.inside.parts) o x c.in-Some.ensures.claims.0 c.in-Some.ensures.claims.1
    (record { program = refl; from = refl }) c.step-stop.ensures.advance c.step-stop.ensures.quota o1
    (ap (λ z. moved o z o.schedule) c.step-stop.ensures.after))

pub invariant_of-self-in-Err : goal.invariant_of-self-in-Err
invariant_of-self-in-Err g c =
    let is = stepped g (goal.at.invariant_of-self-in-Err g c).After-step-stop in
    let a = book_of c.reserve.new.self in
    let p = c.in-Some.p in
    subst IsKept
    (sym (ap (moved a a.machine) c.put_back.ensures ∙ ap (put_back p) c.in-Err.ensures.1))
    (kept_put_back _ is.kept p is.held)

pub reserve-requires-clause-step : goal.reserve-requires-clause-step
reserve-requires-clause-step g c =
    (stepped g (goal.at.reserve-requires-clause-step g c).After-step-stop).kept.in_step

pub handle_stop-done-requires-clause-sound : goal.handle_stop-done-requires-clause-sound
handle_stop-done-requires-clause-sound g c =
    let is = stepped g (goal.at.handle_stop-done-requires-clause-sound g c).After-step-stop in
    let kept = (is.at_stop (book_of c.reserve.new.self) c.in_default-reserve.ensures.1).kept in
    record { in_step = kept.in_step; nothing_owed = kept.nothing_owed }

pub handle_stop-done-requires-clause-held : goal.handle_stop-done-requires-clause-held
handle_stop-done-requires-clause-held g c =
    let is = stepped g (goal.at.handle_stop-done-requires-clause-held g c).After-step-stop in
    let held = (is.at_stop (book_of c.reserve.new.self) c.in_default-reserve.ensures.1).held in
    (held.there, held.held)

pub handle_stop-done-requires-clause-port : goal.handle_stop-done-requires-clause-port
handle_stop-done-requires-clause-port g c =
    let o = book_of c.hold_next.new.self in
    let s = c.step-stop.new.self in
    port_reserved c.step-stop.result.1 (moved o s o.schedule) (book_of c.reserve.new.self)
    c.in_default-reserve.ensures.1 c.in-Some.p (frame_in s c.in-Some.p, c.step-stop.ensures.port)

pub returns-in-Err-clause-in_vain : goal.returns-in-Err-clause-in_vain
returns-in-Err-clause-in_vain g c =
    let a = book_of c.reserve.new.self in
    (stepped g (goal.at.returns-in-Err-clause-in_vain g c).After-step-stop).in_vain
    (moved a a.machine c.put_back.new.self) c.in-Err.ensures.0
    (ap (moved a a.machine) c.put_back.ensures ∙ ap (put_back c.in-Some.p) c.in-Err.ensures.1)

pub invariant_of-self : goal.invariant_of-self
invariant_of-self g c =
    subst (λ o. IsKept (book_of o)) (sym c.in_default.ensures.same) c.self.invariant

pub overflow_add-self : goal.overflow_add-self
overflow_add-self g c =
    let is = stepped g (goal.at.overflow_add-self g c).After-step-stop in
    let at = is.at_stop (book_of c.reserve.new.self) c.in_default-reserve.ensures.1 in
    let below : c.handle_stop-done.new.self.commits + 1 < 2 ^ 64 =
    (is_counted _ _ _ _ _ _ at c.handle_stop-done.ensures.answered).fits in
    search rules

pub invariant_of-self-2 : goal.invariant_of-self-2
invariant_of-self-2 g c =
    let is = stepped g (goal.at.invariant_of-self-2 g c).After-step-stop in
    let at = is.at_stop (book_of c.reserve.new.self) c.in_default-reserve.ensures.1 in
    (is_counted _ _ _ _ _ _ at c.handle_stop-done.ensures.answered).kept

pub returns-clause-step : goal.returns-clause-step
returns-clause-step g c =
    let is = stepped g (goal.at.returns-clause-step g c).After-step-stop in
    let at = is.at_stop (book_of c.reserve.new.self) c.in_default-reserve.ensures.1 in
    (is_counted _ _ _ _ _ _ at c.handle_stop-done.ensures.answered).is
