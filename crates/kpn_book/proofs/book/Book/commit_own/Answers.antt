use Rattle.kpn_book.proofs.Common.{◌≡◌, ℕ, ◌+◌, ◌<◌, ◌^◌, refl, sym, ap, ◌∙◌, subst, rules, IsTrue, program_of, Frame, Stop, IsAdvance, IsAtPort, advanced_of, channel_in, frame_in, advanced_as, Book, IsOwnAdvance, Commits, IsKept, book_of}
use Rattle.kpn_book.proofs.Following.{moved}
use Rattle.kpn_book.proofs.Answering.{IsAtStop, is_counted}
use Rattle.kpn_book.proofs.Committing.{own_reserved, port_reserved, goes_to_stop, kept_reserved}
use Rattle.kpn_book.proofs.book.Book.commit_own.Given as given
use Rattle.kpn_book.proofs.book.Book.commit_own.Goals as goal
use Rattle.kpn_book.proofs.book.Book.commit_own.Goals.{After-step_to}

-- the stop is at a port, also by the tables of the open book
at_port : (b s : Book) (p : ℕ) (f : Frame) (z : Stop) → b ≡ s → IsAtPort (program_of s.tables p) f z
    → (to : Frame) × IsAtPort (program_of b.tables p) to z
at_port b s p f z is at = (f, subst (λ x. IsAtPort (program_of x.tables p) f z) (sym is) at)

-- the process is at its stop once it has gone there
at_stop : (g : given.Over) (c : After-step_to g)
    → let p = c.args.p in
    let now = c.args.self.now in
    let o = book_of c.reserve.new.self in
    let x = advanced_of (program_of now.tables p) c.args.from.now c.args.to.now c.args.made.0 c.args.made.1 in
    IsAtStop p c.args.made.1 (λ answer z. Commits p x answer now z) (moved o c.step_to.new.self o.schedule)
at_stop g c =
    let b = book_of c.self.inside.parts in
    let p = c.args.p in
    let o = book_of c.reserve.new.self in
    let x = advanced_of (program_of c.args.self.now.tables p) c.args.from.now c.args.to.now c.args.made.0 c.args.made.1 in
    let a = moved o c.step_to.new.self o.schedule in
    let own : IsOwnAdvance b p x = record {
      program = ap (λ z. program_of z.tables p) (sym c.self.view_is);
      from = c.same_frame.ensures.0 (search rules) ∙ c.frame.ensures;
    } in
    subst (λ s. IsAtStop p c.args.made.1 (λ answer z. Commits p x answer s z) a) c.self.view_is
    (goes_to_stop b o a p x c.self.invariant (c.is_held.ensures.0 (search rules)) c.requires.advance own
    c.in_ok-reserve.ensures.1 (ap (λ z. moved o z o.schedule) c.step_to.ensures.after))

pub reserve-requires-clause-port : goal.reserve-requires-clause-port
reserve-requires-clause-port g c =
    at_port (book_of c.self.inside.parts) c.args.self.now c.args.p c.args.to.now c.args.made.1 c.self.view_is
    c.requires.port

pub step_to-requires-clause-advance : goal.step_to-requires-clause-advance
step_to-requires-clause-advance g c =
    let b = book_of c.self.inside.parts in
    let p = c.args.p in
    let x = advanced_of (program_of c.args.self.now.tables p) c.args.from.now c.args.to.now c.args.made.0
    c.args.made.1 in
    let own : IsOwnAdvance b p x = record {
      program = ap (λ z. program_of z.tables p) (sym c.self.view_is);
      from = c.same_frame.ensures.0 (search rules) ∙ c.frame.ensures;
    } in
    let o = book_of c.reserve.new.self in
    let there = own_reserved x.stop b o c.in_ok-reserve.ensures.1 p x own in
    advanced_as IsAdvance x.program (program_of o.tables p) x.from (frame_in o.machine p) x.to x.to x.steps x.stop
    there.program there.from refl c.requires.advance

pub handle_stop-done-requires-clause-sound : goal.handle_stop-done-requires-clause-sound
handle_stop-done-requires-clause-sound g c =
    let kept = (at_stop g (goal.at.handle_stop-done-requires-clause-sound g c).After-step_to).kept in
    record { in_step = kept.in_step; nothing_owed = kept.nothing_owed }

pub handle_stop-done-requires-clause-held : goal.handle_stop-done-requires-clause-held
handle_stop-done-requires-clause-held g c =
    let held = (at_stop g (goal.at.handle_stop-done-requires-clause-held g c).After-step_to).held in
    (held.there, held.held)

pub handle_stop-done-requires-clause-port : goal.handle_stop-done-requires-clause-port
handle_stop-done-requires-clause-port g c =
    let b = book_of c.self.inside.parts in
    port_reserved c.args.made.1 b (book_of c.reserve.new.self) c.in_ok-reserve.ensures.1 c.args.p
    (at_port b c.args.self.now c.args.p c.args.to.now c.args.made.1 c.self.view_is c.requires.port)

pub handle_stop-done-requires-clause-reserved : goal.handle_stop-done-requires-clause-reserved
handle_stop-done-requires-clause-reserved g c d v writes =
    subst (λ s. IsTrue (channel_in s d).is_reserved) (sym c.step_to.ensures.after)
    (c.in_ok-reserve.ensures.0.item d v writes)

pub invariant_of-self : goal.invariant_of-self
invariant_of-self g c = subst IsKept (sym c.in_err-reserve.ensures.1) c.self.invariant

pub overflow_add-self : goal.overflow_add-self
overflow_add-self g c =
    let below : c.handle_stop-done.new.self.commits + 1 < 2 ^ 64 =
    (is_counted _ _ _ _ _ _ (at_stop g (goal.at.overflow_add-self g c).After-step_to) c.handle_stop-done.ensures.answered).fits in
    search rules

pub invariant_of-self-2 : goal.invariant_of-self-2
invariant_of-self-2 g c =
    (is_counted _ _ _ _ _ _ (at_stop g (goal.at.invariant_of-self-2 g c).After-step_to) c.handle_stop-done.ensures.answered).kept

pub returns-clause-done : goal.returns-clause-done
returns-clause-done g c =
    (is_counted _ _ _ _ _ _ (at_stop g (goal.at.returns-clause-done g c).After-step_to) c.handle_stop-done.ensures.answered).is

pub step_to-requires-clause-shape : goal.step_to-requires-clause-shape
step_to-requires-clause-shape g c =
    (kept_reserved c.args.made.1 (book_of c.self.inside.parts) (book_of c.reserve.new.self) c.in_ok-reserve.ensures.1
    c.self.invariant).in_step.run.shape
