use Rattle.kpn_book.proofs.Common.{◌≡◌, ◌≢◌, ◌+◌, ◌<◌, ◌^◌, ℕ, false, slice_get, Option, Some, None, refl, sym, ap, subst, ◌∙◌, arith, rules, program_of, Advanced, IsAtPort, advanced_of, Frame, frame_in, Schedule, HoldsFirst, first_held, made_ready, Book, with_one_commit, IsKept, IsBook, StepsUncommitted, IsReordered, book_of, first_claimed, HandlesFirst, HandlesAhead, IsTurnAhead, GoesFurther}
use Rattle.kpn_step.specs.declared.stop.Stop.TheVariants.{Paused}
use Rattle.kpn_book.proofs.Following.{moved}
use Rattle.kpn_book.proofs.FirstOfQueue.{holds_first, first_there, first_kept, kept_in_vain, turn_in_vain, refused_with, turn_fits, turn_made}
use Rattle.kpn_book.proofs.GoingOn.{goes_back, ahead_made, ahead_schedule, ahead_first, ahead_fits, no_sink, further_on, over_at_sink, over_filled, over_committed, over_idly}
use Rattle.kpn_book.proofs.open_book.OpenBook.event_ahead.Given as given
use Rattle.kpn_book.proofs.open_book.OpenBook.event_ahead.Goals as goal
use Rattle.kpn_book.proofs.open_book.OpenBook.event_ahead.Goals.{After-step-stop}

-- ---- the steps

module _ (g : given.Over) (c : After-step-stop g) where
  abbrev was : Book
  was = book_of c.args.self.now

  -- at their end
  abbrev there : Book
  there = moved was c.step-stop.new.self was.schedule

  abbrev steps : Advanced
  steps =
      advanced_of (program_of was.tables c.args.p) (frame_in was.machine c.args.p)
      (frame_in c.step-stop.new.self c.args.p) c.step-stop.result.0 c.step-stop.result.1

  book : IsBook was
  book = record { network = c.known.ensures; schedule = c.known-2.ensures.schedule; kept = c.requires.kept }

  holds : HoldsFirst c.args.p was.schedule (first_held c.args.p was.schedule)
  holds = holds_first was.schedule c.known-2.ensures.schedule c.args.p c.requires.first

  held_there : IsKept (first_claimed c.args.p there)
  held_there =
      first_kept c.args.quota c.args.p was c.requires.kept holds c.requires.countable c.step-stop.new.self steps
      (record { program = refl; from = refl }) c.step-stop.ensures.advance c.step-stop.ensures.quota
      c.step-stop.ensures.after

  book_there : IsBook there
  book_there = record {
    network = c.known.ensures;
    schedule = c.known-2.ensures.schedule;
    kept =
        kept_in_vain c.args.quota c.args.p was c.requires.kept holds c.requires.countable c.step-stop.new.self steps
        (record { program = refl; from = refl }) c.step-stop.ensures.advance c.step-stop.ensures.quota
        c.step-stop.ensures.after;
  }

  uncommitted : c.step-stop.result.1 ≢ Paused → StepsUncommitted c.args.quota was there
  uncommitted wants =
      turn_in_vain c.args.quota c.args.p was c.requires.kept holds c.requires.countable c.step-stop.new.self steps
      (record { program = refl; from = refl }) c.step-stop.ensures.advance c.step-stop.ensures.quota
      c.step-stop.ensures.after wants c.requires.first

  -- it has got or put
  module _ (sink : Option ℕ) (now : Book) (h : HandlesAhead c.args.p c.step-stop.result.1 sink there now) where
    ahead : IsTurnAhead c.args.quota sink was (with_one_commit now)
    ahead =
        ahead_made c.args.quota c.args.p was book holds c.requires.first c.requires.countable c.step-stop.new.self
        steps (record { program = refl; from = refl }) c.step-stop.ensures.advance c.step-stop.ensures.quota
        c.step-stop.ensures.after sink now h
        (ahead_schedule c.args.quota c.args.p was book holds c.requires.first c.requires.countable
        c.step-stop.new.self steps (record { program = refl; from = refl }) c.step-stop.ensures.advance
        c.step-stop.ensures.quota c.step-stop.ensures.after sink now h)

    still_first : slice_get now.schedule.queue 0 ≡ Some c.args.p
    still_first =
        ahead_first c.args.quota c.args.p was book holds c.requires.first c.requires.countable c.step-stop.new.self
        steps (record { program = refl; from = refl }) c.step-stop.ensures.advance c.step-stop.ensures.quota
        c.step-stop.ensures.after sink now h

    one_fits : now.commits + 1 < 2 ^ 64
    one_fits =
        ahead_fits c.args.quota c.args.p was book holds c.requires.first c.requires.countable c.step-stop.new.self
        steps (record { program = refl; from = refl }) c.step-stop.ensures.advance c.step-stop.ensures.quota
        c.step-stop.ensures.after sink now h

    back : (s : Schedule) → s ≡ made_ready c.args.p (first_held c.args.p now.schedule)
        → IsReordered (with_one_commit now) (moved (with_one_commit now) now.machine s)
    back s same =
        goes_back (with_one_commit now) c.args.p ahead.order.is
        (holds_first now.schedule ahead.order.is.schedule c.args.p still_first) still_first s same

pub step-stop-requires-clause-process : goal.step-stop-requires-clause-process
step-stop-requires-clause-process g c =
    first_there (book_of c.args.self.now) c.args.p c.known-2.ensures.schedule c.requires.kept c.requires.first

pub exchange-requires-clause-first : goal.exchange-requires-clause-first
exchange-requires-clause-first g c = holds g (goal.at.exchange-requires-clause-first g c).After-step-stop

pub exchange-requires-clause-kept : goal.exchange-requires-clause-kept
exchange-requires-clause-kept g c = held_there g (goal.at.exchange-requires-clause-kept g c).After-step-stop

-- ---- it can't get or put

pub handle_first-requires-clause-first : goal.handle_first-requires-clause-first
handle_first-requires-clause-first g c =
    subst (λ o. HoldsFirst c.args.p o.schedule (first_held c.args.p o.schedule)) (sym c.in_default.ensures.stuck)
    (holds g (goal.at.handle_first-requires-clause-first g c).After-step-stop)

pub handle_first-requires-clause-kept : goal.handle_first-requires-clause-kept
handle_first-requires-clause-kept g c =
    subst (λ o. IsKept (first_claimed c.args.p (book_of o))) (sym c.in_default.ensures.stuck)
    (held_there g (goal.at.handle_first-requires-clause-kept g c).After-step-stop)

pub handle_first-requires-clause-program : goal.handle_first-requires-clause-program
handle_first-requires-clause-program g c =
    subst (λ o. c.args.program.now ≡ program_of o.network.now c.args.p) (sym c.in_default.ensures.stuck)
    c.requires.own.runs

pub handle_first-requires-clause-port : goal.handle_first-requires-clause-port
handle_first-requires-clause-port g c =
    subst (λ o. (f : Frame) × IsAtPort (program_of o.network.now c.args.p) f c.step-stop.result.1)
    (sym c.in_default.ensures.stuck) (frame_in c.step-stop.new.self c.args.p, c.step-stop.ensures.port)

pub returns-in_err-sink-clause-kept : goal.returns-in_err-sink-clause-kept
returns-in_err-sink-clause-kept g c =
    subst IsKept (sym (c.in_err-sink.ensures.as_before ∙ ap book_of c.in_default.ensures.stuck))
    (book_there g (goal.at.returns-in_err-sink-clause-kept g c).After-step-stop).kept

pub returns-in_err-sink-clause-in_vain : goal.returns-in_err-sink-clause-in_vain
returns-in_err-sink-clause-in_vain g c =
    refused_with c.from_residual.result
    (subst (StepsUncommitted c.args.quota (book_of c.args.self.now))
    (sym (c.in_err-sink.ensures.as_before ∙ ap book_of c.in_default.ensures.stuck))
    (uncommitted g (goal.at.returns-in_err-sink-clause-in_vain g c).After-step-stop c.in_err-sink.ensures.wants))

pub overflow_add-self : goal.overflow_add-self
overflow_add-self g c =
    let x = (goal.at.overflow_add-self g c).After-step-stop in
    let below : c.handle_first.new.self.commits + 1 < 2 ^ 64 =
    turn_fits c.args.quota c.args.p (was g x) c.requires.kept (holds g x) c.requires.countable c.step-stop.new.self
    (steps g x) (record { program = refl; from = refl }) c.step-stop.ensures.advance c.step-stop.ensures.quota
    c.step-stop.ensures.after c.in_ok-sink.sink (book_of c.handle_first.new.self)
    (subst (λ o. HandlesFirst c.args.p c.step-stop.result.1 c.in_ok-sink.sink (first_claimed c.args.p (book_of o))
    (book_of c.handle_first.new.self)) c.in_default.ensures.stuck c.in_ok-sink.ensures.handles) in
    search rules

pub returns-then-made-eq0-clause-goes : goal.returns-then-made-eq0-clause-goes
returns-then-made-eq0-clause-goes g c =
    let x = (goal.at.returns-then-made-eq0-clause-goes g c).After-step-stop in
    over_committed c.args.quota c.args.p c.args.made (was g x) (with_one_commit (book_of c.handle_first.new.self))
    c.in_ok-sink.sink
    (turn_made c.args.quota c.args.p (was g x) c.requires.kept (holds g x) c.requires.countable c.step-stop.new.self
    (steps g x) (record { program = refl; from = refl }) c.step-stop.ensures.advance c.step-stop.ensures.quota
    c.step-stop.ensures.after c.in_ok-sink.sink (book_of c.handle_first.new.self)
    (subst (λ o. HandlesFirst c.args.p c.step-stop.result.1 c.in_ok-sink.sink (first_claimed c.args.p (book_of o))
    (book_of c.handle_first.new.self)) c.in_default.ensures.stuck c.in_ok-sink.ensures.handles) (book g x)
    c.known-then-made-eq0.ensures.schedule)

pub returns-then-made-eq0-clause-kept : goal.returns-then-made-eq0-clause-kept
returns-then-made-eq0-clause-kept g c =
    let x = (goal.at.returns-then-made-eq0-clause-kept g c).After-step-stop in
    (turn_made c.args.quota c.args.p (was g x) c.requires.kept (holds g x) c.requires.countable c.step-stop.new.self
    (steps g x) (record { program = refl; from = refl }) c.step-stop.ensures.advance c.step-stop.ensures.quota
    c.step-stop.ensures.after c.in_ok-sink.sink (book_of c.handle_first.new.self)
    (subst (λ o. HandlesFirst c.args.p c.step-stop.result.1 c.in_ok-sink.sink (first_claimed c.args.p (book_of o))
    (book_of c.handle_first.new.self)) c.in_default.ensures.stuck c.in_ok-sink.ensures.handles) (book g x)
    c.known-then-made-eq0.ensures.schedule).kept

pub returns-in_default-clause-goes : goal.returns-in_default-clause-goes
returns-in_default-clause-goes g c =
    let x = (goal.at.returns-in_default-clause-goes g c).After-step-stop in
    let on : c.is_pause.result ≡ false = search rules in
    let some : c.args.made ≡ 0 → ⊥ = search rules in
    let same =
    c.rotate.ensures
    ∙ ap (λ o. made_ready c.args.p (first_held c.args.p o.schedule)) c.in_default.ensures.stuck in
    subst (λ o. GoesFurther c.args.quota c.args.p c.args.made (Some None) (was g x)
    (moved (book_of o) o.machine c.rotate.new.self)) (sym c.in_default.ensures.stuck)
    (over_idly c.args.quota c.args.p c.args.made (was g x) (moved (there g x) c.step-stop.new.self c.rotate.new.self)
    (there g x) (uncommitted g x (c.is_pause.ensures on))
    (goes_back (there g x) c.args.p (book_there g x) (holds g x) c.requires.first c.rotate.new.self same) some)

pub returns-in_default-clause-kept : goal.returns-in_default-clause-kept
returns-in_default-clause-kept g c =
    let x = (goal.at.returns-in_default-clause-kept g c).After-step-stop in
    let same =
    c.rotate.ensures
    ∙ ap (λ o. made_ready c.args.p (first_held c.args.p o.schedule)) c.in_default.ensures.stuck in
    subst (λ o. IsKept (moved (book_of o) o.machine c.rotate.new.self)) (sym c.in_default.ensures.stuck)
    (goes_back (there g x) c.args.p (book_there g x) (holds g x) c.requires.first c.rotate.new.self same).is.kept

-- ---- it has got or put

pub overflow_add-self-2 : goal.overflow_add-self-2
overflow_add-self-2 g c =
    let below : c.exchange.new.self.commits + 1 < 2 ^ 64 =
    one_fits g (goal.at.overflow_add-self-2 g c).After-step-stop c.in-Some.exchanged.sink
    (book_of c.exchange.new.self) c.in-Some.ensures.goes in
    search rules

pub returns-then-is_some-clause-goes : goal.returns-then-is_some-clause-goes
returns-then-is_some-clause-goes g c =
    let x = (goal.at.returns-then-is_some-clause-goes g c).After-step-stop in
    let now = book_of c.exchange.new.self in
    over_at_sink c.args.quota c.args.p c.args.made (was g x) (with_one_commit now) c.in-Some.exchanged.sink
    (ahead g x c.in-Some.exchanged.sink now c.in-Some.ensures.goes)

pub returns-then-is_some-clause-kept : goal.returns-then-is_some-clause-kept
returns-then-is_some-clause-kept g c =
    (ahead g (goal.at.returns-then-is_some-clause-kept g c).After-step-stop c.in-Some.exchanged.sink
    (book_of c.exchange.new.self) c.in-Some.ensures.goes).order.is.kept

pub returns-then-exchanged-clause-goes : goal.returns-then-exchanged-clause-goes
returns-then-exchanged-clause-goes g c =
    let x = (goal.at.returns-then-exchanged-clause-goes g c).After-step-stop in
    let now = book_of c.exchange.new.self in
    let told : c.is_some.result ≡ false = search rules in
    let turn =
    subst (λ s. IsTurnAhead c.args.quota s (was g x) (with_one_commit now))
    (no_sink c.in-Some.exchanged.sink (sym c.is_some.ensures ∙ told))
    (ahead g x c.in-Some.exchanged.sink now c.in-Some.ensures.goes) in
    over_filled c.args.quota c.args.p c.args.made (was g x)
    (moved (with_one_commit now) now.machine c.rotate-then-exchanged.new.self) (with_one_commit now) turn
    (back g x c.in-Some.exchanged.sink now c.in-Some.ensures.goes c.rotate-then-exchanged.new.self
    c.rotate-then-exchanged.ensures)

pub returns-then-exchanged-clause-kept : goal.returns-then-exchanged-clause-kept
returns-then-exchanged-clause-kept g c =
    (back g (goal.at.returns-then-exchanged-clause-kept g c).After-step-stop c.in-Some.exchanged.sink
    (book_of c.exchange.new.self) c.in-Some.ensures.goes c.rotate-then-exchanged.new.self
    c.rotate-then-exchanged.ensures).is.kept

pub returns-clause-goes : goal.returns-clause-goes
returns-clause-goes g c =
    let x = (goal.at.returns-clause-goes g c).After-step-stop in
    let now = book_of c.exchange.new.self in
    let told : c.is_some.result ≡ false = search rules in
    further_on c.args.quota c.args.p c.args.made (was g x) (with_one_commit now)
    (subst (λ s. IsTurnAhead c.args.quota s (was g x) (with_one_commit now))
    (no_sink c.in-Some.exchanged.sink (sym c.is_some.ensures ∙ told))
    (ahead g x c.in-Some.exchanged.sink now c.in-Some.ensures.goes))
    (still_first g x c.in-Some.exchanged.sink now c.in-Some.ensures.goes)

pub returns-clause-kept : goal.returns-clause-kept
returns-clause-kept g c =
    (ahead g (goal.at.returns-clause-kept g c).After-step-stop c.in-Some.exchanged.sink
    (book_of c.exchange.new.self) c.in-Some.ensures.goes).order.is.kept
