-- Each run on one thread takes some number of rounds: at each of its events the process stands where steps have led
-- from what it said last.
use Rattle.std.proofs.Common.{◌≡◌, ◌≢◌, ℕ, ◌+◌, ◌*◌, ◌≤◌, ◌⊎◌, max, ℤ, List, [], ◌∷◌, ◌++◌, sym, ◌∙◌, subst, inl, inr, arith, append_assoc, append-nil, mul-le-mul_right}
use Rattle.kpn_book.proofs.Common.{Tables, program_of, given_by, Step, Stops, Faults, Goes, step_of, Advanced, Steps-append, Event, talk_of, frame_in, Book, standing_at, AllHappen, Limits, Report, events_of}
use Rattle.kpn_step.specs.declared.stop.Stop.TheVariants as stop
use Rattle.kpn_book.specs.RunHere.{supplies, takes_from_sinks, IsTurn, IsBeforeTurn, Turns, no_turn, one_turn_more, IsReportHere}
use Rattle.kpn_book.specs.Progress.{tried_at, PausesAfter, TakesRounds, no_event, of_process, of_nobody}
use Rattle.kpn_book.proofs.Happening.{happens_history}
use Rattle.kpn_book.proofs.Stepped.{step_history}
use Rattle.kpn_book.proofs.Progress.{IsOnWay, AreOnWay, AreOfNobody, growth_of_nobody, happening_on_way, takes_of_nobody, supplies_of_nobody}
use Rattle.kpn_book.proofs.RoundOfQueue.{BeginsWithOwn, own_or_pause, steps_own, no_step, all_tables, turns_tables, turns_on_way}
use Rattle.kpn_book.proofs.ReportsInTime.{new_on_way}

-- the history takes some number of rounds
record TakesSome (t : Tables) (quota : ℕ) (H : List Event) : Type 0 where
  rounds : ℕ
  takes : TakesRounds t quota H rounds

module _ (t : Tables) (quota : ℕ) where
  -- events of no process take none
  and_others : (es : List Event) → AreOfNobody es → (H : List Event) → TakesSome t quota H
      → TakesSome t quota (H ++ es)
  and_others [] none H some = subst (TakesSome t quota) (sym (append-nil H)) some
  and_others (e ∷ es) none H some =
      subst (TakesSome t quota) (append_assoc H (e ∷ []) es)
      (and_others es none.1 (H ++ e ∷ [])
      (record { rounds = some.rounds; takes = of_nobody H e some.takes none.0 }))

  happening : (es : List Event) → AreOfNobody es → (before after : Book) → AllHappen es before after
      → TakesSome t quota before.history → TakesSome t quota after.history
  happening [] none before after is some = subst (λ b. TakesSome t quota b.history) (sym is) some
  happening (e ∷ es) none before after is some =
      happening es none.1 is.0 after is.2
      (subst (TakesSome t quota) (sym (happens_history e before is.0 is.1))
      (and_others (e ∷ is.1.growth)
      (none.0, growth_of_nobody before.tables (before.history ++ e ∷ []) is.1.growth is.1.owed) before.history some))

  module _ (positive : 1 ≤ quota) where
    -- as many pauses as steps are enough
    enough : (steps : ℕ) (s : Step) → steps + tried_at s ≤ quota * (steps + 1)
    enough steps s = by s
      where
        most : 1 * (steps + 1) ≤ quota * (steps + 1)
        most = mul-le-mul_right (steps + 1) positive

        by : (s : Step) → steps + tried_at s ≤ quota * (steps + 1)
        by (Stops x) = let all = most in omega (arith, all)
        by (Faults x) = let all = most in omega (arith, all)
        by (Goes x) = let all = most in omega (arith, all)

    module _ (limit : ℕ) (before after : Book) (tables : before.tables ≡ t) (ready : IsBeforeTurn before)
        (turn : IsTurn limit before after) (so_far : AreOnWay before) (some : TakesSome t quota before.history) where
      abbrev q : ℕ
      q = turn.steps.process

      abbrev a : Advanced
      a = turn.steps.advance

      way : IsOnWay before.tables q before.history (frame_in before.machine q)
      way =
          let there = turn.steps.steps.claimed.holds.there in
          let states = ready.book.kept.in_step.processes in
          so_far q (omega (arith, there, states))

      pauses : a.stop ≢ stop.Paused → PausesAfter t quota q (talk_of before.history q) (way.steps + a.steps)
      pauses stops =
          subst (λ x. PausesAfter x quota q (talk_of before.history q) (way.steps + a.steps)) tables
          (record {
            from = way.from;
            after = way.after;
            on = record {
              to = a.to;
              steps = way.steps + a.steps;
              stepped =
                  Steps-append (program_of before.tables q).blocks way.steps a.steps way.from
                  (frame_in before.machine q) a.to way.stepped (steps_own limit before after ready turn);
              stops = no_step limit before after ready turn stops;
              few = enough (way.steps + a.steps) (step_of (program_of before.tables q).blocks a.to);
            };
          })

      by_kind : (es : List Event) → BeginsWithOwn q a.stop es ⊎ ((a.stop ≡ stop.Paused) × (es ≡ []))
          → TakesSome t quota (before.history ++ es)
      by_kind es (inr paused) =
          subst (λ fs. TakesSome t quota (before.history ++ fs)) (sym paused.1)
          (subst (TakesSome t quota) (sym (append-nil before.history)) some)
      by_kind es (inl begins) =
          subst (λ fs. TakesSome t quota (before.history ++ fs)) (sym begins.is)
          (subst (TakesSome t quota) (append_assoc before.history (begins.event ∷ []) begins.rest)
          (and_others begins.rest begins.others (before.history ++ begins.event ∷ [])
          (record {
            rounds = some.rounds + (way.steps + a.steps + 1);
            takes =
                of_process before.history begins.event q (way.steps + a.steps) some.takes begins.own
                (inl (pauses begins.stops));
          })))

      turned : TakesSome t quota after.history
      turned =
          let events = turn.steps.commits.handles.events in
          happening (takes_from_sinks turn.stepped.tables turn.stepped.history)
          (takes_of_nobody turn.stepped.tables turn.stepped.history) turn.stepped after turn.takes
          (subst (TakesSome t quota)
          (sym (step_history (max limit 1) turn.answer before turn.stepped turn.steps))
          (by_kind events
          (own_or_pause (standing_at q a.to turn.steps.between) q a.stop turn.answer events
          turn.steps.commits.handles.answers)))

    all_turned : (limits : Limits) (first : Book) → first.tables ≡ t → AreOnWay first
        → TakesSome t quota first.history → {n : ℕ} {b : Book} → Turns limits first n b → TakesSome t quota b.history
    all_turned limits first tables begins some no_turn = some
    all_turned limits first tables begins some (one_turn_more before after so_far ready goes_on turn) =
        turned limits.quota before after (turns_tables limits first so_far ∙ tables) ready turn
        (turns_on_way limits first begins so_far) (all_turned limits first tables begins some so_far)

pub takes_rounds : (t : Tables) (lists : List (List ℤ)) (limits : Limits) (report : Report)
    → IsReportHere t lists limits report → (quota : ℕ) → 1 ≤ quota
    → (rounds : ℕ) × TakesRounds t quota (events_of report) rounds
takes_rounds t lists limits report here quota positive =
    let runs = here.runs in
    let given = given_by t lists in
    let none = supplies_of_nobody t given in
    let at_first : TakesSome t quota runs.first.history =
    subst (TakesSome t quota) (sym runs.begins.history) (record { rounds = 0; takes = no_event }) in
    let at_last =
    all_turned t quota positive limits runs.fed
    (all_tables (supplies t given) runs.first runs.fed runs.supplied ∙ runs.begins.tables)
    (happening_on_way (supplies t given) none runs.first runs.fed runs.supplied (new_on_way t runs.first runs.begins))
    (happening t quota (supplies t given) none runs.first runs.fed runs.supplied at_first) runs.made in
    let some = subst (TakesSome t quota) (sym here.written.history) at_last in
    (some.rounds, some.takes)
