-- Turns in a row: each of them goes on where the one before it has led.
use Rattle.std.proofs.Common.{◌≡◌, ℕ, ◌+◌, ◌-◌, ◌<◌, ◌≤◌, max, Bool, true, false, [], ◌∷◌, Option, Some, None, refl, sym, ap, ◌∙◌, subst, inl, inr, arith, length, eq-eqb}
use Rattle.kpn_book.proofs.Common.{false≢true, Done, Book, ClaimsNobody, Limits, IsEnough, IsOutcome, unread_on, unread_length, IsBook, IsLeftToItself, IsLater, IsFrontStepped, IsCommitted, HasPutOn, sinks_after, has_put, IsStepped, AreStepped}
use Rattle.kpn_history.specs.Views.{is_stopped}
use Rattle.kpn_book.specs.declared.answers.Done.TheVariants as done
use Rattle.kpn_book.specs.InARow.{PutsOnNoSink, IsStepInRow, StepsInRow, no_step, one_step_more, RunsInRow}
use Rattle.kpn_book.proofs.Seen.{not_settled}
use Rattle.kpn_book.specs.RunHere.{IsBeforeTurn, Turns, one_turn_more}
use Rattle.kpn_book.proofs.Stepped.{IsLater-refl, IsLater-trans, turned, not_put, put_inside_stepped, step_commits}

-- ---- one turn

module _ (limits : Limits) (quota : ℕ) (is_quota : quota ≡ max limits.quota 1) (sink : Option ℕ) (before after : Book)
    (to_itself : IsLeftToItself before) (few : IsEnough before.tables before.history limits.take → ⊥)
    (step : IsStepInRow quota sink before after) where
  -- somebody was claimed, and one more commit could be counted
  claims : ClaimsNobody before → ⊥
  claims nobody =
      elim nobody [
        | inl none ↦
            let clash : (step.steps.process ∷ step.steps.between.schedule.queue) ≡ [] =
            sym step.steps.steps.claimed.holds.queue ∙ none in
            absurd cc
        | inr many ↦
            let held = to_itself.nobody_held in
            let more = step_commits quota step.answer before after step.steps in
            let count = step.is.kept.countable in
            omega (arith, many, held, more, count)
      ]

  pub its_turn : IsFrontStepped (max limits.quota 1) before after × IsCommitted before after
      × sinks_after (has_put (Some step.answer)) before after
  its_turn =
      turned limits quota (Some step.answer) before after is_quota step.was step.is to_itself.nobody_held claims
      step.steps

  -- before it the run had come to no outcome
  pub went_on : after.commits ≤ limits.commits
      → IsOutcome before.tables before.history before.commits limits None
  went_on within = (
    few,
    not_settled before step.was.kept.in_step
        (λ stopped.
        let holds = step.steps.steps.claimed.holds in
        false≢true (sym (ap is_stopped holds.was_ready) ∙ stopped step.steps.process holds.there)),
    (let more = step_commits quota step.answer before after step.steps in omega (arith, within, more)),
  )

-- none was put on a sink
module _ (limits : Limits) (in_order : Bool) (quota : ℕ) (is_quota : quota ≡ max limits.quota 1)
    (before after : Book) (to_itself : IsLeftToItself before)
    (few : IsEnough before.tables before.history limits.take → ⊥) (step : IsStepInRow quota None before after) where
  pub inside : IsStepped limits in_order false before after
  inside = by step.answer step.puts made.2
    where
      made : IsFrontStepped (max limits.quota 1) before after × IsCommitted before after
          × sinks_after (has_put (Some step.answer)) before after
      made = its_turn limits quota is_quota None before after to_itself few step

      front : in_order ≡ true → IsFrontStepped (max limits.quota 1) before after
      front _ = made.0

      by : (answer : Done) → PutsOnNoSink answer before after → sinks_after (has_put (Some answer)) before after
          → IsStepped limits in_order false before after
      by done.Put off put =
          put_inside_stepped limits in_order before after to_itself front made.1 few put
          (off put.process put.channel put.item put.history)
      by (done.Got v) off keeps = not_put limits before after to_itself made.1 in_order front keeps few
      by done.Blocked off keeps = not_put limits before after to_itself made.1 in_order front keeps few
      by (done.Grew d) off keeps = not_put limits before after to_itself made.1 in_order front keeps few
      by done.Ended off keeps = not_put limits before after to_itself made.1 in_order front keeps few
      by done.Paused off keeps = not_put limits before after to_itself made.1 in_order front keeps few

-- ---- a row of turns

-- the outside has nothing to do
before_turn : (b : Book) → IsBook b → IsLeftToItself b → IsBeforeTurn b
before_turn b book to_itself = record {
  book = book;
  nobody_held = to_itself.nobody_held;
  served = record {
    closed = to_itself.closed;
    taken = λ c sink.
        let all = to_itself.all_read c sink in
        let unread = unread_length b.history c in
        let none : length (unread_on b.history c) ≡ 0 = omega arith in
        eq-eqb (length (unread_on b.history c)) 0 none;
  };
}

-- turns that have put nothing on a sink
record IsRow (limits : Limits) (before after : Book) : Type 0 where
  pub made : (first : Book) (n : ℕ) → Turns limits first n before → (m : ℕ) × Turns limits first m after
  pub later : IsLater before after
  pub to_itself : IsLeftToItself after
  pub few : IsEnough after.tables after.history limits.take → ⊥

module _ (limits : Limits) (quota : ℕ) (is_quota : quota ≡ max limits.quota 1) (first : Book)
    (to_itself : IsLeftToItself first) (few : IsEnough first.tables first.history limits.take → ⊥) where
  row : {n : ℕ} {b : Book} → StepsInRow quota first n b → b.commits ≤ limits.commits → IsRow limits first b
  row no_step within = record {
    made = λ f k turns. (k, turns);
    later = IsLater-refl first;
    to_itself = to_itself;
    few = few;
  }
  row (one_step_more before after steps step) within =
      let more = step_commits quota step.answer before after step.steps in
      let so_far = row steps (omega (arith, within, more)) in
      let one = inside limits true quota is_quota before after so_far.to_itself so_far.few step in
      let goes_on =
      went_on limits quota is_quota None before after so_far.to_itself so_far.few step within in
      record {
        made = λ f k turns.
            let made = so_far.made f k turns in (
              made.0 + 1,
              one_turn_more before after made.1 (before_turn before step.was so_far.to_itself) goes_on (one.turn refl),
            );
        later = IsLater-trans first before after so_far.later one.later;
        to_itself = one.to_itself;
        few = λ enough. false≢true (one.decides.1 enough);
      }

  module _ (most : ℕ) (is_most : most ≡ limits.commits - first.commits) (below : first.commits < limits.commits)
      (ready : first.schedule.queue ≡ [] → ⊥) (now : Book) where
    -- no turn has put an item on a sink
    pub row_ends : RunsInRow quota most None first now → AreStepped limits true false first now
    row_ends runs =
        let within = runs.within in
        let now_within : now.commits ≤ limits.commits = omega (arith, within, is_most, below) in
        let is = row runs.row
        (subst (λ b. b.commits ≤ limits.commits) runs.ends now_within) in
        subst (λ b. AreStepped limits true false first b) (sym runs.ends)
        (record {
          made = λ _. is.made;
          later = is.later;
          further =
              subst (λ b. first.commits < b.commits) runs.ends (runs.some ready (omega (arith, is_most, below)));
          within = subst (λ b. b.commits ≤ limits.commits) runs.ends now_within;
          to_itself = is.to_itself;
          decides = (λ no. absurd (false≢true no), λ enough. absurd (is.few enough));
        })

    -- the last turn has put an item on this sink
    module _ (sink : ℕ) (runs : RunsInRow quota most (Some sink) first now) where
      now_within : now.commits ≤ limits.commits
      now_within = let within = runs.within in omega (arith, within, is_most, below)

      so_far : IsRow limits first runs.last
      so_far =
          let more = step_commits quota runs.ends.answer runs.last now runs.ends.steps in
          let within = now_within in
          row runs.row (omega (arith, within, more))

      pub last_to_itself : IsLeftToItself runs.last
      last_to_itself = so_far.to_itself

      pub last_few : IsEnough runs.last.tables runs.last.history limits.take → ⊥
      last_few = so_far.few

      pub last_turn : IsFrontStepped (max limits.quota 1) runs.last now × IsCommitted runs.last now
          × sinks_after (has_put (Some runs.ends.answer)) runs.last now
      last_turn = its_turn limits quota is_quota (Some sink) runs.last now so_far.to_itself so_far.few runs.ends

      pub last_put : HasPutOn sink runs.last now
      last_put = record {
        sink = runs.ends.puts.sink;
        process = runs.ends.puts.process;
        item = runs.ends.puts.item;
        history = runs.ends.puts.history;
      }

      pub row_and_take : (enough : Bool) (after : Book) → IsStepped limits true enough runs.last after
          → AreStepped limits true enough first after
      row_and_take enough after is =
          let within = now_within in
          let more = step_commits quota runs.ends.answer runs.last now runs.ends.steps in
          let one = is.commits in
          let further = runs.some ready (omega (arith, is_most, below)) in
          let goes_on =
          went_on limits quota is_quota (Some sink) runs.last now so_far.to_itself so_far.few runs.ends within in
          record {
            made = λ _ f k turns.
                let made = so_far.made f k turns in (
                  made.0 + 1,
                  one_turn_more runs.last after made.1 (before_turn runs.last runs.ends.was so_far.to_itself) goes_on
                      (is.turn refl),
                );
            later = IsLater-trans first runs.last after so_far.later is.later;
            further = omega (arith, further, more, one);
            within = omega (arith, within, more, one);
            to_itself = is.to_itself;
            decides = is.decides;
          }
