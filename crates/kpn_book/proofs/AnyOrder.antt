-- A run in any order: what it has come to is that of its last book, wherever its processes stand in the queue.
use Rattle.kpn_book.proofs.Common.{◌≡◌, ℕ, ◌-◌, ◌<◌, ◌≤◌, max, Bool, true, false, [], Option, Some, None, sym, ap, ◌∙◌, subst, length, arith, false≢true, IsPrefix-refl, IsPrefix, channel_at, is_source, is_sink, written_on, read_on, is_closed, is_left, Limits, Book, held_count, IsStepInRow, StepsUncommitted, Remembers, RemembersAsMuch, IsEnough, IsLeftToItself, IsLater, IsCommitted, HasPutOn, IsStepped, AreStepped}
use Rattle.kpn_book.specs.GoingOn.{IsReordered, TurnsInAnyOrder, no_turn, another_order, steps_on, one_turn_more, RunsInAnyOrder}
use Rattle.kpn_book.proofs.Stepped.{IsLater-refl, IsLater-trans}
use Rattle.kpn_book.proofs.InARow.{its_turn, inside}

-- ---- nothing has happened

-- the second book shows the same, and keeps as much
record IsSameRun (before after : Book) : Type 0 where
  pub tables : after.tables ≡ before.tables
  pub history : after.history ≡ before.history
  pub commits : after.commits ≡ before.commits
  pub held : held_count after ≡ held_count before
  pub keeps : RemembersAsMuch before after

same_order : (before after : Book) → IsReordered before after → IsSameRun before after
same_order before after order = record {
  tables = ap (λ b. b.tables) order.same;
  history = ap (λ b. b.history) order.same;
  commits = ap (λ b. b.commits) order.same;
  held = ap held_count order.same;
  keeps = λ keeping kept.
      subst (λ b. Remembers keeping b) (sym order.same) (record { events = kept.events; items = kept.items });
}

same_steps : (quota : ℕ) (before after : Book) → StepsUncommitted quota before after → IsSameRun before after
same_steps quota before after steps = record {
  tables = ap (λ b. b.tables) steps.there;
  history = ap (λ b. b.history) steps.there;
  commits = ap (λ b. b.commits) steps.there;
  held = ap held_count steps.there;
  keeps = λ keeping kept.
      subst (λ b. Remembers keeping b) (sym steps.there) (record { events = kept.events; items = kept.items });
}

later_still : (before after : Book) → IsSameRun before after → IsLater before after
later_still before after same = record {
  tables = same.tables;
  history = subst (IsPrefix before.history) (sym same.history) (IsPrefix-refl before.history);
  stays = λ c stays. ap (λ H. is_left H c) same.history ∙ stays;
  keeps = same.keeps;
}

-- ---- turns

-- the outside has nothing to do, and there is not enough
pub record IsOn (limits : Limits) (first now : Book) : Type 0 where
  pub later : IsLater first now
  pub to_itself : IsLeftToItself now
  pub few : IsEnough now.tables now.history limits.take → ⊥

-- the last turn has put an item on this sink
pub record PutsLast (limits : Limits) (c : ℕ) (first now : Book) : Type 0 where
  pub last : Book
  pub so_far : IsOn limits first last
  pub put : HasPutOn c last now
  pub committed : IsCommitted last now

abbrev is_on : (limits : Limits) → Option ℕ → (first now : Book) → Type 0
is_on limits None first now = IsOn limits first now
is_on limits (Some c) first now = PutsLast limits c first now

on_still : (limits : Limits) (sink : Option ℕ) (first before after : Book) → IsSameRun before after
    → is_on limits sink first before → is_on limits sink first after
on_still limits None first before after same is = record {
  later = IsLater-trans first before after is.later (later_still before after same);
  to_itself = record {
    nobody_held = same.held ∙ is.to_itself.nobody_held;
    closed = λ c source.
        subst (λ H. is_closed H c ≡ true) (sym same.history)
        (is.to_itself.closed c (subst (λ t. is_source (channel_at t c) ≡ true) same.tables source));
    all_read = λ c sink.
        subst (λ H. length (written_on H c) ≤ length (read_on H c)) (sym same.history)
        (is.to_itself.all_read c (subst (λ t. is_sink (channel_at t c) ≡ true) same.tables sink));
  };
  few = λ enough.
      is.few (subst (λ t. IsEnough t before.history limits.take) same.tables
      (subst (λ H. IsEnough after.tables H limits.take) same.history enough));
}
on_still limits (Some c) first before after same is = record {
  last = is.last;
  so_far = is.so_far;
  put = record {
    sink = is.put.sink;
    process = is.put.process;
    item = is.put.item;
    history = same.history ∙ is.put.history;
  };
  committed = record {
    later = IsLater-trans is.last before after is.committed.later (later_still before after same);
    commits = same.commits ∙ is.committed.commits;
    nobody_held = same.held ∙ is.committed.nobody_held;
  };
}

module _ (limits : Limits) (quota : ℕ) (is_quota : quota ≡ max limits.quota 1) (first : Book)
    (to_itself : IsLeftToItself first) (few : IsEnough first.tables first.history limits.take → ⊥) where
  one_more : (sink : Option ℕ) (before after : Book) → IsOn limits first before → IsStepInRow quota sink before after
      → is_on limits sink first after
  one_more None before after so_far step =
      let one = inside limits false quota is_quota before after so_far.to_itself so_far.few step in
      record {
        later = IsLater-trans first before after so_far.later one.later;
        to_itself = one.to_itself;
        few = λ enough. false≢true (one.decides.1 enough);
      }
  one_more (Some c) before after so_far step = record {
    last = before;
    so_far = so_far;
    put = record {
      sink = step.puts.sink;
      process = step.puts.process;
      item = step.puts.item;
      history = step.puts.history;
    };
    committed = (its_turn limits quota is_quota (Some c) before after so_far.to_itself so_far.few step).1;
  }

  turns_on : {sink : Option ℕ} {now : Book} → TurnsInAnyOrder quota first sink now → is_on limits sink first now
  turns_on no_turn = record { later = IsLater-refl first; to_itself = to_itself; few = few }
  turns_on {sink} (another_order before after turns order) =
      on_still limits sink first before after (same_order before after order) (turns_on turns)
  turns_on {sink} (steps_on before after turns steps) =
      on_still limits sink first before after (same_steps quota before after steps) (turns_on turns)
  turns_on {sink} (one_turn_more before after turns step) = one_more sink before after (turns_on turns) step

  module _ (most : ℕ) (is_most : most ≡ limits.commits - first.commits) (below : first.commits < limits.commits)
      (ready : first.schedule.queue ≡ [] → ⊥) (now : Book) where
    -- none was put on a sink
    pub all_on : RunsInAnyOrder quota most None first now → AreStepped limits false false first now
    all_on goes =
        let within = goes.within in
        let is = turns_on goes.turns in
        record {
          made = λ order. absurd (false≢true order);
          later = is.later;
          further = goes.some ready (omega (arith, is_most, below));
          within = omega (arith, within, is_most, below);
          to_itself = is.to_itself;
          decides = (λ no. absurd (false≢true no), λ enough. absurd (is.few enough));
        }

    -- one was put on this sink
    pub puts_last : (c : ℕ) → RunsInAnyOrder quota most (Some c) first now → PutsLast limits c first now
    puts_last c goes = turns_on goes.turns

    pub on_and_take : (c : ℕ) → RunsInAnyOrder quota most (Some c) first now → (last : Book) → IsLater first last
        → IsCommitted last now → (enough : Bool) (after : Book) → IsStepped limits false enough last after
        → AreStepped limits false enough first after
    on_and_take c goes last so_far committed enough after is =
        let within = goes.within in
        let further = goes.some ready (omega (arith, is_most, below)) in
        let same : after.commits ≡ now.commits = is.commits ∙ sym committed.commits in
        record {
          made = λ order. absurd (false≢true order);
          later = IsLater-trans first last after so_far is.later;
          further = omega (arith, further, same);
          within = omega (arith, within, is_most, below, same);
          to_itself = is.to_itself;
          decides = is.decides;
        }
