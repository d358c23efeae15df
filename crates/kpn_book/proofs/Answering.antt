-- What a commit returns at a stop of a process, and the events that this appends.
use Rattle.kpn_book.proofs.Common.{◌≡◌, ◌↔◌, ℕ, ◌+◌, ◌<◌, ◌≤◌, ◌^◌, ℤ, Bool, true, false, cond, List, [], ◌∷◌, ◌++◌, length, count_by, Option, Some, None, refl, sym, ap, ◌∙◌, subst, inl, inr, arith, cases_eq, sum_by-append, length-set, get_or-set_same, get_or-set_other, Tables, larger_capacity, IsNetwork, Stop, is_channel_full, next_item, Event, How, Ready, is_of_process, process_events, capacity_or_zero, OwesCycleGrowth, OwesGrowth, growth_after, Legal, waiter, waiter_of_last, OwesNothing, OwesNoCycleGrowth, OwesNoStopGrowth, lets_go_on, last_or-push, process_events-next, Some-number, no_cycle_owed_after, no_stop_owed_after, channel_in, end_in, wait_in, stop_of, IsRun, owed_by_history, state_at, made_ready, Done, Book, IsHeld, held_count, put_back, with_one_commit, AppendsAll, IsGrowthOwed, Happens, IsReadFrom, IsWriteTo, HasToWait, IsAnswer, ready_if_paused, HandlesStop, IsStateBy, IsInStep, IsKept}
use Rattle.kpn_step.specs.declared.stop.Stop.TheVariants as stop
use Rattle.kpn_history.specs.declared.event.Event.TheVariants as event
use Rattle.kpn_machine.specs.Owed.{IsOwed}
use Rattle.kpn_book.specs.declared.answers.Done.TheVariants as done
use Rattle.kpn_book.specs.Open.{Follows, IsSound, AnswersAt, Answered, EndsWithWait, grows_if_owed, GrowsIfOwed, GrowsAtStop, of_process}
use Rattle.kpn_book.proofs.Following.{held_is_free}
use Rattle.kpn_book.proofs.CommitCounts.{held_less}
use Rattle.kpn_book.proofs.Appended.{history_then, commits_stay, counts_all, counts_ready, base_history, base_commits}

-- ---- soundness after an event

-- the history after an event
next_history : (e : Event) (b a : Book) → Follows e b a → (P : List Event → Type 0) → P (b.history ++ e ∷ [])
    → P a.history
next_history e b a follows P is = subst P (sym follows.appends.history) is

-- after an event that is no wait no growth is owed for a cycle
pub no_cycle_then : (e : Event) (b a : Book) → Follows e b a → waiter e ≡ None → OwesNoCycleGrowth a.tables a.history
no_cycle_then e b a follows none =
    next_history e b a follows (λ H. OwesNoCycleGrowth a.tables H) (no_cycle_owed_after a.tables b.history e none)

-- after an event that moves an item, or a growth, nothing is owed
pub sound_after : (e : Event) (b a : Book) → IsNetwork b.tables → Follows e b a → waiter e ≡ None → lets_go_on e ≡ true
    → IsSound a
sound_after e b a network follows none goes = record {
  in_step = follows.in_step;
  nothing_owed = nothing;
}
  where
    legal : Legal a.tables (b.history ++ e ∷ [])
    legal = subst (Legal a.tables) follows.appends.history follows.in_step.run.legal

    nothing : OwesNothing a.tables a.history
    nothing p d (inl owed) = no_cycle_then e b a follows none p d owed
    nothing p d (inr owed) =
        next_history e b a follows (λ H. OwesNoStopGrowth a.tables H)
        (no_stop_owed_after a.tables (subst IsNetwork (sym follows.appends.tables) network) b.history e legal goes)
        p d owed

-- ---- the growth that is owed

module _ (b : Book) (network : IsNetwork b.tables) (step : IsInStep b) (p : ℕ) (ends : EndsWithWait b.history p)
    (found : Option ℕ) (exact : (d : ℕ) → (found ≡ Some d) ↔ IsOwed b.tables b.machine p d) where
  run_of : IsRun b.tables (ends.before ++ ends.wait ∷ []) b.machine
  run_of = subst (λ H. IsRun b.tables H b.machine) ends.is step.run

  by_history : (d : ℕ) → IsOwed b.tables b.machine p d
      ↔ OwesCycleGrowth b.tables (ends.before ++ ends.wait ∷ []) p d
  by_history d = owed_by_history b.tables network ends.before ends.wait p ends.waits b.machine run_of d

  pub owes_found : (d : ℕ) → found ≡ Some d → OwesGrowth b.tables b.history p d
  owes_found d is = inl (subst (λ H. OwesCycleGrowth b.tables H p d) (sym ends.is) ((by_history d).0 ((exact d).0 is)))

  pub owes_none : found ≡ None → OwesNoCycleGrowth b.tables b.history
  owes_none none q d owes =
      let here : OwesCycleGrowth b.tables (ends.before ++ ends.wait ∷ []) q d =
      subst (λ H. OwesCycleGrowth b.tables H q d) ends.is owes in
      let same : q ≡ p =
      Some-number q p (sym here.wait ∙ ap waiter_of_last (last_or-push None ends.before ends.wait) ∙ ends.waits) in
      let some : found ≡ Some d =
      (exact d).1 ((by_history d).1
      (subst (λ x. OwesCycleGrowth b.tables (ends.before ++ ends.wait ∷ []) x d) same here)) in
      let clash : ◌≡◌ {A = Option ℕ} None (Some d) = sym none ∙ some in
      absurd cc

-- the growth that is owed happens
pub has_grown : (b a : Book) → IsNetwork b.tables → (p q d : ℕ) → OwesGrowth b.tables b.history q d
    → Follows (growth_after b.tables b.history q d) b a → GrowsIfOwed p (done.Grew d) b a
has_grown b a network p q d owes follows = record {
  grows = record { grower = q; owed = owes; appends = follows.appends };
  sound = sound_after (growth_after b.tables b.history q d) b a network follows refl refl;
  held = let now = follows.held in omega (arith, now);
}

pub has_grown_at_stop : (b a : Book) → IsNetwork b.tables → (q d : ℕ) → OwesGrowth b.tables b.history q d
    → Follows (growth_after b.tables b.history q d) b a → GrowsAtStop (Some d) b a
has_grown_at_stop b a network q d owes follows = record {
  grows = record { grower = q; owed = owes; appends = follows.appends };
  sound = sound_after (growth_after b.tables b.history q d) b a network follows refl refl;
  held = let now = follows.held in omega (arith, now);
}

pub none_at_stop : (b : Book) → IsInStep b → OwesNoCycleGrowth b.tables b.history
    → OwesNoStopGrowth b.tables b.history → GrowsAtStop None b b
none_at_stop b step cycle stop =
    record { grows = (nothing, refl); sound = record { in_step = step; nothing_owed = nothing }; held = refl }
  where
    nothing : OwesNothing b.tables b.history
    nothing p d (inl owed) = cycle p d owed
    nothing p d (inr owed) = stop p d owed

-- what a growth at a stop makes of a wait
pub blocked_then : (p : ℕ) (b a : Book) → GrowsAtStop None b a → GrowsIfOwed p done.Blocked b a
blocked_then p b a is = record { grows = is.grows; sound = is.sound; held = is.held }

-- ---- an event, and the growth that is then owed

pub happens : (e : Event) (b m a : Book) (channel : Option ℕ) → Follows e b m → GrowsAtStop channel m a → Happens e b a
happens e b m a None follows grows = record {
  growth = [];
  owed =
      subst (λ t. OwesNothing t (b.history ++ e ∷ [])) follows.appends.tables
      (subst (λ H. OwesNothing m.tables H) follows.appends.history grows.grows.0);
  appends = (m, follows.appends, grows.grows.1);
}
happens e b m a (Some d) follows grows = record {
  growth = growth_after m.tables m.history grows.grows.grower d ∷ [];
  owed =
      subst (λ t. IsGrowthOwed t (b.history ++ e ∷ []) (growth_after m.tables m.history grows.grows.grower d ∷ []))
      follows.appends.tables
      (subst (λ H. IsGrowthOwed m.tables H (growth_after m.tables m.history grows.grows.grower d ∷ []))
      follows.appends.history (grows.grows.owed, refl));
  appends = (m, follows.appends, (a, grows.grows.appends, refl));
}

-- a growth is no event of a process
pub events_at_stop : (b a : Book) (channel : Option ℕ) → GrowsAtStop channel b a
    → process_events a.history ≡ process_events b.history
events_at_stop b a None grows = ap (λ x. process_events x.history) grows.grows.1
events_at_stop b a (Some d) grows =
    ap process_events grows.grows.appends.history
    ∙ process_events-next b.history (growth_after b.tables b.history grows.grows.grower d)
    ∙ (let same : process_events b.history + 0 ≡ process_events b.history = omega arith in same)

pub commits_at_stop : (b a : Book) (channel : Option ℕ) → GrowsAtStop channel b a → a.commits ≡ b.commits
commits_at_stop b a None grows = ap (λ x. x.commits) grows.grows.1
commits_at_stop b a (Some d) grows = grows.grows.appends.commits

-- ---- results

pub answered_got : (b a : Book) → IsNetwork b.tables → (p c : ℕ) (v : ℤ)
    → next_item (channel_in b.machine c) ≡ Some v
    → Follows (event.Get p c v) b a → Answered p (λ s. IsReadFrom b.tables p s c) (done.Got v) b a
answered_got b a network p c v item follows = record {
  answers = λ s asks. record {
    events = event.Get p c v ∷ [];
    answers = record { channel = c; asks = asks; item = item; appends = refl };
    appends = (a, follows.appends, refl);
  };
  sound = sound_after (event.Get p c v) b a network follows refl refl;
  released = follows.held;
}

pub answered_put : (b a : Book) → IsNetwork b.tables → (p c : ℕ) (v : ℤ)
    → is_channel_full (channel_in b.machine c) ≡ false
    → Follows (event.Put p c v) b a → Answered p (λ s. IsWriteTo b.tables p s c v) done.Put b a
answered_put b a network p c v ready follows = record {
  answers = λ s asks. record {
    events = event.Put p c v ∷ [];
    answers = record { channel = c; item = v; asks = asks; ready = ready; appends = refl };
    appends = (a, follows.appends, refl);
  };
  sound = sound_after (event.Put p c v) b a network follows refl refl;
  released = follows.held;
}

pub answered_ended : (b m a : Book) (p : ℕ) (how : How) (channel : Option ℕ) → Follows (event.Ended p how) b m
    → GrowsAtStop channel m a → Answered p (λ s. s ≡ stop_of how) done.Ended b a
answered_ended b m a p how channel follows grows =
    let is = happens (event.Ended p how) b m a channel follows grows in
    record {
      answers = λ s asks. record {
        events = event.Ended p how ∷ is.growth;
        answers = record { how = how; asks = asks; growth = is.growth; owed = is.owed; appends = refl };
        appends = is.appends;
      };
      sound = grows.sound;
      released = let now = grows.held in let then = follows.held in omega (arith, now, then);
    }

module _ (b m : Book) (p : ℕ) (wait : Event) (one : of_process wait ≡ 1) (asks : Stop → Type 0)
    (has : (s : Stop) → asks s → HasToWait b p s wait) (follows : Follows wait b m) where
  before_it : (P : List Event → Type 0) → P m.history → P (b.history ++ wait ∷ [])
  before_it P is = subst P follows.appends.history is

  answers_wait : (answer : Done) (a : Book) → grows_if_owed p answer m a → (s : Stop) → asks s
      → AnswersAt p s answer b a
  answers_wait done.Blocked a grows s is = record {
    events = wait ∷ [];
    answers = record {
      wait = wait;
      waits = has s is;
      nothing =
          before_it (λ H. OwesNothing b.tables H)
          (subst (λ t. OwesNothing t m.history) follows.appends.tables grows.0);
      appends = refl;
    };
    appends = (m, follows.appends, grows.1);
  }
  answers_wait (done.Grew d) a grows s is = record {
    events = wait ∷ growth_after m.tables m.history grows.grower d ∷ [];
    answers = record {
      wait = wait;
      waits = has s is;
      grower = grows.grower;
      owed =
          before_it (λ H. OwesGrowth b.tables H grows.grower d)
          (subst (λ t. OwesGrowth t m.history grows.grower d) follows.appends.tables grows.owed);
      appends =
          ap (λ H. wait ∷ growth_after m.tables H grows.grower d ∷ []) follows.appends.history
          ∙ ap (λ t. wait ∷ growth_after t (b.history ++ wait ∷ []) grows.grower d ∷ []) follows.appends.tables;
    };
    appends = (m, follows.appends, (a, grows.appends, refl));
  }
  answers_wait other a grows s is = absurd grows

  pub answered_wait : (answer : Done) (a : Book) → GrowsIfOwed p answer m a → Answered p asks answer b a
  answered_wait answer a grows = record {
    answers = answers_wait answer a grows.grows;
    sound = grows.sound;
    released =
        let now = grows.held in
        let then = follows.held in
        omega (arith, now, then, one);
  }

-- ---- a process that is put back

put_back_states : (b : Book) → IsInStep b → (p : ℕ) → IsHeld b p → (q : ℕ) → q < length b.tables.instances
    → IsStateBy (end_in b.machine q) (wait_in b.machine q) (state_at (made_ready p b.schedule).states q)
put_back_states b step p held q there =
    elim (cases_eq q p) [
      | inl same ↦
          let free = held_is_free b step p held in
          subst
          (λ z. IsStateBy (end_in b.machine z) (wait_in b.machine z)
          (state_at (made_ready p b.schedule).states z)) (sym same)
          (subst (λ x. IsStateBy (end_in b.machine p) (wait_in b.machine p) x)
          (sym (get_or-set_same b.schedule.states p Ready Ready held.there)) (free.lives, free.free))
      | inr other ↦
          subst (λ x. IsStateBy (end_in b.machine q) (wait_in b.machine q) x)
          (sym (get_or-set_other b.schedule.states p q Ready Ready other)) (step.states q there)
    ]

pub put_back_in_step : (b : Book) → IsInStep b → (p : ℕ) → IsHeld b p → IsInStep (put_back p b)
put_back_in_step b step p held = record {
  run = step.run;
  processes = length-set b.schedule.states p Ready ∙ step.processes;
  states = put_back_states b step p held;
}

pub put_back_released : (b : Book) (p : ℕ) → IsHeld b p → held_count (put_back p b) + 1 ≡ held_count b
put_back_released b p held = held_less b.schedule.states p Ready held.there held.held refl

pub answered_paused : (b : Book) → IsSound b → (p : ℕ) → IsHeld b p
    → Answered p (λ s. s ≡ stop.Paused) done.Paused b (put_back p b)
answered_paused b sound p held = record {
  answers = λ s asks. record { events = []; answers = record { asks = asks; appends = refl }; appends = refl };
  sound = record { in_step = put_back_in_step b sound.in_step p held; nothing_owed = sound.nothing_owed };
  released = put_back_released b p held;
}

-- ---- a commit is counted

-- among these events at most one is of a process
one_event : (e : Event) → count_by is_of_process (e ∷ []) ≤ 1
one_event e = by_test (is_of_process e)
  where
    by_test : (b : Bool) → 0 + cond {A = ℕ} b 1 0 ≤ 1
    by_test true = omega arith
    by_test false = omega arith

growth_is_none : (wait : Event) (p d n : ℕ) → count_by is_of_process (wait ∷ event.Grow p d n ∷ []) ≤ 1
growth_is_none wait p d n = by_test (is_of_process wait)
  where
    by_test : (b : Bool) → 0 + cond {A = ℕ} b 1 0 + 0 ≤ 1
    by_test true = omega arith
    by_test false = omega arith

with_growth : (t : Tables) (H : List Event) (e : Event) (growth : List Event) → IsGrowthOwed t H growth
    → count_by is_of_process (e ∷ growth) ≤ 1
with_growth t H e [] owed = one_event e
with_growth t H e (event.Grow p d n ∷ []) owed = growth_is_none e p d n
with_growth t H e growth owed = absurd owed

at_most_one : (answer : Done) (b : Book) (p : ℕ) (s : Stop) (events : List Event) → IsAnswer b p s answer events
    → count_by is_of_process events ≤ 1
at_most_one (done.Got v) b p s events is =
    subst (λ es. count_by is_of_process es ≤ 1) (sym is.appends) (one_event (event.Get p is.channel v))
at_most_one done.Put b p s events is =
    subst (λ es. count_by is_of_process es ≤ 1) (sym is.appends) (one_event (event.Put p is.channel is.item))
at_most_one done.Blocked b p s events is =
    subst (λ es. count_by is_of_process es ≤ 1) (sym is.appends) (one_event is.wait)
at_most_one (done.Grew d) b p s events is =
    subst (λ es. count_by is_of_process es ≤ 1) (sym is.appends) (growth_is_none is.wait is.grower d
    (larger_capacity b.tables (capacity_or_zero b.tables (b.history ++ is.wait ∷ []) d)))
at_most_one done.Ended b p s events is =
    subst (λ es. count_by is_of_process es ≤ 1) (sym is.appends)
    (with_growth b.tables (b.history ++ event.Ended p is.how ∷ []) (event.Ended p is.how) is.growth is.owed)
at_most_one done.Paused b p s events is = subst (λ es. count_by is_of_process es ≤ 1) (sym is.appends) (omega arith)

module _ (b a : Book) (p : ℕ) (s : Stop) (answer : Done) (kept : IsKept b) (answers : AnswersAt p s answer b a)
    (sound : IsSound a) (released : held_count a + 1 ≡ held_count b) where
  pub handles_counted : HandlesStop p s answer b (with_one_commit a)
  handles_counted = record {
    events = answers.events;
    answers = answers.answers;
    appends =
        subst (λ x. AppendsAll answers.events x (with_one_commit a)) (counts_ready answer p b)
        (counts_all answers.events (ready_if_paused p answer b) a answers.appends);
  }

  same_commits : a.commits ≡ b.commits
  same_commits = commits_stay answers.events (ready_if_paused p answer b) a answers.appends ∙ base_commits answer p b

  more_events : process_events a.history ≡ process_events b.history + count_by is_of_process answers.events
  more_events =
      ap process_events
      (history_then answers.events (ready_if_paused p answer b) a answers.appends
      ∙ ap (λ H. H ++ answers.events) (base_history answer p b))
      ∙ sum_by-append (λ e. cond (is_of_process e) 1 0) b.history answers.events

  pub kept_counted : IsKept (with_one_commit a)
  kept_counted =
      let most = at_most_one answer b p s answers.events answers.answers in
      let same = same_commits in
      let more = more_events in
      let before = kept.committed in
      let count = kept.countable in
      record {
        in_step = record {
          run = sound.in_step.run;
          processes = sound.in_step.processes;
          states =
              sound.in_step.states;
        };
        nothing_owed = sound.nothing_owed;
        committed = omega (arith, most, same, more, before);
        countable = omega (arith, count, same, released);
      }

-- there is room for one more commit if a process is held
pub one_more_fits : (b : Book) (p : ℕ) → IsKept b → IsHeld b p → b.commits + 1 < 2 ^ 64
one_more_fits b p kept held =
    let some = put_back_released b p held in
    let count = kept.countable in
    omega (arith, some, count)

pub fits_after : (b a : Book) (p : ℕ) (asks : Stop → Type 0) (s : Stop) (answer : Done) → asks s → IsKept b → IsHeld b p
    → Answered p asks answer b a → a.commits + 1 < 2 ^ 64
fits_after b a p asks s answer is kept held answered =
    let fits = one_more_fits b p kept held in
    let same =
    same_commits b a p s answer kept (answered.answers s is) answered.sound answered.released in
    omega (arith, fits, same)

-- what is so once the commit is counted
pub record IsCounted (a : Book) (R : Book → Type 0) : Type 0 where
  pub fits : a.commits + 1 < 2 ^ 64
  pub kept : IsKept (with_one_commit a)
  pub is : R (with_one_commit a)

-- process p is held at its stop, its memory is reserved, and its commit there makes what R says
pub record IsAtStop (p : ℕ) (s : Stop) (R : Done → Book → Type 0) (b : Book) : Type 0 where
  pub kept : IsKept b
  pub held : IsHeld b p
  pub commits : (answer : Done) (a : Book) → HandlesStop p s answer b a → R answer a

pub is_counted : (p : ℕ) (s : Stop) (R : Done → Book → Type 0) (b a : Book) (answer : Done) → IsAtStop p s R b
    → Answered p (λ z. z ≡ s) answer b a → IsCounted a (R answer)
is_counted p s R b a answer at answered =
    let answers = answered.answers s refl in
    record {
      fits = fits_after b a p (λ z. z ≡ s) s answer refl at.kept at.held answered;
      kept = kept_counted b a p s answer at.kept answers answered.sound answered.released;
      is =
          at.commits answer (with_one_commit a)
          (handles_counted b a p s answer at.kept answers answered.sound answered.released);
    }

-- one kind of stop in place of another
pub asked_otherwise : (p : ℕ) (asks others : Stop → Type 0) (answer : Done) (b a : Book)
    → ((s : Stop) → others s → asks s) → Answered p asks answer b a → Answered p others answer b a
asked_otherwise p asks others answer b a same is = record {
  answers = λ s other. is.answers s (same s other);
  sound = is.sound;
  released = is.released;
}
