-- Turns of which nobody sees the order. A commit that leaves its process the first of the queue is one after which the
-- queue is in another order.
use Rattle.kpn_book.proofs.Common.{◌≡◌, ◌≢◌, ℕ, ◌+◌, ◌<◌, ◌≤◌, ◌^◌, true, false, is_some, List, [], ◌∷◌, ◌++◌, length, set, drop, slice_get, Option, Some, None, refl, sym, ap, ◌∙◌, subst, arith, option_to_list, false≢true, set-set, set-get_or, Contains-first, Advanced, IsAdvance, IsWithinQuota, Ready, Held, is_ready, Machine, with_frame, Schedule, state_at, IsSchedule, HoldsFirst, first_held, made_ready, Book, held_count, with_one_commit, all_made_ready, IsOwnAdvance, IsKept, IsBook, StepsUncommitted}
use Rattle.kpn_book.specs.GoingOn.{IsReordered, TurnsInAnyOrder, no_turn, another_order, steps_on, one_turn_more, RunsInAnyOrder, AnyOrderInVain}
use Rattle.kpn_book.specs.Open.{first_claimed, with_ready, MayBeReady, HandlesAhead, IsTurn, IsTurnAhead, GoesFurther}
use Rattle.kpn_book.proofs.Queueing.{scheduled, rotated, IsSchedule-rotated, IsSchedule-made_ready}
use Rattle.kpn_book.proofs.Following.{moved}
use Rattle.kpn_book.proofs.FirstOfQueue.{turn_made}
use Rattle.kpn_book.proofs.Stepped.{step_tables}

-- ---- the queue in another order

-- the first of the queue is held and ready again: no state has changed
pub stays : (p : ℕ) (s : Schedule) → HoldsFirst p s (first_held p s) → (made_ready p (first_held p s)).states ≡ s.states
stays p s holds =
    set-set s.states p Held Ready
    ∙ ap (set s.states p) (sym holds.was_ready)
    ∙ set-get_or s.states p Ready

pub may_stay : (s x : Schedule) (ps : List ℕ) → x.states ≡ s.states → MayBeReady x ps → MayBeReady s ps
may_stay s x ps same may = record {
  once = may.once;
  each = λ q there.
      subst (λ xs. (q < length xs) × (is_ready (state_at xs q) ≡ false)) same (may.each q there);
}

same_then : (ps : List ℕ) (a b : Schedule) → a.states ≡ b.states
    → (all_made_ready ps a).states ≡ (all_made_ready ps b).states
same_then [] a b same = same
same_then (q ∷ qs) a b same = same_then qs (made_ready q a) (made_ready q b) (ap (λ xs. set xs q Ready) same)

IsSchedule-woken : (woken : Option ℕ) (s : Schedule) → IsSchedule s → MayBeReady s (option_to_list woken)
    → IsSchedule (all_made_ready (option_to_list woken) s)
IsSchedule-woken None s is may = is
IsSchedule-woken (Some q) s is may =
    let each = may.each q (Contains-first q []) in IsSchedule-made_ready s.states s.queue is q each.0 each.1

pub IsSchedule-again : (p : ℕ) (s : Schedule) → IsSchedule s → slice_get s.queue 0 ≡ Some p
    → IsSchedule (made_ready p (first_held p s))
IsSchedule-again p s is first =
    subst IsSchedule (rotated s.states s.queue p is first (drop 1 s.queue ++ p ∷ []) refl)
    (IsSchedule-rotated s.states s.queue p is first)

-- who becomes ready stands after the first
pub first_stays : (p : ℕ) (woken : Option ℕ) (s : Schedule) → slice_get s.queue 0 ≡ Some p
    → slice_get (all_made_ready (option_to_list woken) s).queue 0 ≡ Some p
first_stays p None s first = first
first_stays p (Some q) s first = by s.queue first
  where
    by : (xs : List ℕ) → slice_get xs 0 ≡ Some p → slice_get (xs ++ q ∷ []) 0 ≡ Some p
    by [] none = absurd cc
    by (x ∷ xs) is = is

kept_reordered : (b : Book) (queue : List ℕ) → IsKept b
    → IsKept (record b { schedule = record b.schedule { queue = queue } })
kept_reordered b queue kept = record {
  in_step = record {
    run = kept.in_step.run;
    processes = kept.in_step.processes;
    states = kept.in_step.states;
  };
  nothing_owed = kept.nothing_owed;
  committed = kept.committed;
  countable = kept.countable;
}

pub reordered : (before after : Book) → IsBook before → IsSchedule after.schedule
    → after ≡ record before { schedule = record before.schedule { queue = after.schedule.queue } }
    → IsReordered before after
reordered before after book schedule same = record {
  is = subst IsBook (sym same) (record {
    network = book.network;
    schedule = subst (λ b. IsSchedule b.schedule) same schedule;
    kept = kept_reordered before after.schedule.queue book.kept;
  });
  same = same;
}

-- the first of the queue goes to its tail
pub goes_back : (b : Book) (p : ℕ) → IsBook b → HoldsFirst p b.schedule (first_held p b.schedule)
    → slice_get b.schedule.queue 0 ≡ Some p → (s : Schedule) → s ≡ made_ready p (first_held p b.schedule)
    → IsReordered b (moved b b.machine s)
goes_back b p book holds first s same =
    reordered b (moved b b.machine s) book
    (subst IsSchedule (sym same) (IsSchedule-again p b.schedule book.schedule first))
    (ap (λ xs. moved b b.machine (scheduled xs s.queue)) (ap (λ z. z.states) same ∙ stays p b.schedule holds))

-- ---- a turn

pub turn_tables : (quota : ℕ) (sink : Option ℕ) (before after : Book) → IsTurn quota sink before after
    → after.tables ≡ before.tables
turn_tables quota sink before after turn = step_tables quota turn.step.answer before after turn.step.steps

module _ (quota p : ℕ) (b : Book) (book : IsBook b) (holds : HoldsFirst p b.schedule (first_held p b.schedule))
    (first : slice_get b.schedule.queue 0 ≡ Some p) (more : b.commits + held_count b + 1 < 2 ^ 64) (s : Machine)
    (x : Advanced) (own : IsOwnAdvance (first_claimed p b) p x) (advance : IsAdvance x)
    (within : IsWithinQuota quota x) (after : s ≡ with_frame p x.to b.machine) (sink : Option ℕ) (now : Book)
    (h : HandlesAhead p x.stop sink (moved b s b.schedule) now) where
  abbrev again : Schedule
  again = made_ready p (first_held p b.schedule)

  -- as if it had gone to the tail
  abbrev committed : Book
  committed = with_ready (option_to_list h.woken) again now

  turn : IsTurn quota sink b (with_one_commit committed)
  turn =
      turn_made quota p b book.kept holds more s x own advance within after sink committed h.handles book
      (IsSchedule-woken h.woken again (IsSchedule-again p b.schedule book.schedule first) h.may)

  states_same : now.schedule.states ≡ (all_made_ready (option_to_list h.woken) again).states
  states_same =
      ap (λ z. z.states) h.schedule
      ∙ same_then (option_to_list h.woken) b.schedule again (sym (stays p b.schedule holds))

  pub ahead_made : IsSchedule now.schedule → IsTurnAhead quota sink b (with_one_commit now)
  ahead_made schedule = record {
    between = with_one_commit committed;
    turn = turn;
    order =
        reordered (with_one_commit committed) (with_one_commit now) turn.step.is schedule
        (ap (λ xs. with_one_commit (moved now now.machine (scheduled xs now.schedule.queue))) states_same);
  }

  pub ahead_schedule : IsSchedule now.schedule
  ahead_schedule =
      subst IsSchedule (sym h.schedule)
      (IsSchedule-woken h.woken b.schedule book.schedule
      (may_stay b.schedule again (option_to_list h.woken) (stays p b.schedule holds) h.may))

  pub ahead_first : slice_get now.schedule.queue 0 ≡ Some p
  ahead_first = subst (λ z. slice_get z.queue 0 ≡ Some p) (sym h.schedule) (first_stays p h.woken b.schedule first)

  pub ahead_fits : now.commits + 1 < 2 ^ 64
  ahead_fits =
      let count : now.commits + 1 + held_count committed < 2 ^ 64 = turn.kept.countable in omega (arith, count)

module _ (quota : ℕ) (sink : Option ℕ) (before after : Book) (turn : IsTurnAhead quota sink before after) where
  pub ahead_commits : after.commits ≡ before.commits + 1
  ahead_commits = ap (λ b. b.commits) turn.order.same ∙ turn.turn.commits

  pub ahead_tables : after.tables ≡ before.tables
  ahead_tables = ap (λ b. b.tables) turn.order.same ∙ turn_tables quota sink before turn.between turn.turn

  pub ahead_held : held_count after ≡ held_count before
  ahead_held = ap held_count turn.order.same ∙ turn.turn.held

-- ---- turns

pub no_sink : (s : Option ℕ) → is_some s ≡ false → s ≡ None
no_sink None e = refl
no_sink (Some c) e = absurd (false≢true (sym e))

pub and_turn : (quota : ℕ) (first now after : Book) (sink : Option ℕ) → TurnsInAnyOrder quota first None now
    → IsTurnAhead quota sink now after → TurnsInAnyOrder quota first sink after
and_turn quota first now after sink so_far turn =
    another_order turn.between after (one_turn_more now turn.between so_far turn.turn.step) turn.order

pub and_then : (quota : ℕ) (first middle : Book) (sink : Option ℕ) (last : Book)
    → TurnsInAnyOrder quota first None middle → TurnsInAnyOrder quota middle sink last
    → TurnsInAnyOrder quota first sink last
and_then quota first middle None last before no_turn = before
and_then quota first middle sink last before (another_order b a turns order) =
    another_order b a (and_then quota first middle sink b before turns) order
and_then quota first middle sink last before (steps_on b a turns steps) =
    steps_on b a (and_then quota first middle sink b before turns) steps
and_then quota first middle sink last before (one_turn_more b a turns step) =
    one_turn_more b a (and_then quota first middle None b before turns) step

-- ---- what a turn comes to

module _ (quota p made : ℕ) (b after : Book) where
  -- a get or a put was made, and it stays the first
  pub further_on : IsTurnAhead quota None b after → slice_get after.schedule.queue 0 ≡ Some p
      → GoesFurther quota p made None b after
  further_on turn first =
      let more = ahead_commits quota None b after turn in
      record {
        turns = and_turn quota b b after None no_turn turn;
        tables = ahead_tables quota None b after turn;
        held = ahead_held quota None b after turn;
        not_less = omega (arith, more);
        at_most = omega (arith, more);
        begins = λ _. more;
        goes_on = λ _. (first, more);
      }

  -- one was made on a sink
  pub over_at_sink : (sink : Option ℕ) → IsTurnAhead quota sink b after → GoesFurther quota p made (Some sink) b after
  over_at_sink sink turn =
      let more = ahead_commits quota sink b after turn in
      record {
        turns = and_turn quota b b after sink no_turn turn;
        tables = ahead_tables quota sink b after turn;
        held = ahead_held quota sink b after turn;
        not_less = omega (arith, more);
        at_most = omega (arith, more);
        begins = λ _. more;
        goes_on = λ none. let clash : ◌≡◌ {A = Option (Option ℕ)} (Some sink) None = none in absurd cc;
      }

  -- one was made, and it goes to the tail of the queue
  pub over_filled : (between : Book) → IsTurnAhead quota None b between → IsReordered between after
      → GoesFurther quota p made (Some None) b after
  over_filled between turn order =
      let same : after.commits ≡ between.commits = ap (λ z. z.commits) order.same in
      let more = ahead_commits quota None b between turn in
      record {
        turns = another_order between after (and_turn quota b b between None no_turn turn) order;
        tables = ap (λ z. z.tables) order.same ∙ ahead_tables quota None b between turn;
        held = ap held_count order.same ∙ ahead_held quota None b between turn;
        not_less = omega (arith, same, more);
        at_most = omega (arith, same, more);
        begins = λ _. same ∙ more;
        goes_on = λ none. let clash : ◌≡◌ {A = Option (Option ℕ)} (Some None) None = none in absurd cc;
      }

  -- it was committed at its stop
  pub over_committed : (sink : Option ℕ) → IsTurn quota sink b after → GoesFurther quota p made (Some sink) b after
  over_committed sink turn =
      let more = turn.commits in
      record {
        turns = one_turn_more b after no_turn turn.step;
        tables = turn_tables quota sink b after turn;
        held = turn.held;
        not_less = omega (arith, more);
        at_most = omega (arith, more);
        begins = λ _. more;
        goes_on = λ none. let clash : ◌≡◌ {A = Option (Option ℕ)} (Some sink) None = none in absurd cc;
      }

  -- it has made its steps, and goes to the tail of the queue
  pub over_idly : (between : Book) → StepsUncommitted quota b between → IsReordered between after
      → (made ≡ 0 → ⊥) → GoesFurther quota p made (Some None) b after
  over_idly between steps order busy =
      let same : after.commits ≡ b.commits = ap (λ z. z.commits) order.same ∙ ap (λ z. z.commits) steps.there in
      record {
        turns = another_order between after (steps_on b between no_turn steps) order;
        tables = ap (λ z. z.tables) order.same ∙ ap (λ z. z.tables) steps.there;
        held = ap held_count order.same ∙ ap held_count steps.there;
        not_less = omega (arith, same);
        at_most = omega (arith, same);
        begins = λ none. absurd (busy none);
        goes_on = λ none. let clash : ◌≡◌ {A = Option (Option ℕ)} (Some None) None = none in absurd cc;
      }

-- ---- turns after turns

-- for a turn the book may have got memory first
module _ (quota most : ℕ) (first now with_memory after : Book) (same : with_memory ≡ now)
    (so_far : TurnsInAnyOrder quota first None now) (sink : Option ℕ)
    (goes : RunsInAnyOrder quota most sink with_memory after) where
  here : RunsInAnyOrder quota most sink now after
  here = subst (λ b. RunsInAnyOrder quota most sink b after) same goes

  pub goes_then : TurnsInAnyOrder quota first sink after
  goes_then = and_then quota first now sink after so_far here.turns

  pub goes_none : is_some sink ≡ false → TurnsInAnyOrder quota first None after
  goes_none none = subst (λ s. TurnsInAnyOrder quota first s after) (no_sink sink none) goes_then

  pub goes_within : after.commits ≤ now.commits + most
  goes_within = here.within

  pub goes_some : (p : ℕ) → Some p ≡ slice_get now.schedule.queue 0 → 0 < most → now.commits < after.commits
  goes_some p there some =
      here.some (λ none. let clash : Some p ≡ None = there ∙ ap (λ q. slice_get q 0) none in absurd cc) some

pub vain_then : (quota most : ℕ) (first now with_memory after : Book) → with_memory ≡ now
    → TurnsInAnyOrder quota first None now → AnyOrderInVain quota most with_memory after
    → TurnsInAnyOrder quota first None after × (after.commits < now.commits + most)
vain_then quota most first now with_memory after same so_far vain =
    let is = subst (λ b. AnyOrderInVain quota most b after) same vain in
    (and_then quota first now None after so_far is.turns, is.fewer)
