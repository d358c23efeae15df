-- The first process of the queue makes steps and is committed. It is held in between, though no state says so.
use Rattle.kpn_book.proofs.Common.{◌≡◌, ◌≢◌, ℕ, ◌+◌, ◌-◌, ◌<◌, ◌≤◌, ◌^◌, ℤ, Bool, true, false, cond, is_some, List, [], ◌∷◌, ◌++◌, length, drop, slice_get, slice_index, Option, Some, None, Result, Ok, Err, refl, sym, ap, ◌∙◌, subst, arith, inl, inr, last_or, OnErr, cases_eq, false≢true, set-set, Tables, instance_at, channel_at, is_sink, IsNetwork, Stop, Advanced, IsAdvance, IsWithinQuota, Event, Held, is_held, last_or-push, Machine, with_frame, Schedule, IsSchedule, HoldsFirst, first_held, with_state, Done, Book, IsHeld, held_count, IsClaimed, standing_at, with_one_commit, IsWriteTo, IsAnswer, IsOwnAdvance, ready_if_paused, HandlesStop, IsKept, IsBook, StepsNext}
use Rattle.kpn_step.specs.declared.stop.Stop.TheVariants as stop
use Rattle.kpn_history.specs.declared.event.Event.TheVariants as event
use Rattle.kpn_book.proofs.Waiting.{first_taken}
use Rattle.kpn_book.proofs.Queueing.{HoldsFirst-popped}
use Rattle.kpn_book.specs.declared.answers.Done.TheVariants as done
use Rattle.kpn_book.specs.InARow.{PutsOnNoSink, puts_on, StepsInRow, no_step, one_step_more, RunsInRow, RunsInVain, StepsUncommitted}
use Rattle.kpn_book.specs.declared.open_book.Hold.{Hold}
use Rattle.kpn_book.specs.declared.open_book.Hold.TheVariants as hold
use Rattle.kpn_book.specs.Open.{first_claimed, IsNextHeld, next_by, IsHeldBy, held_by, IsSound, if_sink, sink_of, sink_by, is_but_reserved, AnsweredFirst, HandlesFirst, IsTurn}
use Rattle.kpn_book.proofs.CommitCounts.{held_more}
use Rattle.kpn_book.proofs.Appended.{claimed_is_held, tables_stay, history_then, commits_stay, base_tables, base_history, base_commits}
use Rattle.kpn_book.proofs.Following.{moved}
use Rattle.kpn_book.proofs.Answering.{asked_otherwise, handles_counted, kept_counted, fits_after}
use Rattle.kpn_book.proofs.Committing.{kept_moved, kept_claimed, kept_reserved, held_reserved, tables_reserved, history_reserved, commits_reserved, count_reserved, stepped_kept, stepped_held, steps_next}

-- ---- it is held

pub holds_first : (s : Schedule) → IsSchedule s → (p : ℕ) → slice_get s.queue 0 ≡ Some p
    → HoldsFirst p s (first_held p s)
holds_first s is p first = HoldsFirst-popped s.states s.queue p (drop 1 s.queue) is (first_taken s.queue 0 p first)

pub first_there : (b : Book) (p : ℕ) → IsSchedule b.schedule → IsKept b → slice_get b.schedule.queue 0 ≡ Some p
    → p < length b.tables.instances
first_there b p schedule kept first =
    let there = (holds_first b.schedule schedule p first).there in
    let long = kept.in_step.processes in
    omega (arith, there, long)

pub held_first : (b : Book) (p : ℕ) → HoldsFirst p b.schedule (first_held p b.schedule) → IsHeld (first_claimed p b) p
held_first b p holds = claimed_is_held p b (first_claimed p b) (record { holds = holds; same = refl })

pub held_so : (hold : Hold) (p : ℕ) (b : Book) → IsHeldBy hold p b.schedule → IsHeld (held_by hold p b) p
held_so hold.First p b holds = held_first b p holds
held_so hold.Taken p b held = record { there = held.0; held = held.1 }

module _ (b : Book) (kept : IsKept b) (p : ℕ) (holds : HoldsFirst p b.schedule (first_held p b.schedule))
    (more : b.commits + held_count b + 1 < 2 ^ 64) where
  pub claimed : IsClaimed p b (first_claimed p b)
  claimed = record { holds = holds; same = refl }

  pub kept_first : IsKept (first_claimed p b)
  kept_first = kept_claimed b kept p (first_claimed p b) claimed (λ is. omega (arith, is, more))

pub no_first : (xs : List ℕ) → slice_get xs 0 ≡ None → xs ≡ []
no_first [] none = refl
no_first (x ∷ xs) none = absurd cc

-- which process is the next to be held
pub next_from : (r : Option ℕ) (b : Book) → IsSchedule b.schedule → b.commits + held_count b < 2 ^ 64
    → (b.commits + held_count b ≡ 2 ^ 64 - 1 → ⊥) → r ≡ slice_get b.schedule.queue 0 → next_by r b
next_from None b is count more first = inl (no_first b.schedule.queue (sym first))
next_from (Some p) b is count more first = record {
  holds = holds_first b.schedule is p (sym first);
  countable =
      elim (cases_eq (b.commits + held_count b) (2 ^ 64 - 1)) [
        | inl same ↦ absurd (more same)
        | inr other ↦ omega (arith, other, count)
      ];
}

-- its state is written once
pub held_once : (p : ℕ) (s : Schedule) → with_state p Held (first_held p s) ≡ first_held p s
held_once p s = ap (λ xs. record { states = xs; queue = drop 1 s.queue }) (set-set s.states p Held Held)

pub first_by : (p : ℕ) (b : Book) → IsNextHeld p b → slice_get b.schedule.queue 0 ≡ Some p
first_by p b is = ap (λ xs. slice_get xs 0) is.holds.queue

pub claimed_by : (p : ℕ) (b : Book) → IsNextHeld p b → (s : Schedule) → s ≡ with_state p Held (first_held p b.schedule)
    → IsClaimed p b (moved b b.machine s)
claimed_by p b is s same =
    subst (λ x. IsClaimed p b (moved b b.machine x)) (sym (same ∙ held_once p b.schedule))
    (record { holds = is.holds; same = refl })

-- ---- on which sink it has put an item

-- the sink is that of the channel on which it is put
pub puts_on_it : (t : Tables) (p c : ℕ) (v : ℤ) (s : Stop) → IsWriteTo t p s c v → (sink : Option ℕ)
    → sink ≡ if_sink t c → sink ≡ sink_by t p s done.Put
puts_on_it t p c v s asks sink is =
    is ∙ ap (if_sink t) (sym asks.channel.1) ∙ ap (λ z. sink_by t p z done.Put) (sym asks.asks)

none_by : (t : Tables) (p : ℕ) (answer : Done) → ((c : ℕ) → sink_of t c answer ≡ None) → (s : Stop)
    → sink_by t p s answer ≡ None
none_by t p answer none (stop.WantWrite port v) = none (slice_index (instance_at t p).outs port)
none_by t p answer none s = refl

-- any other answer puts on no sink
pub puts_on_none : (t : Tables) (p : ℕ) (answer : Done) → (answer ≡ done.Put → ⊥) → (s : Stop)
    → sink_by t p s answer ≡ None
puts_on_none t p answer other = none_by t p answer (λ c. no_sink c answer other)
  where
    no_sink : (c : ℕ) (answer : Done) → (answer ≡ done.Put → ⊥) → sink_of t c answer ≡ None
    no_sink c done.Put other = absurd (other refl)
    no_sink c (done.Got v) other = refl
    no_sink c done.Blocked other = refl
    no_sink c (done.Grew d) other = refl
    no_sink c done.Ended other = refl
    no_sink c done.Paused other = refl

-- nor does one that is at no write
pub puts_nowhere : (t : Tables) (p : ℕ) (s : Stop) (answer : Done)
    → ((port : ℕ) (v : ℤ) → s ≡ stop.WantWrite port v → ⊥) → sink_by t p s answer ≡ None
puts_nowhere t p (stop.WantWrite port v) answer other = absurd (other port v refl)
puts_nowhere t p s answer other = refl

module _ (b a o : Book) (p : ℕ) (s : Stop) (sink : Option ℕ) (events : List Event) (same : o.tables ≡ b.tables)
    (history : a.history ≡ b.history ++ events) where
  puts_item : IsAnswer o p s done.Put events → sink ≡ sink_by o.tables p s done.Put → puts_on sink done.Put b a
  puts_item put at = by (is_sink (channel_at b.tables put.channel)) refl
    where
      then : a.history ≡ b.history ++ event.Put p put.channel put.item ∷ []
      then = history ∙ ap (λ es. b.history ++ es) put.appends

      there : sink ≡ if_sink b.tables put.channel
      there =
          at ∙ ap (λ z. sink_by o.tables p z done.Put) put.asks.asks ∙ ap (if_sink o.tables) put.asks.channel.1
          ∙ ap (λ t. if_sink t put.channel) same

      only : (q d : ℕ) (v : ℤ) → a.history ≡ b.history ++ event.Put q d v ∷ [] → put.channel ≡ d
      only q d v other =
          let one : Some (event.Put p put.channel put.item) ≡ Some (event.Put q d v) =
          sym (last_or-push None b.history (event.Put p put.channel put.item)) ∙ ap (last_or None) (sym then ∙ other)
          ∙ last_or-push None b.history (event.Put q d v) in
          cc

      by : (x : Bool) → is_sink (channel_at b.tables put.channel) ≡ x → puts_on sink done.Put b a
      by true is =
          subst (λ k. puts_on k done.Put b a)
          (sym (there ∙ ap (λ x. cond {A = Option ℕ} x (Some put.channel) None) is))
          (record { put = refl; sink = is; process = p; item = put.item; history = then })
      by false is =
          subst (λ k. puts_on k done.Put b a)
          (sym (there ∙ ap (λ x. cond {A = Option ℕ} x (Some put.channel) None) is))
          (λ q d v other. subst (λ z. is_sink (channel_at b.tables z) ≡ false) (only q d v other) is)

  no_put : (answer : Done) → ((c : ℕ) → sink_of o.tables c answer ≡ None) → PutsOnNoSink answer b a
      → sink ≡ sink_by o.tables p s answer → puts_on sink answer b a
  no_put answer none off at =
      subst (λ k. puts_on k answer b a) (sym (at ∙ none_by o.tables p answer none s)) off

  pub puts_by : (answer : Done) → IsAnswer o p s answer events → sink ≡ sink_by o.tables p s answer
      → puts_on sink answer b a
  puts_by done.Put is at = puts_item is at
  puts_by (done.Got v) is at = no_put (done.Got v) (λ c. refl) tt at
  puts_by done.Blocked is at = no_put done.Blocked (λ c. refl) tt at
  puts_by (done.Grew d) is at = no_put (done.Grew d) (λ c. refl) tt at
  puts_by done.Ended is at = no_put done.Ended (λ c. refl) tt at
  puts_by done.Paused is at = no_put done.Paused (λ c. refl) tt at

-- a commit at a write is one at a stop that is this write
pub handles_write : (o reserved a : Book) (p d : ℕ) (v : ℤ) (s : Stop) (sink : Option ℕ) → is_but_reserved s o reserved
    → ((z : Stop) → z ≡ s → IsWriteTo o.tables p z d v)
    → AnsweredFirst p (λ z. IsWriteTo o.tables p z d v) sink reserved a → HandlesFirst p s sink o a
handles_write o reserved a p d v s sink but asks made = record {
  reserved = reserved;
  but = but;
  answered = record {
    answer = made.answer;
    answered =
        asked_otherwise p (λ z. IsWriteTo o.tables p z d v) (λ z. z ≡ s) made.answer reserved a asks made.answered;
    sink_is = λ z is. made.sink_is z (asks z is);
  };
}

-- ---- its turn

module _ (quota p : ℕ) (b : Book) (kept : IsKept b) (holds : HoldsFirst p b.schedule (first_held p b.schedule))
    (more : b.commits + held_count b + 1 < 2 ^ 64) (s : Machine) (x : Advanced)
    (own : IsOwnAdvance (first_claimed p b) p x) (advance : IsAdvance x) (within : IsWithinQuota quota x)
    (after : s ≡ with_frame p x.to b.machine) where
  abbrev was : Book
  was = first_claimed p b

  -- held, at the end of its steps
  abbrev pub stepped : Book
  stepped = first_claimed p (moved b s b.schedule)

  is_stepped : stepped ≡ standing_at p x.to was
  is_stepped = ap (λ z. moved was z was.schedule) after

  claimed_was : IsClaimed p b was
  claimed_was = claimed b kept p holds more

  kept_was : IsKept was
  kept_was = kept_first b kept p holds more

  pub first_kept : IsKept stepped
  first_kept = stepped_kept quota p b was x claimed_was kept_was own advance within stepped is_stepped

  pub first_sound : IsSound stepped
  first_sound = record { in_step = first_kept.in_step; nothing_owed = first_kept.nothing_owed }

  -- if memory has run out, it is not held
  pub kept_in_vain : IsKept (moved b s b.schedule)
  kept_in_vain =
      let there = holds.there in
      let long = kept.in_step.processes in
      subst IsKept (sym (ap (λ z. moved b z b.schedule) after))
      (kept_moved b kept p (omega (arith, there, long)) x advance (record { program = own.program; from = own.from }))

  -- and stays the first
  pub turn_in_vain : x.stop ≢ stop.Paused → slice_get b.schedule.queue 0 ≡ Some p
      → StepsUncommitted quota b (moved b s b.schedule)
  turn_in_vain wants first = record {
    process = p;
    first = first;
    advance = x;
    own = record { program = own.program; from = own.from };
    advances = advance;
    within = within;
    wants = wants;
    there = ap (λ z. moved b z b.schedule) after;
  }

  module _ (sink : Option ℕ) (a : Book) (h : HandlesFirst p x.stop sink stepped a) where
    kept_then : IsKept h.reserved
    kept_then = kept_reserved x.stop stepped h.reserved h.but first_kept

    held_then : IsHeld h.reserved p
    held_then =
        held_reserved x.stop stepped h.reserved h.but p
        (stepped_held quota p b was x claimed_was kept_was own advance within stepped is_stepped)

    pub turn_fits : a.commits + 1 < 2 ^ 64
    turn_fits =
        fits_after h.reserved a p (λ z. z ≡ x.stop) x.stop h.answered.answer refl kept_then held_then
        h.answered.answered

    pub turn_kept : IsKept (with_one_commit a)
    turn_kept =
        kept_counted h.reserved a p x.stop h.answered.answer kept_then (h.answered.answered.answers x.stop refl)
        h.answered.answered.sound h.answered.answered.released

    handles : HandlesStop p x.stop h.answered.answer h.reserved (with_one_commit a)
    handles =
        handles_counted h.reserved a p x.stop h.answered.answer kept_then (h.answered.answered.answers x.stop refl)
        h.answered.answered.sound h.answered.answered.released

    turn_steps : StepsNext quota h.answered.answer b (with_one_commit a)
    turn_steps =
        steps_next quota p b was x claimed_was kept_was own advance within stepped is_stepped h.reserved (with_one_commit a)
        h.answered.answer h.but handles

    turn_history : (with_one_commit a).history ≡ b.history ++ handles.events
    turn_history =
        history_then handles.events (ready_if_paused p h.answered.answer (with_one_commit h.reserved)) (with_one_commit a)
        handles.appends
        ∙ ap (λ H. H ++ handles.events)
        (base_history h.answered.answer p (with_one_commit h.reserved) ∙ history_reserved x.stop stepped h.reserved h.but)

    turn_tables : (with_one_commit a).tables ≡ b.tables
    turn_tables =
        tables_stay handles.events (ready_if_paused p h.answered.answer (with_one_commit h.reserved)) (with_one_commit a)
        handles.appends
        ∙ base_tables h.answered.answer p (with_one_commit h.reserved) ∙ tables_reserved x.stop stepped h.reserved h.but

    turn_commits : (with_one_commit a).commits ≡ b.commits + 1
    turn_commits =
        commits_stay handles.events (ready_if_paused p h.answered.answer (with_one_commit h.reserved)) (with_one_commit a)
        handles.appends
        ∙ base_commits h.answered.answer p (with_one_commit h.reserved)
        ∙ ap (λ n. n + 1) (commits_reserved x.stop stepped h.reserved h.but)

    turn_puts : puts_on sink h.answered.answer b (with_one_commit a)
    turn_puts =
        puts_by b (with_one_commit a) h.reserved p x.stop sink handles.events
        (tables_reserved x.stop stepped h.reserved h.but) turn_history h.answered.answer handles.answers
        (h.answered.sink_is x.stop refl)

    turn_held : held_count (with_one_commit a) ≡ held_count b
    turn_held =
        let released = h.answered.answered.released in
        let same = count_reserved x.stop stepped h.reserved h.but in
        let one = held_more b.schedule.states p holds.there (ap is_held holds.was_ready) in
        omega (arith, released, same, one)

    pub turn_made : IsBook b → IsSchedule (with_one_commit a).schedule → IsTurn quota sink b (with_one_commit a)
    turn_made book schedule = record {
      step = record {
        was = book;
        is = record {
          network = subst IsNetwork (sym turn_tables) book.network;
          schedule = schedule;
          kept = turn_kept;
        };
        answer = h.answered.answer;
        steps = turn_steps;
        puts = turn_puts;
      };
      kept = turn_kept;
      commits = turn_commits;
      held = turn_held;
    }

-- ---- turns in a row

-- after this many turns
pub record IsSoFar (quota n : ℕ) (first now : Book) : Type 0 where
  pub row : StepsInRow quota first n now
  pub kept : IsKept now
  pub commits : now.commits ≡ first.commits + n
  pub held : held_count now ≡ held_count first
  pub queue : n ≡ 0 → now.schedule.queue ≡ first.schedule.queue

pub none_so_far : (quota : ℕ) (b : Book) → IsKept b → IsSoFar quota 0 b b
none_so_far quota b kept = record {
  row = no_step;
  kept = kept;
  commits = let same : b.commits ≡ b.commits + 0 = omega arith in same;
  held = refl;
  queue = λ zero. refl;
}

-- for a turn the book may have got memory first
module _ (quota n : ℕ) (first now with_memory after : Book) (same : with_memory ≡ now)
    (so_far : IsSoFar quota n first now) where
  a_turn : (sink : Option ℕ) → IsTurn quota sink with_memory after → IsTurn quota sink now after
  a_turn sink turn = subst (λ b. IsTurn quota sink b after) same turn

  pub more_so_far : (sink : Option ℕ) → is_some sink ≡ false → IsTurn quota sink with_memory after
      → IsSoFar quota (n + 1) first after
  more_so_far (Some c) none turn = absurd (false≢true (sym none))
  more_so_far None none turn =
      let is = a_turn None turn in
      let commits = so_far.commits in
      let more = is.commits in
      record {
        row = one_step_more now after so_far.row is.step;
        kept = is.kept;
        commits = omega (arith, commits, more);
        held = is.held ∙ so_far.held;
        queue = λ zero. absurd (omega (arith, zero));
      }

  pub runs_to_sink : (most : ℕ) → n < most → (sink : Option ℕ) → is_some sink ≡ true
      → IsTurn quota sink with_memory after → RunsInRow quota most sink first after
  runs_to_sink most below None some turn = absurd (false≢true some)
  runs_to_sink most below (Some c) some turn =
      let is = a_turn (Some c) turn in
      let commits = so_far.commits in
      let more = is.commits in
      record {
        steps = n;
        last = now;
        row = so_far.row;
        ends = is.step;
        within = omega (arith, commits, more, below);
        some = λ ready many. omega (arith, commits, more);
      }

-- all turns are made, or nobody is ready
pub runs_so_far : (quota most n : ℕ) (first now : Book) → IsSoFar quota n first now → n ≤ most
    → (n < most → now.schedule.queue ≡ []) → RunsInRow quota most None first now
runs_so_far quota most n first now so_far within stopped =
    let commits = so_far.commits in
    record {
      steps = n;
      last = now;
      row = so_far.row;
      ends = refl;
      within = omega (arith, commits, within);
      some = λ ready many.
          elim (cases_eq n 0) [
            | inl zero ↦ absurd (ready (sym (so_far.queue zero) ∙ stopped (omega (arith, zero, many))))
            | inr other ↦ omega (arith, commits, other)
          ];
    }

nobody_first : (queue : List ℕ) → None ≡ slice_get queue 0 → queue ≡ []
nobody_first [] none = refl
nobody_first (x ∷ xs) none = absurd cc

pub runs_till_idle : (quota most n : ℕ) (first now with_memory : Book) → with_memory ≡ now → IsSoFar quota n first now
    → n ≤ most → None ≡ slice_get now.schedule.queue 0 → RunsInRow quota most None first with_memory
runs_till_idle quota most n first now with_memory same so_far within nobody =
    subst (RunsInRow quota most None first) (sym same)
    (runs_so_far quota most n first now so_far within (λ below. nobody_first now.schedule.queue nobody))

-- what holds in any case
pub refused_with : {T E P : Type 0} (r : Result T E) → P → OnErr r P
refused_with (Ok x) holds = tt
refused_with (Err e) holds = holds

-- memory has run out before a turn, or in it
pub refused_before : (quota most n : ℕ) (first now after : Book) → after ≡ now → IsSoFar quota n first now → n < most
    → RunsInVain quota most first after
refused_before quota most n first now after same so_far fewer = record {
  steps = n;
  last = now;
  row = so_far.row;
  fewer = fewer;
  commits = ap (λ b. b.commits) same ∙ so_far.commits;
  ends = inl same;
}

pub refused_in_turn : (quota most n : ℕ) (first now after : Book) → StepsUncommitted quota now after
    → IsSoFar quota n first now → n < most → RunsInVain quota most first after
refused_in_turn quota most n first now after uncommitted so_far fewer = record {
  steps = n;
  last = now;
  row = so_far.row;
  fewer = fewer;
  commits = ap (λ b. b.commits) uncommitted.there ∙ so_far.commits;
  ends = inr uncommitted;
}

-- ---- what a refused row leaves as it is after its last step

module _ (quota most : ℕ) (before after : Book) (vain : RunsInVain quota most before after) where
  pub refused_tables : after.tables ≡ vain.last.tables
  refused_tables =
      elim vain.ends [
        | inl same ↦ ap (λ b. b.tables) same
        | inr uncommitted ↦ ap (λ b. b.tables) uncommitted.there
      ]

  pub refused_history : after.history ≡ vain.last.history
  refused_history =
      elim vain.ends [
        | inl same ↦ ap (λ b. b.history) same
        | inr uncommitted ↦ ap (λ b. b.history) uncommitted.there
      ]

  pub refused_commits : after.commits ≤ before.commits + most
  refused_commits = let is = vain.commits in let fewer = vain.fewer in omega (arith, is, fewer)
