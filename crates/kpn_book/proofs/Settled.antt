-- What the commit of a region does to its book, all in all.
use Rattle.std.proofs.Common.{◌≡◌, ℕ, ◌+◌, ◌<◌, ◌≤◌, Bool, true, false, ◌&&◌, List, [], ◌∷◌, ◌++◌, length, set, get_or, Option, Some, None, refl, sym, ap, ◌∙◌, subst, inl, inr, arith, append_assoc, append-nil}
use Rattle.kpn_book.proofs.Common.{list_all, range_with_len, cases_eq, cases_lt, false≢true, length-set, get_or-set_same, get_or-set_other, get_or_past, Tables, Stop, Event, State, is_held, growth_after, is_in_region, Batch, stop_in, Done, Schedule, state_at, made_ready, Book, put_back, with_one_commit, IsBook, own_part, woken_by, all_made_ready, Appends, AppendsAll, IsGrowthOwed, HasToWait, IsAnswer, ready_if_paused, is_at_stop, CommitsAtStops, CommitsRegion, with_batch}
use Rattle.kpn_history.specs.declared.event.Event.TheVariants as event
use Rattle.kpn_history.specs.declared.state.State.TheVariants.{Ready, WaitsEmpty, WaitsFull, Ended}
use Rattle.kpn_book.specs.declared.answers.Done.TheVariants as done
use Rattle.kpn_book.specs.Regions.{commits_or_not, goes_to, has_part, settles_if, Settles, SettleBelow, none_yet, one_more}
use Rattle.kpn_book.proofs.Appended.{tables_stay, history_then, commits_stay}
use Rattle.kpn_book.proofs.Regions.{and_left, and_right, length_woken}

-- ---- who is not held stays so

-- process q is not held
abbrev IsFreeIn : Schedule → (q : ℕ) → Type 0
IsFreeIn s q = is_held (state_at s.states q) ≡ false

set_here : (xs : List State) (p : ℕ) (y : State) → is_held y ≡ false → is_held (get_or (set xs p y) p Ready) ≡ false
set_here xs p y free =
    elim (cases_lt p (length xs)) [
      | inl there ↦ ap is_held (get_or-set_same xs p y Ready there) ∙ free
      | inr past ↦
          let long = length-set xs p y in ap is_held (get_or_past (set xs p y) p Ready (omega (arith, past, long)))
    ]

set_free : (xs : List State) (p q : ℕ) (y : State) → is_held y ≡ false → is_held (get_or xs q Ready) ≡ false
    → is_held (get_or (set xs p y) q Ready) ≡ false
set_free xs p q y free is =
    elim (cases_eq q p) [
      | inl same ↦ subst (λ z. is_held (get_or (set xs z y) q Ready) ≡ false) same (set_here xs q y free)
      | inr other ↦ ap is_held (get_or-set_other xs p q y Ready other) ∙ is
    ]

made_free : (ps : List ℕ) (s : Schedule) (q : ℕ) → IsFreeIn s q → IsFreeIn (all_made_ready ps s) q
made_free [] s q is = is
made_free (p ∷ ps) s q is = made_free ps (made_ready p s) q (set_free s.states p q Ready refl is)

own_free : (e : Event) (s : Schedule) (q : ℕ) → IsFreeIn s q → IsFreeIn (own_part e s) q
own_free (event.Get p c v) s q is = set_free s.states p q Ready refl is
own_free (event.Put p c v) s q is = set_free s.states p q Ready refl is
own_free (event.WaitEmpty p c) s q is = set_free s.states p q (WaitsEmpty c) refl is
own_free (event.WaitFull p c) s q is = set_free s.states p q (WaitsFull c) refl is
own_free (event.Ended p how) s q is = set_free s.states p q (Ended how) refl is
own_free e s q is = is

free_then : (e : Event) (before after : Book) → Appends e before after → (q : ℕ)
    → IsFreeIn (own_part e before.schedule) q → IsFreeIn after.schedule q
free_then e before after is q free =
    subst (λ s. IsFreeIn s q) (sym is.schedule)
    (made_free (woken_by before.tables before.machine.waits e) (own_part e before.schedule) q free)

all_free : (events : List Event) (before after : Book) → AppendsAll events before after → (q : ℕ)
    → IsFreeIn before.schedule q → IsFreeIn after.schedule q
all_free [] before after same q is = subst (λ (b : Book). IsFreeIn b.schedule q) (sym same) is
all_free (e ∷ events) before after is q free =
    all_free events is.0 after is.2 q (free_then e before is.0 is.1 q (own_free e before.schedule q free))

-- ---- one process at its stop

module _ (within : ℕ → Bool) where
  -- the event is of process p, which is not held after it
  record IsOwnAtStop (p : ℕ) (e : Event) : Type 0 where
    pub at : is_at_stop within e ≡ within p
    pub here : (s : Schedule) → IsFreeIn (own_part e s) p

  own_wait : (b : Book) (p : ℕ) (s : Stop) (wait : Event) → HasToWait b p s wait → IsOwnAtStop p wait
  own_wait b p s wait waits =
      elim waits [
        | inl empty ↦ subst (IsOwnAtStop p) (sym empty.is)
            (record { at = refl; here = λ x. set_here x.states p (WaitsEmpty empty.channel) refl })
        | inr full ↦ subst (IsOwnAtStop p) (sym full.is)
            (record { at = refl; here = λ x. set_here x.states p (WaitsFull full.channel) refl })
      ]

  growth_at : (t : Tables) (H growth : List Event) → IsGrowthOwed t H growth
      → list_all (is_at_stop within) growth ≡ true
  growth_at t H [] owed = refl
  growth_at t H (event.Grow p d n ∷ []) owed = refl
  growth_at t H growth owed = absurd owed

  -- process p is committed, or put back
  record SettlesOne (p : ℕ) (before after : Book) : Type 0 where
    pub tables : after.tables ≡ before.tables
    pub events : List Event
    pub history : after.history ≡ before.history ++ events
    pub own : list_all (is_at_stop within) events ≡ true
    pub processes : ℕ
    pub commits : after.commits ≡ before.commits + processes
    pub few : processes ≤ 1
    pub free : (q : ℕ) → IsFreeIn before.schedule q → IsFreeIn after.schedule q
    pub here : within p ≡ true → IsFreeIn after.schedule p

  module _ (p : ℕ) (is_within : within p ≡ true) (before after : Book) where
    -- its own event, and then a growth, or none
    own_first : (e : Event) (rest events : List Event) → IsOwnAtStop p e
        → list_all (is_at_stop within) rest ≡ true → events ≡ e ∷ rest
        → AppendsAll events (with_one_commit before) after → SettlesOne p before after
    own_first e rest events own growth are appends =
        let is = subst (λ es. AppendsAll es (with_one_commit before) after) are appends in
        record {
          tables = tables_stay (e ∷ rest) (with_one_commit before) after is;
          events = e ∷ rest;
          history = history_then (e ∷ rest) (with_one_commit before) after is;
          own = ap (λ w. w && list_all (is_at_stop within) rest) (own.at ∙ is_within) ∙ growth;
          processes = 1;
          commits = commits_stay (e ∷ rest) (with_one_commit before) after is;
          few = omega arith;
          free = all_free (e ∷ rest) (with_one_commit before) after is;
          here = λ _.
              all_free rest is.0 after is.2 p
              (free_then e (with_one_commit before) is.0 is.1 p (own.here before.schedule));
        }

    by_answer : (s : Stop) (answer : Done) (events : List Event) → IsAnswer before p s answer events
        → AppendsAll events (ready_if_paused p answer (with_one_commit before)) after → SettlesOne p before after
    by_answer s (done.Got v) events is appends =
        own_first (event.Get p is.channel v) [] events
        (record { at = refl; here = λ x. set_here x.states p Ready refl }) refl is.appends appends
    by_answer s done.Put events is appends =
        own_first (event.Put p is.channel is.item) [] events
        (record { at = refl; here = λ x. set_here x.states p Ready refl }) refl is.appends appends
    by_answer s done.Blocked events is appends =
        own_first is.wait [] events (own_wait before p s is.wait is.waits) refl is.appends appends
    by_answer s (done.Grew d) events is appends =
        own_first is.wait (growth_after before.tables (before.history ++ is.wait ∷ []) is.grower d ∷ []) events
        (own_wait before p s is.wait is.waits) refl is.appends appends
    by_answer s done.Ended events is appends =
        own_first (event.Ended p is.how) is.growth events
        (record { at = refl; here = λ x. set_here x.states p (Ended is.how) refl })
        (growth_at before.tables (before.history ++ event.Ended p is.how ∷ []) is.growth is.owed) is.appends appends
    by_answer s done.Paused events is appends =
        let back = put_back p (with_one_commit before) in
        let same : after ≡ back = subst (λ es. AppendsAll es back after) is.appends appends in
        record {
          tables = ap (λ b. b.tables) same;
          events = [];
          history = ap (λ b. b.history) same ∙ sym (append-nil before.history);
          own = refl;
          processes = 1;
          commits = ap (λ b. b.commits) same;
          few = omega arith;
          free = λ q free.
              subst (λ (b : Book). IsFreeIn b.schedule q) (sym same)
              (set_free before.schedule.states p q Ready refl free);
          here = λ _.
              subst (λ (b : Book). IsFreeIn b.schedule p) (sym same) (set_here before.schedule.states p Ready refl);
        }

    put_back_one : after ≡ put_back p before → SettlesOne p before after
    put_back_one same = record {
      tables = ap (λ b. b.tables) same;
      events = [];
      history = ap (λ b. b.history) same ∙ sym (append-nil before.history);
      own = refl;
      processes = 0;
      commits = let is = ap (λ (b : Book). b.commits) same in omega (arith, is);
      few = omega arith;
      free = λ q free.
          subst (λ (b : Book). IsFreeIn b.schedule q) (sym same)
          (set_free before.schedule.states p q Ready refl free);
      here = λ _.
          subst (λ (b : Book). IsFreeIn b.schedule p) (sym same) (set_here before.schedule.states p Ready refl);
    }

    by_memory : (memory : Bool) (s : Stop) → commits_or_not memory p s before after → SettlesOne p before after
    by_memory true s is = by_answer s is.0 is.1.events is.1.answers is.1.appends
    by_memory false s is = put_back_one is.1

    by_stop : (memory : Bool) (o : Option Stop) → goes_to memory p o before after → SettlesOne p before after
    by_stop memory (Some s) is = by_memory memory s is
    by_stop memory None is = put_back_one is.1

  not_settled : (p : ℕ) (before after : Book) → (within p ≡ true → IsFreeIn before.schedule p) → after ≡ before
      → SettlesOne p before after
  not_settled p before after free same = record {
    tables = ap (λ b. b.tables) same;
    events = [];
    history = ap (λ b. b.history) same ∙ sym (append-nil before.history);
    own = refl;
    processes = 0;
    commits = let is = ap (λ (b : Book). b.commits) same in omega (arith, is);
    few = omega arith;
    free = λ q is. subst (λ (b : Book). IsFreeIn b.schedule q) (sym same) is;
    here = λ is. subst (λ (b : Book). IsFreeIn b.schedule p) (sym same) (free is);
  }

and_false : (a b : Bool) → a ≡ true → (a && b) ≡ false → b ≡ false
and_false a b is_true is = ap (λ x. x && b) (sym is_true) ∙ is

settles_one : (memory : Bool) (batch : Batch) (p : ℕ) (before after : Book) → Settles memory batch p before after
    → SettlesOne (is_in_region batch.now) p before after
settles_one memory batch p before after = by_part (has_part batch p before) refl
  where
    by_part : (part : Bool) → has_part batch p before ≡ part → settles_if part memory batch p before after
        → SettlesOne (is_in_region batch.now) p before after
    by_part true part is =
        by_stop (is_in_region batch.now) p
        (and_left (is_in_region batch.now p) (is_held (state_at before.schedule.states p)) part) before after memory
        (stop_in batch p) is
    by_part false part is =
        not_settled (is_in_region batch.now) p before after
        (λ within.
        and_false (is_in_region batch.now p) (is_held (state_at before.schedule.states p)) within part)
        is.1

-- ---- all of them, in order of number

all-append : (f : Event → Bool) (xs ys : List Event) → list_all f xs ≡ true → list_all f ys ≡ true
    → list_all f (xs ++ ys) ≡ true
all-append f [] ys one two = two
all-append f (x ∷ xs) ys one two =
    ap (λ w. w && list_all f (xs ++ ys)) (and_left (f x) (list_all f xs) one)
    ∙ all-append f xs ys (and_right (f x) (list_all f xs) one) two

record AreSettled (within : ℕ → Bool) (n : ℕ) (first last : Book) : Type 0 where
  pub tables : last.tables ≡ first.tables
  pub events : List Event
  pub history : last.history ≡ first.history ++ events
  pub own : list_all (is_at_stop within) events ≡ true
  pub processes : ℕ
  pub commits : last.commits ≡ first.commits + processes
  pub few : processes ≤ n
  pub free : (q : ℕ) → IsFreeIn first.schedule q → IsFreeIn last.schedule q
  pub below : (p : ℕ) → p < n → within p ≡ true → IsFreeIn last.schedule p

settled : (batch : Batch) (first : Book) {n : ℕ} {memory : Bool} {last : Book}
    → SettleBelow batch first n memory last → AreSettled (is_in_region batch.now) n first last
settled batch first none_yet = record {
  tables = refl;
  events = [];
  history = sym (append-nil first.history);
  own = refl;
  processes = 0;
  commits = let same : first.commits ≡ first.commits + 0 = omega arith in same;
  few = omega arith;
  free = λ q is. is;
  below = λ p below within. absurd (omega (arith, below));
}
settled batch first (one_more {n} enough before after so_far settles) =
    let some = settled batch first so_far in
    let one = settles_one enough batch n before after settles in
    let few = some.few in
    let at_most = one.few in
    let made = some.commits in
    let more = one.commits in
    record {
      tables = one.tables ∙ some.tables;
      events = some.events ++ one.events;
      history =
          one.history ∙ ap (λ H. H ++ one.events) some.history
          ∙ append_assoc first.history some.events one.events;
      own = all-append (is_at_stop (is_in_region batch.now)) some.events one.events some.own one.own;
      processes = some.processes + one.processes;
      commits = omega (arith, made, more);
      few = omega (arith, few, at_most);
      free = λ q is. one.free q (some.free q is);
      below = λ p below within.
          elim (cases_eq p n) [
            | inl same ↦
                subst (λ k. IsFreeIn after.schedule k) (sym same)
                (one.here (subst (λ k. is_in_region batch.now k ≡ true) same within))
            | inr other ↦ one.free p (some.below p (omega (arith, below, other)) within)
          ];
    }

-- ---- the commit

pub commits_at_stops : (b : Batch) (memory : Bool) (before after : Book) → IsBook before → b.tables ≡ before.tables
    → CommitsRegion b memory before after → CommitsAtStops b before after
commits_at_stops b memory before after book tables is =
    let joined = with_batch b is.joined before in
    let all = settled b joined is.settle in
    let made = all.commits in
    record {
      tables = all.tables;
      events = all.events;
      history = all.history;
      own = all.own;
      processes = all.processes;
      commits = made;
      few = all.few;
      none_held = λ p within held.
          let free : IsFreeIn after.schedule p =
          elim (cases_lt p (length before.tables.instances)) [
            | inl there ↦ all.below p there within
            | inr past ↦
                let same = book.kept.in_step.processes in
                let long =
                length_woken (is_in_region b.now) is.joined.waits (range_with_len 0 (length before.schedule.states))
                before.schedule in
                all.free p
                (ap is_held (get_or_past joined.schedule.states p Ready (omega (arith, past, same, long))))
          ] in
          absurd (false≢true (sym free ∙ ap is_held held.held));
    }
