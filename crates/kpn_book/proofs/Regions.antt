-- The processes of a region become held, are put back or are woken.
use Rattle.std.proofs.Common.{◌≡◌, ℕ, ◌+◌, ◌<◌, ◌≤◌, ◌^◌, ◌⊎◌, Bool, true, false, not, ◌&&◌, cond, List, [], ◌∷◌, ◌++◌, length, set, get_or, drop, slice_get, Option, Some, None, refl, sym, ap, ◌∙◌, subst, inl, inr, arith, append-nil, append_assoc, length-append}
use Rattle.std.specs.List.{Contains, filter}
use Rattle.kpn_book.proofs.Common.{cases_eq, cases_lt, both_ways, false≢true, length-set, get_or-set_same, get_or-set_other, get_or_past, set-set, set-get_or, filter-append, count_by-le-length, Wait, Nobody, wait_at, Contains-first, Contains-later, Contains-cases, Contains-none, How, State, is_ready, is_held, end_in, wait_in, Schedule, state_at, IsSchedule, first_held, made_ready, with_state, Book, IsHeld, held_count, IsStateBy, IsKept, all_held, region_held, turned_if, put_back_if, all_put_back, is_woken, woken_if, all_woken}
use Rattle.kpn_history.specs.declared.state.State.TheVariants.{Ready, Held, WaitsEmpty, WaitsFull, Ended}
use Rattle.kpn_book.proofs.Queueing.{first_is_ready}
use Rattle.kpn_book.proofs.Committing.{kept_put_back}

-- ---- elements that pass a test

module _ (f : ℕ → Bool) where
  pub contains_filtered : (xs : List ℕ) (q : ℕ) → Contains (filter f xs) q → Contains xs q × (f q ≡ true)
  contains_filtered [] q among = absurd (Contains-none q among)
  contains_filtered (x ∷ xs) q among = by_test (f x) refl (λ h. contains_filtered xs q h) among
    where
      by_test : (b : Bool) → f x ≡ b → (Contains (filter f xs) q → Contains xs q × (f q ≡ true))
          → Contains (cond b (x ∷ filter f xs) (filter f xs)) q → Contains (x ∷ xs) q × (f q ≡ true)
      by_test true is rest h =
          elim (Contains-cases x (filter f xs) q h) [
            | inl same ↦ (
              subst (λ z. Contains (x ∷ xs) z) same (Contains-first x xs),
              subst (λ z. f z ≡ true) same is,
            )
            | inr later ↦ let more = rest later in (Contains-later x xs q more.0, more.1)
          ]
      by_test false is rest h = let more = rest h in (Contains-later x xs q more.0, more.1)

  pub filtered_contains : (xs : List ℕ) (q : ℕ) → Contains xs q → f q ≡ true → Contains (filter f xs) q
  filtered_contains [] q among passes = absurd (Contains-none q among)
  filtered_contains (x ∷ xs) q among passes =
      by_test (f x) refl (λ h. filtered_contains xs q h passes) (Contains-cases x xs q among)
    where
      by_test : (b : Bool) → f x ≡ b → (Contains xs q → Contains (filter f xs) q) → ((x ≡ q) ⊎ Contains xs q)
          → Contains (cond b (x ∷ filter f xs) (filter f xs)) q
      by_test true is rest (inl same) =
          subst (λ z. Contains (x ∷ filter f xs) z) same (Contains-first x (filter f xs))
      by_test true is rest (inr later) = Contains-later x (filter f xs) q (rest later)
      by_test false is rest (inl same) = absurd (both_ways (f q) (subst (λ z. f z ≡ false) same is) passes)
      by_test false is rest (inr later) = rest later

-- ---- processes that become held

pub length_held : (ps : List ℕ) (xs : List State) → length (all_held ps xs) ≡ length xs
length_held [] xs = refl
length_held (p ∷ ps) xs = length_held ps (set xs p Held) ∙ length-set xs p Held

pub all_held-push : (ps : List ℕ) (p : ℕ) (xs : List State) → all_held (ps ++ p ∷ []) xs ≡ set (all_held ps xs) p Held
all_held-push [] p xs = refl
all_held-push (q ∷ ps) p xs = all_held-push ps p (set xs q Held)

held_already : (ps : List ℕ) (xs : List State) (q : ℕ) → q < length xs → get_or xs q Ready ≡ Held
    → get_or (all_held ps xs) q Ready ≡ Held
held_already [] xs q there is = is
held_already (p ∷ ps) xs q there is =
    held_already ps (set xs p Held) q (omega (arith, there, length-set xs p Held))
    (elim (cases_eq q p) [
      | inl same ↦ subst (λ z. get_or (set xs z Held) q Ready ≡ Held) same (get_or-set_same xs q Held Ready there)
      | inr other ↦ get_or-set_other xs p q Held Ready other ∙ is
    ])

pub are_held : (ps : List ℕ) (xs : List State) (q : ℕ) → Contains ps q → q < length xs
    → get_or (all_held ps xs) q Ready ≡ Held
are_held [] xs q among there = absurd (Contains-none q among)
are_held (p ∷ ps) xs q among there =
    let long : q < length (set xs p Held) = omega (arith, there, length-set xs p Held) in
    elim (Contains-cases p ps q among) [
      | inl same ↦
          held_already ps (set xs p Held) q long
          (subst (λ z. get_or (set xs z Held) q Ready ≡ Held) (sym same) (get_or-set_same xs q Held Ready there))
      | inr later ↦ are_held ps (set xs p Held) q later long
    ]

pub not_held : (ps : List ℕ) (xs : List State) (q : ℕ) → (Contains ps q → ⊥)
    → get_or (all_held ps xs) q Ready ≡ get_or xs q Ready
not_held [] xs q none = refl
not_held (p ∷ ps) xs q none =
    not_held ps (set xs p Held) q (λ later. none (Contains-later p ps q later))
    ∙ get_or-set_other xs p q Held Ready
    (λ same. none (subst (λ z. Contains (p ∷ ps) z) (sym same) (Contains-first p ps)))

-- at most all processes are held
pub held_at_most : (b : Book) → length b.schedule.states ≡ length b.tables.instances
    → held_count b ≤ length b.tables.instances
held_at_most b long =
    let most = count_by-le-length is_held b.schedule.states in
    omega (arith, most, long)

module _ (within : ℕ → Bool) (b : Book) (kept : IsKept b) (schedule : IsSchedule b.schedule)
    (few : b.commits + length b.tables.instances < 2 ^ 64) where
  abbrev claimed_book : Book
  claimed_book = record b { schedule = region_held within b.schedule }

  states_claimed : (q : ℕ) → q < length b.tables.instances
      → IsStateBy (end_in b.machine q) (wait_in b.machine q)
      (get_or (all_held (filter within b.schedule.queue) b.schedule.states) q Ready)
  states_claimed q there =
      by_test (within q) refl (is_ready (state_at b.schedule.states q)) refl
    where
      long : q < length b.schedule.states
      long = let same = kept.in_step.processes in omega (arith, there, same)

      as_it_was : (Contains (filter within b.schedule.queue) q → ⊥)
          → IsStateBy (end_in b.machine q) (wait_in b.machine q)
          (get_or (all_held (filter within b.schedule.queue) b.schedule.states) q Ready)
      as_it_was none =
          subst (λ x. IsStateBy (end_in b.machine q) (wait_in b.machine q) x)
          (sym (not_held (filter within b.schedule.queue) b.schedule.states q none)) (kept.in_step.states q there)

      ready_state : (x : State) → is_ready x ≡ true → x ≡ Ready
      ready_state Ready is = refl
      ready_state other is = absurd (false≢true is)

      by_test : (w : Bool) → within q ≡ w → (r : Bool) → is_ready (state_at b.schedule.states q) ≡ r
          → IsStateBy (end_in b.machine q) (wait_in b.machine q)
          (get_or (all_held (filter within b.schedule.queue) b.schedule.states) q Ready)
      by_test true in_it true ready =
          let is = ready_state (state_at b.schedule.states q) ready in
          let free =
          subst (λ x. IsStateBy (end_in b.machine q) (wait_in b.machine q) x) is
          (kept.in_step.states q there) in
          subst (λ x. IsStateBy (end_in b.machine q) (wait_in b.machine q) x)
          (sym (are_held (filter within b.schedule.queue) b.schedule.states q
          (filtered_contains within b.schedule.queue q ((schedule.ready q).1 (long, is)) in_it) long))
          free
      by_test true in_it false ready =
          as_it_was
          (λ among.
          let queued = (contains_filtered within b.schedule.queue q among).0 in
          false≢true (sym ready ∙ ap is_ready ((schedule.ready q).0 queued).1))
      by_test false in_it r ready =
          as_it_was (λ among. both_ways (within q) in_it (contains_filtered within b.schedule.queue q among).1)

  pub kept_region_held : IsKept claimed_book
  kept_region_held =
      let long = length_held (filter within b.schedule.queue) b.schedule.states ∙ kept.in_step.processes in
      let most = held_at_most claimed_book long in
      record {
        in_step = record { run = kept.in_step.run; processes = long; states = states_claimed };
        nothing_owed = kept.nothing_owed;
        committed = kept.committed;
        countable = omega (arith, most, few);
      }

-- ---- the queue, turn by turn

-- these of the queue have had their turn, and these have not
pub record HadTurns (within : ℕ → Bool) (first : Schedule) (k : ℕ) (s : Schedule) : Type 0 where
  pub done : List ℕ
  pub rest : List ℕ
  pub all : first.queue ≡ done ++ rest
  pub count : length done ≡ k
  pub queue : s.queue ≡ rest ++ filter (λ p. not (within p)) done
  pub states : s.states ≡ all_held (filter within done) first.states

pub no_turn_yet : (within : ℕ → Bool) (s : Schedule) → HadTurns within s 0 s
no_turn_yet within s =
    record { done = []; rest = s.queue; all = refl; count = refl; queue = sym (append-nil s.queue); states = refl }

no_rest : (done rest : List ℕ) (n : ℕ) → length (done ++ rest) ≡ n → length done ≡ n → rest ≡ []
no_rest done [] n whole part = refl
no_rest done (p ∷ rest) n whole part =
    let long = length-append done (p ∷ rest) in
    absurd (let clash : length done + (length rest + 1) ≡ length done = omega (arith, long, whole, part) in omega arith)

pub all_had_turns : (within : ℕ → Bool) (first s : Schedule) (k : ℕ) → HadTurns within first k s
    → k ≡ length first.queue → s ≡ region_held within first
all_had_turns within first s k had is =
    let none = no_rest had.done had.rest (length first.queue) (sym (ap length had.all)) (had.count ∙ is) in
    let done : had.done ≡ first.queue =
    sym (append-nil had.done) ∙ ap (λ xs. had.done ++ xs) (sym none) ∙ sym had.all in
    let queue : s.queue ≡ filter (λ p. not (within p)) first.queue =
    had.queue ∙ ap (λ xs. xs ++ filter (λ p. not (within p)) had.done) none
    ∙ ap (filter (λ p. not (within p))) done in
    let states : s.states ≡ all_held (filter within first.queue) first.states =
    had.states ∙ ap (λ xs. all_held (filter within xs) first.states) done in
    ap (λ xs. record s { states = xs }) states
    ∙ ap (λ xs. record { states = all_held (filter within first.queue) first.states; queue = xs }) queue

module _ (within : ℕ → Bool) (first s : Schedule) (k p : ℕ) (had : HadTurns within first k s)
    (next : slice_get s.queue 0 ≡ Some p) (more : k < length first.queue) where
  -- the process whose turn it is, and those after it
  record IsNext (rest : List ℕ) : Type 0 where
    behind : List ℕ
    is : rest ≡ p ∷ behind

  its_turn : (rest : List ℕ) → length had.done + length rest ≡ length first.queue
      → s.queue ≡ rest ++ filter (λ p. not (within p)) had.done → IsNext rest
  its_turn [] whole queue = let count = had.count in absurd (omega (arith, whole, count, more))
  its_turn (q ∷ rest) whole queue =
      let same : Some q ≡ Some p = sym (ap (λ xs. slice_get xs 0) queue) ∙ next in
      record { behind = rest; is = (let is : q ≡ p = cc in ap (λ z. z ∷ rest) is) }

  turn : IsNext had.rest
  turn = its_turn had.rest (sym (length-append had.done had.rest) ∙ sym (ap length had.all)) had.queue

  all_then : first.queue ≡ (had.done ++ p ∷ []) ++ turn.behind
  all_then =
      had.all ∙ ap (λ xs. had.done ++ xs) turn.is ∙ sym (append_assoc had.done (p ∷ []) turn.behind)

  count_then : length (had.done ++ p ∷ []) ≡ k + 1
  count_then = length-append had.done (p ∷ []) ∙ ap (λ n. n + 1) had.count

  dropped : drop 1 s.queue ≡ turn.behind ++ filter (λ q. not (within q)) had.done
  dropped = ap (drop 1) (had.queue ∙ ap (λ xs. xs ++ filter (λ q. not (within q)) had.done) turn.is)

  one_filtered : (f : ℕ → Bool) (b : Bool) → f p ≡ b → filter f (p ∷ []) ≡ cond b (p ∷ []) []
  one_filtered f b is = ap (λ x. cond x (p ∷ []) []) is

  -- it is of the region, and becomes held
  pub had_turn_within : within p ≡ true → HadTurns within first (k + 1) (with_state p Held (first_held p s))
  had_turn_within is = record {
    done = had.done ++ p ∷ [];
    rest = turn.behind;
    all = all_then;
    count = count_then;
    queue =
        dropped
        ∙ ap (λ xs. turn.behind ++ xs)
        (sym (append-nil (filter (λ q. not (within q)) had.done))
        ∙ ap (λ xs. filter (λ q. not (within q)) had.done ++ xs)
        (sym (one_filtered (λ q. not (within q)) false (ap not is)))
        ∙ sym (filter-append (λ q. not (within q)) had.done (p ∷ [])));
    states =
        set-set s.states p Held Held
        ∙ ap (λ xs. set xs p Held) had.states
        ∙ sym (all_held-push (filter within had.done) p first.states)
        ∙ ap (λ xs. all_held xs first.states)
        (ap (λ xs. filter within had.done ++ xs) (sym (one_filtered within true is))
        ∙ sym (filter-append within had.done (p ∷ [])));
  }

  -- it is not, and goes to the tail
  pub had_turn_elsewhere : within p ≡ false → state_at s.states p ≡ Ready
      → HadTurns within first (k + 1) (made_ready p (first_held p s))
  had_turn_elsewhere is ready = record {
    done = had.done ++ p ∷ [];
    rest = turn.behind;
    all = all_then;
    count = count_then;
    queue =
        ap (λ xs. xs ++ p ∷ []) dropped
        ∙ append_assoc turn.behind (filter (λ q. not (within q)) had.done) (p ∷ [])
        ∙ ap (λ xs. turn.behind ++ xs)
        (ap (λ xs. filter (λ q. not (within q)) had.done ++ xs)
        (sym (one_filtered (λ q. not (within q)) true (ap not is)))
        ∙ sym (filter-append (λ q. not (within q)) had.done (p ∷ [])));
    states =
        set-set s.states p Held Ready
        ∙ ap (λ x. set s.states p x) (sym ready) ∙ set-get_or s.states p Ready
        ∙ had.states
        ∙ ap (λ xs. all_held xs first.states)
        (sym (append-nil (filter within had.done))
        ∙ ap (λ xs. filter within had.done ++ xs) (sym (one_filtered within false is))
        ∙ sym (filter-append within had.done (p ∷ [])));
  }

  -- it has its turn
  pub had_turn : (w : Bool) → w ≡ within p → IsSchedule s → HadTurns within first (k + 1) (turned_if w p s)
  had_turn true is schedule = had_turn_within (sym is)
  had_turn false is schedule =
      had_turn_elsewhere (sym is) (first_is_ready s.states s.queue p schedule next)

-- there is a first one until all had their turns
pub somebody_waits : (within : ℕ → Bool) (first s : Schedule) (k : ℕ) → HadTurns within first k s
    → k < length first.queue → slice_get s.queue 0 ≡ None → ⊥
somebody_waits within first s k had more none =
    by_rest had.rest (sym (length-append had.done had.rest) ∙ sym (ap length had.all)) had.queue
  where
    by_rest : (rest : List ℕ) → length had.done + length rest ≡ length first.queue
        → s.queue ≡ rest ++ filter (λ p. not (within p)) had.done → ⊥
    by_rest [] whole queue = let count = had.count in omega (arith, whole, count, more)
    by_rest (q ∷ rest) whole queue =
        let clash : ◌≡◌ {A = Option ℕ} None (Some q) = sym none ∙ ap (λ xs. slice_get xs 0) queue in absurd cc

pub turns_length : (within : ℕ → Bool) (first s : Schedule) (k : ℕ) → HadTurns within first k s
    → length s.states ≡ length first.states
turns_length within first s k had =
    ap length had.states ∙ length_held (filter within had.done) first.states

-- ---- processes that are put back

pub all_put_back-push : (within : ℕ → Bool) (ps : List ℕ) (q : ℕ) (s : Schedule)
    → all_put_back within (ps ++ q ∷ []) s ≡ put_back_if (within q) q (all_put_back within ps s)
all_put_back-push within [] q s = refl
all_put_back-push within (p ∷ ps) q s = all_put_back-push within ps q (put_back_if (within p) p s)

length_put_back_if : (w : Bool) (p : ℕ) (s : Schedule) → length (put_back_if w p s).states ≡ length s.states
length_put_back_if w p s = by_test (w && is_held (state_at s.states p))
  where
    by_test : (b : Bool) → length (cond b (made_ready p s) s).states ≡ length s.states
    by_test true = length-set s.states p Ready
    by_test false = refl

pub length_put_back : (within : ℕ → Bool) (ps : List ℕ) (s : Schedule)
    → length (all_put_back within ps s).states ≡ length s.states
length_put_back within [] s = refl
length_put_back within (p ∷ ps) s =
    length_put_back within ps (put_back_if (within p) p s) ∙ length_put_back_if (within p) p s

held_state : (x : State) → is_held x ≡ true → x ≡ Held
held_state Held is = refl
held_state other is = absurd (false≢true is)

-- a held process is there, since no other number has that state
pub is_held_there : (xs : List State) (p : ℕ) → get_or xs p Ready ≡ Held → p < length xs
is_held_there xs p is =
    elim (cases_lt p (length xs)) [
      | inl below ↦ below
      | inr past ↦ let clash : Ready ≡ Held = sym (get_or_past xs p Ready past) ∙ is in absurd cc
    ]

pub held_of_test : (b : Book) (p : ℕ) → is_held (state_at b.schedule.states p) ≡ true → IsHeld b p
held_of_test b p is =
    let held = held_state (state_at b.schedule.states p) is in
    record { there = is_held_there b.schedule.states p held; held = held }

pub and_left : (a b : Bool) → (a && b) ≡ true → a ≡ true
and_left true b is = refl
and_left false b is = absurd (false≢true is)

pub and_right : (a b : Bool) → (a && b) ≡ true → b ≡ true
and_right true b is = is
and_right false b is = absurd (false≢true is)

kept_put_back_if : (b : Book) → IsKept b → (w : Bool) (p : ℕ)
    → IsKept (record b { schedule = put_back_if w p b.schedule })
kept_put_back_if b kept w p = by_test (w && is_held (state_at b.schedule.states p)) refl
  where
    by_test : (x : Bool) → (w && is_held (state_at b.schedule.states p)) ≡ x
        → IsKept (record b { schedule = cond x (made_ready p b.schedule) b.schedule })
    by_test true is =
        kept_put_back b kept p (held_of_test b p (and_right w (is_held (state_at b.schedule.states p)) is))
    by_test false is = kept

pub kept_all_put_back : (within : ℕ → Bool) (ps : List ℕ) (b : Book) → IsKept b
    → IsKept (record b { schedule = all_put_back within ps b.schedule })
kept_all_put_back within [] b kept = kept
kept_all_put_back within (p ∷ ps) b kept =
    kept_all_put_back within ps (record b { schedule = put_back_if (within p) p b.schedule })
    (kept_put_back_if b kept (within p) p)

-- ---- processes that are woken

pub all_woken-push : (within : ℕ → Bool) (waits : List Wait) (ps : List ℕ) (q : ℕ) (s : Schedule)
    → all_woken within waits (ps ++ q ∷ []) s
    ≡ woken_if (within q) (wait_at waits q) q (all_woken within waits ps s)
all_woken-push within waits [] q s = refl
all_woken-push within waits (p ∷ ps) q s =
    all_woken-push within waits ps q (woken_if (within p) (wait_at waits p) p s)

woken_by_test : (b w : Bool) (p : ℕ) (s : Schedule)
    → length (cond b (cond w (with_state p Held s) (made_ready p s)) s).states ≡ length s.states
woken_by_test true true p s = length-set s.states p Held
woken_by_test true false p s = length-set s.states p Ready
woken_by_test false w p s = refl

length_woken_if : (w : Bool) (wait : Wait) (p : ℕ) (s : Schedule)
    → length (woken_if w wait p s).states ≡ length s.states
length_woken_if w wait p s = woken_by_test (is_woken (state_at s.states p) wait) w p s

pub length_woken : (within : ℕ → Bool) (waits : List Wait) (ps : List ℕ) (s : Schedule)
    → length (all_woken within waits ps s).states ≡ length s.states
length_woken within waits [] s = refl
length_woken within waits (p ∷ ps) s =
    length_woken within waits ps (woken_if (within p) (wait_at waits p) p s)
    ∙ length_woken_if (within p) (wait_at waits p) p s

-- the state agrees with the end and the wait of its process, or it has still to be woken
abbrev MayStandSo : (end : Option How) (wait : Wait) → State → Type 0
MayStandSo end wait x = IsStateBy end wait x ⊎ ((end ≡ None) × (is_woken x wait ≡ true))

woken_for_nobody : (x : State) (wait : Wait) → is_woken x wait ≡ true → wait ≡ Nobody
woken_for_nobody (WaitsEmpty c) Nobody is = refl
woken_for_nobody (WaitsFull c) Nobody is = refl
woken_for_nobody x wait is = absurd (false≢true is)

-- once it was woken if it is to be, it agrees
agrees_if_asked : (end : Option How) (wait : Wait) (x y : State) (b w : Bool) → is_woken x wait ≡ b
    → MayStandSo end wait x → y ≡ cond b (cond w Held Ready) x → IsStateBy end wait y
agrees_if_asked end wait x y b w test may is = subst (λ z. IsStateBy end wait z) (sym is) (by_test b w test may)
  where
    lives : (x : State) → is_woken x wait ≡ true → IsStateBy end wait x → end ≡ None
    lives (WaitsEmpty c) woken so = so.0
    lives (WaitsFull c) woken so = so.0
    lives Ready woken so = so.0
    lives Held woken so = so.0
    lives (Ended how) woken so = absurd (false≢true woken)

    has_ended_not : is_woken x wait ≡ true → MayStandSo end wait x → end ≡ None
    has_ended_not woken (inl so) = lives x woken so
    has_ended_not woken (inr so) = so.0

    by_test : (b w : Bool) → is_woken x wait ≡ b → MayStandSo end wait x
        → IsStateBy end wait (cond b (cond w Held Ready) x)
    by_test true true woken may = (has_ended_not woken may, woken_for_nobody x wait woken)
    by_test true false woken may = (has_ended_not woken may, woken_for_nobody x wait woken)
    by_test false w woken (inl so) = so
    by_test false w woken (inr so) = absurd (both_ways (is_woken x wait) woken so.1)

-- the state of a process once it had its turn
woken_state : (w : Bool) (wait : Wait) (q : ℕ) (s : Schedule) → q < length s.states
    → state_at (woken_if w wait q s).states q
    ≡ cond (is_woken (state_at s.states q) wait) (cond w Held Ready) (state_at s.states q)
woken_state w wait q s there = by_test (is_woken (state_at s.states q) wait) w
  where
    by_test : (b w : Bool) → state_at (cond b (cond w (with_state q Held s) (made_ready q s)) s).states q
        ≡ cond b (cond w Held Ready) (state_at s.states q)
    by_test true true = get_or-set_same s.states q Held Ready there
    by_test true false = get_or-set_same s.states q Ready Ready there
    by_test false w = refl

unwoken_state : (w : Bool) (wait : Wait) (p q : ℕ) (s : Schedule) → (q ≡ p → ⊥)
    → state_at (woken_if w wait p s).states q ≡ state_at s.states q
unwoken_state w wait p q s other = by_test (is_woken (state_at s.states p) wait) w
  where
    by_test : (b w : Bool) → state_at (cond b (cond w (with_state p Held s) (made_ready p s)) s).states q
        ≡ state_at s.states q
    by_test true true = get_or-set_other s.states p q Held Ready other
    by_test true false = get_or-set_other s.states p q Ready Ready other
    by_test false w = refl

module _ (within : ℕ → Bool) (waits : List Wait) (end : Option How) (q : ℕ) where
  -- in its turn the state comes to agree, and that stays so
  turn_agrees : (p : ℕ) (s : Schedule) → q < length s.states → q ≡ p
      → MayStandSo end (wait_at waits q) (state_at s.states q)
      → IsStateBy end (wait_at waits q) (state_at (woken_if (within p) (wait_at waits p) p s).states q)
  turn_agrees p s there same may =
      subst (λ z. IsStateBy end (wait_at waits q) (state_at (woken_if (within z) (wait_at waits z) z s).states q)) same
      (agrees_if_asked end (wait_at waits q) (state_at s.states q) _
      (is_woken (state_at s.states q) (wait_at waits q)) (within q) refl may
      (woken_state (within q) (wait_at waits q) q s there))

  still_there : (p : ℕ) (s : Schedule) → q < length s.states
      → q < length (woken_if (within p) (wait_at waits p) p s).states
  still_there p s there =
      let long = length_woken_if (within p) (wait_at waits p) p s in omega (arith, there, long)

  agrees_still : (ps : List ℕ) (s : Schedule) → q < length s.states
      → IsStateBy end (wait_at waits q) (state_at s.states q)
      → IsStateBy end (wait_at waits q) (state_at (all_woken within waits ps s).states q)
  agrees_still [] s there so = so
  agrees_still (p ∷ ps) s there so =
      agrees_still ps (woken_if (within p) (wait_at waits p) p s) (still_there p s there)
      (elim (cases_eq q p) [
        | inl same ↦ turn_agrees p s there same (inl so)
        | inr other ↦
            subst (λ x. IsStateBy end (wait_at waits q) x)
            (sym (unwoken_state (within p) (wait_at waits p) p q s other)) so
      ])

  pub agrees_then : (ps : List ℕ) (s : Schedule) → q < length s.states → Contains ps q
      → MayStandSo end (wait_at waits q) (state_at s.states q)
      → IsStateBy end (wait_at waits q) (state_at (all_woken within waits ps s).states q)
  agrees_then [] s there among may = absurd (Contains-none q among)
  agrees_then (p ∷ ps) s there among may =
      elim (cases_eq q p) [
        | inl same ↦
            agrees_still ps (woken_if (within p) (wait_at waits p) p s) (still_there p s there)
            (turn_agrees p s there same may)
        | inr other ↦
            agrees_then ps (woken_if (within p) (wait_at waits p) p s) (still_there p s there)
            (elim (Contains-cases p ps q among) [ inl same ↦ absurd (other (sym same)) | inr later ↦ later ])
            (subst (λ x. MayStandSo end (wait_at waits q) x)
            (sym (unwoken_state (within p) (wait_at waits p) p q s other)) may)
      ]

-- a wait that has ended leaves the end, and may leave a state that has still to be woken
pub stands_so : (end : Option How) (before after : Wait) (x : State) → IsStateBy end before x
    → ((after ≡ Nobody) ⊎ (after ≡ before)) → MayStandSo end after x
stands_so end before after x so (inr same) = inl (subst (λ w. IsStateBy end w x) (sym same) so)
stands_so end before after Ready so (inl none) = inl (so.0, none)
stands_so end before after Held so (inl none) = inl (so.0, none)
stands_so end before after (WaitsEmpty c) so (inl none) = inr (so.0, ap (is_woken (WaitsEmpty c)) none)
stands_so end before after (WaitsFull c) so (inl none) = inr (so.0, ap (is_woken (WaitsFull c)) none)
stands_so end before after (Ended how) so (inl none) = inl so
