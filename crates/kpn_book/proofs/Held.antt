-- Only a process that was held before a call is held after it.
use Rattle.kpn_book.proofs.Common.{◌≡◌, ℕ, ◌+◌, ◌<◌, ◌⊎◌, Bool, true, false, cond, ℤ, List, [], ◌∷◌, ◌++◌, length, set, get_or, Option, Some, None, refl, sym, ap, ◌∙◌, subst, inl, inr, arith, Contains-append_cases, option_to_list, cases_eq, ne_eqb, false≢true, length-set, get_or-set_same, get_or-set_other, Wait, Nobody, Empty, Full, End, Process, Source, Sink, Tables, larger_capacity, writer_of, reader_of, IsNetwork, wait_at, AreWaits, Writes-writer_of, Reads-reader_of, Contains-none, Stop, Advanced, How, Event, State, capacity_or_zero, is_held, wait_then, Machine, wait_in, end_in, is_wait_on_full, is_wait_on_empty, waiting_at, waiting_writer, waiting_reader, woken_at_end, Schedule, state_at, made_ready, Done, Book, held_count, standing_at, with_one_commit, IsClaimed, IsBook, IsStateBy, AppendsAll, all_made_ready, own_part, woken_by, IsGrowthOwed, Happens, IsAnswer, ready_if_paused, Feeds, Takes, takes_item, StepsNext}
use Rattle.std.specs.List.{Contains}
use Rattle.kpn_history.specs.declared.event.How.TheVariants as how
use Rattle.kpn_history.specs.declared.event.Event.TheVariants as event
use Rattle.kpn_history.specs.declared.state.State.TheVariants.{Ready, Held, WaitsEmpty, WaitsFull, Ended}
use Rattle.kpn_book.specs.declared.answers.Done.TheVariants as done
use Rattle.kpn_book.proofs.Woken.{only_one}
use Rattle.kpn_book.proofs.CommitCounts.{held_in, held_less, held_more, held_as_before}

-- ---- a process that waits is not held

not_held_by : (end : Option How) (wait : Wait) (x : State) → IsStateBy end wait x → (wait ≡ Nobody → ⊥)
    → is_held x ≡ false
not_held_by end wait Ready by some = refl
not_held_by end wait Held by some = absurd (some by.1)
not_held_by end wait (WaitsEmpty c) by some = refl
not_held_by end wait (WaitsFull c) by some = refl
not_held_by end wait (Ended how) by some = refl

-- a process that is set to a state that is not held is not held, and no other that was not becomes held
set_not_held : (xs : List State) (p q : ℕ) (y : State) → is_held y ≡ false → q < length xs
    → (q ≡ p) ⊎ (is_held (get_or xs q Ready) ≡ false) → is_held (get_or (set xs p y) q Ready) ≡ false
set_not_held xs p q y new there which =
    elim (cases_eq q p) [
      | inl same ↦ subst (λ z. is_held (get_or (set xs z y) q Ready) ≡ false) same
          (ap is_held (get_or-set_same xs q y Ready there) ∙ new)
      | inr other ↦ ap is_held (get_or-set_other xs p q y Ready other)
          ∙ elim which [ inl same ↦ absurd (other same) | inr is ↦ is ]
    ]

-- ---- a process that is woken waits

waiting_some : (kind : Wait → Bool) (waits : List Wait) (end : End) (q : ℕ) → waiting_at kind waits end ≡ Some q
    → (end ≡ Process q) × (kind (wait_at waits q) ≡ true)
waiting_some kind waits (Process r) q is = by (kind (wait_at waits r)) refl is
  where
    by : (b : Bool) → kind (wait_at waits r) ≡ b → cond b (Some r) None ≡ Some q
        → (Process r ≡ Process q) × (kind (wait_at waits q) ≡ true)
    by true e is = let same : r ≡ q = cc in (ap Process same, ap (λ x. kind (wait_at waits x)) (sym same) ∙ e)
    by false e is = absurd cc
waiting_some kind waits Source q is = absurd cc
waiting_some kind waits Sink q is = absurd cc

module _ (t : Tables) (waits : List Wait) where
  -- there, and waits for something
  abbrev Waits : ℕ → Type 0
  Waits q = (q < length t.instances) × (wait_at waits q ≡ Nobody → ⊥)

  a_writer : (c q : ℕ) → Contains (option_to_list (waiting_writer t waits c)) q → Waits q
  a_writer c q among =
      let is =
      waiting_some (is_wait_on_full c) waits (writer_of t c) q (only_one (waiting_writer t waits c) q among) in (
        (Writes-writer_of t q c is.0).process,
        λ none. false≢true (sym (ap (is_wait_on_full c) none) ∙ is.1),
      )

  a_reader : (c q : ℕ) → Contains (option_to_list (waiting_reader t waits c)) q → Waits q
  a_reader c q among =
      let is = waiting_some (is_wait_on_empty c) waits (reader_of t c) q (only_one (waiting_reader t waits c) q among)
      in (
        (Reads-reader_of t q c is.0).process,
        λ none. false≢true (sym (ap (is_wait_on_empty c) none) ∙ is.1),
      )

all_made_ready-append : (ps qs : List ℕ) (s : Schedule)
    → all_made_ready (ps ++ qs) s ≡ all_made_ready qs (all_made_ready ps s)
all_made_ready-append [] qs s = refl
all_made_ready-append (p ∷ ps) qs s = all_made_ready-append ps qs (made_ready p s)

-- if an event makes no free process wait, a process that waits after it waited before it
waited_before : (t : Tables) (e : Event) (s after : Machine) (q : ℕ)
    → (q < length t.instances → wait_in after q ≡ wait_then t e q (wait_in s q)) → wait_then t e q Nobody ≡ Nobody
    → Waits t after.waits q → Waits t s.waits q
waited_before t e s after q then none waits =
    (waits.0, λ free. waits.1 (then waits.0 ∙ ap (wait_then t e q) free ∙ none))

-- ---- the outside

module _ (before : Book) (book : IsBook before) where
  idle : (q : ℕ) → Waits before.tables before.machine.waits q
      → (q < length before.schedule.states) × (is_held (state_at before.schedule.states q) ≡ false)
  idle q waits =
      let there = waits.0 in
      let long = book.kept.in_step.processes in (
        omega arith,
        not_held_by (end_in before.machine q) (wait_in before.machine q) (state_at before.schedule.states q)
            (book.kept.in_step.states q there) waits.1,
      )

  pub held_after_feed : (c : ℕ) (item : ℤ) (bound : ℕ) (after : Book) → Feeds c item bound before after
      → held_count after ≡ held_count before
  held_after_feed c item bound after feeds =
      ap (λ s. held_in s.states) feeds.appends.schedule
      ∙ held_as_before (option_to_list (waiting_reader before.tables before.machine.waits c)) before.schedule
      (λ q among. idle q (a_reader before.tables before.machine.waits c q among))

  -- an event of the outside, and the growth that is owed then
  held_after_event : (e : Event) → own_part e before.schedule ≡ before.schedule
      → ((q : ℕ) → wait_then before.tables e q Nobody ≡ Nobody)
      → ((q : ℕ) → Contains (woken_by before.tables before.machine.waits e) q
      → Waits before.tables before.machine.waits q) → (after : Book) → Happens e before after
      → held_count after ≡ held_count before
  held_after_event e own none each after is = by is.growth is.owed is.appends
    where
      by : (growth : List Event) → IsGrowthOwed before.tables (before.history ++ e ∷ []) growth
          → AppendsAll (e ∷ growth) before after → held_count after ≡ held_count before
      by [] owed h =
          let woken = woken_by before.tables before.machine.waits e in
          ap held_count h.2 ∙ ap (λ s. held_in s.states) h.1.schedule
          ∙ ap (λ s. held_in (all_made_ready woken s).states) own
          ∙ held_as_before woken before.schedule (λ q among. idle q (each q among))
      by (event.Grow r d n ∷ []) owed h =
          let woken = woken_by before.tables before.machine.waits e in
          let middle = h.0 in
          let writer = option_to_list (waiting_writer middle.tables middle.machine.waits d) in
          ap held_count h.2.2
          ∙ ap (λ s. held_in s.states)
          (h.2.1.schedule
          ∙ ap (all_made_ready writer) (h.1.schedule ∙ ap (all_made_ready woken) own)
          ∙ sym (all_made_ready-append woken writer before.schedule))
          ∙ held_as_before (woken ++ writer) before.schedule
          (λ q among.
          elim (Contains-append_cases woken writer q among) [
            | inl first ↦ idle q (each q first)
            | inr second ↦
                idle q
                (waited_before before.tables e before.machine middle.machine q
                (λ there. h.1.machine.waits q there) (none q)
                (subst (λ t. Waits t middle.machine.waits q) h.1.tables
                (a_writer middle.tables middle.machine.waits d q second)))
          ])
      by growth owed h = absurd owed

  pub held_after_close : (c : ℕ) (after : Book) → Happens (event.Close c) before after
      → held_count after ≡ held_count before
  held_after_close c after is =
      held_after_event (event.Close c) refl (λ q. refl) (λ q among. absurd (Contains-none q among)) after is

  pub held_after_take : (c : ℕ) (item : Option ℤ) (after : Book) → Takes c item before after
      → held_count after ≡ held_count before
  held_after_take c item after takes = by item takes.takes
    where
      by : (item : Option ℤ) → takes_item c item before after → held_count after ≡ held_count before
      by None same = ap held_count same.1
      by (Some v) taken =
          held_after_event (event.Take c v) refl (λ q. refl)
          (λ q among. a_writer before.tables before.machine.waits c q among) after taken.1

-- ---- a step

module _ (before : Book) (book : IsBook before) (p : ℕ) (between : Book) (claimed : IsClaimed p before between) where
  claimed_there : p < length between.schedule.states
  claimed_there =
      let there = claimed.holds.there in
      let long = ap length claimed.holds.states in
      omega (arith, length-set before.schedule.states p Held)

  claimed_held : get_or between.schedule.states p Ready ≡ Held
  claimed_held =
      ap (λ xs. get_or xs p Ready) claimed.holds.states
      ∙ get_or-set_same before.schedule.states p Held Ready claimed.holds.there

  one_more_held : held_count between ≡ held_count before + 1
  one_more_held =
      ap held_in claimed.holds.states
      ∙ held_more before.schedule.states p claimed.holds.there (ap is_held claimed.holds.was_ready)

  -- p waits for nobody, since it was ready
  claimed_free : p < length before.tables.instances → wait_in before.machine p ≡ Nobody
  claimed_free there =
      (subst (λ x. IsStateBy (end_in before.machine p) (wait_in before.machine p) x)
      claimed.holds.was_ready (book.kept.in_step.states p there)).1

  -- a process that waits is not held, also now that p is
  abbrev NotHeld : ℕ → Type 0
  NotHeld q = (q < length between.schedule.states) × (is_held (state_at between.schedule.states q) ≡ false)

  others_before : (q : ℕ) → Waits before.tables before.machine.waits q → NotHeld q
  others_before q waits =
      let was = idle before book q waits in
      let there = was.0 in
      let long = ap length claimed.holds.states in
      elim (cases_eq q p) [
        | inl same ↦
            absurd (waits.1 (subst (λ z. wait_in before.machine z ≡ Nobody) (sym same)
            (claimed_free (subst (λ z. z < length before.tables.instances) same waits.0))))
        | inr other ↦ (
          omega (arith, length-set before.schedule.states p Held),
          ap is_held (ap (λ xs. get_or xs q Ready) claimed.holds.states
              ∙ get_or-set_other before.schedule.states p q Held Ready other)
              ∙ was.1,
        )
      ]

  others : (q : ℕ) → Waits between.tables between.machine.waits q → NotHeld q
  others q =
      subst (λ b. Waits b.tables b.machine.waits q → NotHeld q) (sym claimed.same) (others_before q)

  own_waits : AreWaits between.tables between.machine.waits
  own_waits = subst (λ b. AreWaits b.tables b.machine.waits) (sym claimed.same) book.kept.in_step.run.shape.waits

  network : IsNetwork between.tables
  network = subst (λ b. IsNetwork b.tables) (sym claimed.same) book.network

  -- p is in a state that is not held, and others that are not held are ready
  released : (y : State) → is_held y ≡ false → (woken : List ℕ)
      → ((q : ℕ) → Contains woken q → (q ≡ p) ⊎ Waits between.tables between.machine.waits q) → (s : Schedule)
      → s.states ≡ set between.schedule.states p y → held_in (all_made_ready woken s).states ≡ held_count before
  released y new woken each s is =
      let less = held_less between.schedule.states p y claimed_there claimed_held new in
      let more = one_more_held in
      let same = ap held_in is in
      let long = ap length is in
      let kept =
      held_as_before woken s
      (λ q among.
      elim (each q among) [
        | inl own ↦
            let there : q < length between.schedule.states =
            subst (λ z. z < length between.schedule.states) (sym own) claimed_there in (
              omega (arith, length-set between.schedule.states p y),
              ap (λ xs. is_held (get_or xs q Ready)) is
                  ∙ set_not_held between.schedule.states p q y new there (inl own),
            )
        | inr waits ↦
            let none = others q waits in
            let there = none.0 in (
              omega (arith, length-set between.schedule.states p y),
              ap (λ xs. is_held (get_or xs q Ready)) is
                  ∙ set_not_held between.schedule.states p q y new there (inr none.1),
            )
      ]) in
      omega arith

  module _ (a : Advanced) (after : Book) where
    abbrev stood : Book
    stood = standing_at p a.to between

    nobody : (q : ℕ) → Contains [] q → (q ≡ p) ⊎ Waits between.tables between.machine.waits q
    nobody q among = absurd (Contains-none q among)

    -- one event of p
    by_one : (e : Event) (y : State) → is_held y ≡ false
        → ((q : ℕ) → Contains (woken_by between.tables between.machine.waits e) q
        → (q ≡ p) ⊎ Waits between.tables between.machine.waits q)
        → (own_part e between.schedule).states ≡ set between.schedule.states p y → (es : List Event) → es ≡ e ∷ []
        → AppendsAll es (with_one_commit stood) after → held_count after ≡ held_count before
    by_one e y new each own es same appends =
        let h = subst (λ es. AppendsAll es (with_one_commit stood) after) same appends in
        ap held_count h.2 ∙ ap (λ s. held_in s.states) h.1.schedule
        ∙ released y new (woken_by between.tables between.machine.waits e) each (own_part e between.schedule) own

    -- an event of p and a growth
    by_two : (e : Event) (r d n : ℕ) (y : State) → is_held y ≡ false
        → ((q : ℕ) → Contains (woken_by between.tables between.machine.waits e) q
        → (q ≡ p) ⊎ Waits between.tables between.machine.waits q)
        → ((q : ℕ) → (q ≡ p → ⊥) → wait_then between.tables e q Nobody ≡ Nobody)
        → (own_part e between.schedule).states ≡ set between.schedule.states p y → (es : List Event)
        → es ≡ e ∷ event.Grow r d n ∷ [] → AppendsAll es (with_one_commit stood) after → held_count after ≡ held_count before
    by_two e r d n y new each none own es same appends =
        let h = subst (λ es. AppendsAll es (with_one_commit stood) after) same appends in
        let middle = h.0 in
        let woken = woken_by between.tables between.machine.waits e in
        let writer = option_to_list (waiting_writer middle.tables middle.machine.waits d) in
        ap held_count h.2.2
        ∙ ap (λ s. held_in s.states)
        (h.2.1.schedule ∙ ap (all_made_ready writer) h.1.schedule
        ∙ sym (all_made_ready-append woken writer (own_part e between.schedule)))
        ∙ released y new (woken ++ writer)
        (λ q among.
        elim (Contains-append_cases woken writer q among) [
          | inl first ↦ each q first
          | inr second ↦
              elim (cases_eq q p) [
                | inl own ↦ inl own
                | inr other ↦
                    inr
                    (waited_before between.tables e between.machine middle.machine q
                    (λ there. h.1.machine.waits q there) (none q other)
                    (subst (λ t. Waits t middle.machine.waits q) h.1.tables
                    (a_writer middle.tables middle.machine.waits d q second)))
              ]
        ])
        (own_part e between.schedule) own

    empty_keeps : (c q : ℕ) → (q ≡ p → ⊥) → wait_then between.tables (event.WaitEmpty p c) q Nobody ≡ Nobody
    empty_keeps c q other = ap (λ b. cond b (Empty c) Nobody) (ne_eqb p q (λ same. other (sym same)))

    full_keeps : (c q : ℕ) → (q ≡ p → ⊥) → wait_then between.tables (event.WaitFull p c) q Nobody ≡ Nobody
    full_keeps c q other = ap (λ b. cond b (Full c) Nobody) (ne_eqb p q (λ same. other (sym same)))

    end_keeps : (how : How) (q : ℕ) → (q ≡ p → ⊥) → wait_then between.tables (event.Ended p how) q Nobody ≡ Nobody
    end_keeps how q other = ap (λ b. cond b Nobody Nobody) (ne_eqb p q (λ same. other (sym same)))

    process_there : p < length between.tables.instances
    process_there =
        let there = claimed.holds.there in
        let long = book.kept.in_step.processes in
        subst (λ b. p < length b.tables.instances) (sym claimed.same) (omega arith)

    at_end : (q : ℕ)
        → Contains (woken_by between.tables between.machine.waits (event.Ended p how.Done)) q
        → (q ≡ p) ⊎ Waits between.tables between.machine.waits q
    at_end q among =
        let r = (woken_at_end between.tables network between.machine.waits own_waits p process_there q).0 among in
        inr (r.0, λ none. let clash : Nobody ≡ Full r.1.channel = sym none ∙ r.1.waits in cc)

    held_by_answer : (s : Stop) (answer : Done) (es : List Event) → IsAnswer stood p s answer es
        → AppendsAll es (ready_if_paused p answer (with_one_commit stood)) after → held_count after ≡ held_count before
    held_by_answer s (done.Got v) es got appends =
        by_one (event.Get p got.channel v) Ready refl
        (λ q among. inr (a_writer between.tables between.machine.waits got.channel q among)) refl es got.appends
        appends
    held_by_answer s done.Put es put appends =
        by_one (event.Put p put.channel put.item) Ready refl
        (λ q among. inr (a_reader between.tables between.machine.waits put.channel q among)) refl es put.appends
        appends
    held_by_answer s done.Blocked es blocked appends =
        elim blocked.waits [
          | inl empty ↦
              by_one (event.WaitEmpty p empty.channel) (WaitsEmpty empty.channel) refl nobody refl es
              (blocked.appends ∙ ap (λ e. e ∷ []) empty.is) appends
          | inr full ↦
              by_one (event.WaitFull p full.channel) (WaitsFull full.channel) refl nobody refl es
              (blocked.appends ∙ ap (λ e. e ∷ []) full.is) appends
        ]
    held_by_answer s (done.Grew d) es grew appends =
        elim grew.waits [
          | inl empty ↦
              by_two (event.WaitEmpty p empty.channel) grew.grower d (larger_capacity between.tables (capacity_or_zero
              between.tables (between.history ++ grew.wait ∷ []) d)) (WaitsEmpty empty.channel) refl nobody
              (empty_keeps empty.channel) refl es
              (grew.appends ∙ ap (λ e. e ∷ event.Grow grew.grower d (larger_capacity between.tables
              (capacity_or_zero between.tables (between.history ++ grew.wait ∷ []) d)) ∷ []) empty.is) appends
          | inr full ↦
              by_two (event.WaitFull p full.channel) grew.grower d (larger_capacity between.tables (capacity_or_zero
              between.tables (between.history ++ grew.wait ∷ []) d)) (WaitsFull full.channel) refl nobody
              (full_keeps full.channel) refl es
              (grew.appends ∙ ap (λ e. e ∷ event.Grow grew.grower d (larger_capacity between.tables
              (capacity_or_zero between.tables (between.history ++ grew.wait ∷ []) d)) ∷ []) full.is) appends
        ]
    held_by_answer s done.Ended es ended appends =
        by_growth ended.growth ended.owed ended.appends
      where
        by_growth : (growth : List Event)
            → IsGrowthOwed between.tables (between.history ++ event.Ended p ended.how ∷ []) growth
            → es ≡ event.Ended p ended.how ∷ growth → held_count after ≡ held_count before
        by_growth [] owed same =
            by_one (event.Ended p ended.how) (Ended ended.how) refl at_end refl es same appends
        by_growth (event.Grow r d n ∷ []) owed same =
            by_two (event.Ended p ended.how) r d n (Ended ended.how) refl at_end (end_keeps ended.how) refl es same
            appends
        by_growth growth owed same = absurd owed
    held_by_answer s done.Paused es paused appends =
        let h = subst (λ es. AppendsAll es (ready_if_paused p done.Paused (with_one_commit stood)) after) paused.appends appends
        in
        ap held_count h ∙ released Ready refl [] nobody (made_ready p between.schedule) refl

pub held_after_step : (quota : ℕ) (answer : Done) (before after : Book) → IsBook before
    → StepsNext quota answer before after → held_count after ≡ held_count before
held_after_step quota answer before after book steps =
    held_by_answer before book steps.process steps.between steps.steps.claimed steps.advance after steps.advance.stop
    answer steps.commits.handles.events steps.commits.handles.answers steps.commits.handles.appends
