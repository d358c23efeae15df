-- In this many rounds of the queue the run on one thread has made what another history has made.
use Rattle.kpn_book.proofs.Common.{◌≡◌, ◌≢◌, ℕ, zero, suc, ◌+◌, ◌*◌, ◌-◌, ◌<◌, ◌≤◌, ◌⊎◌, max, true, false, List, [], ◌∷◌, ◌++◌, length, refl, sym, ap, ◌∙◌, subst, inl, inr, arith, length-append, cases_Bool, cases_lt, count_by-le-length, IsPrefix, IsPrefix-refl, IsPrefix-trans, IsPrefix-after, same_from_prefix, Tables, instance_at, program_of, IsNetwork, Family, Frame, start_frame, Step, Stops, Faults, Goes, Steps, step_of, IsBetween, Steps-append, Event, State, is_of, talk_of, HasStopped, OwesNothing, IsRunFrom, HasMade, IsCaughtUp, HasGone, stopped_state, own_below, run_begun, made_later, ahead_is_made, next_is_made, others_are_made, frame_in, state_at, Book, standing_at, Limits, IsBeforeTurn, Turns}
use Rattle.kpn_step.specs.declared.stop.Stop.TheVariants as stop
use Rattle.kpn_history.specs.declared.state.State.TheVariants.{Ready, Held, WaitsEmpty, WaitsFull, Ended}
use Rattle.kpn_history.specs.Views.{is_ready, is_held, is_stopped}
use Rattle.kpn_history.proofs.Standing.{run_before}
use Rattle.kpn_book.specs.Progress.{ComesAfter, tried_at, PausesFrom, PausesAfter, HasJustHalted, PausesAtMost, TakesRounds, no_event, of_process, of_nobody}
use Rattle.kpn_book.proofs.Tallies.{not_counted}
use Rattle.kpn_book.proofs.Standing.{states_now}
use Rattle.kpn_book.proofs.Stepped.{step_history}
use Rattle.kpn_book.proofs.Progress.{pauses_before, says_one, IsOnWay, AreOnWay}
use Rattle.kpn_book.proofs.RoundOfQueue.{split, begins_ready, ready_if_some, BeginsWithOwn, own_or_pause, stepped_later, paused_frame, steps_own, stands_between, HasTurn, turn_tables, turn_prefix, turns_tables, turns_prefix, turns_on_way, comes_to_turn, apart}

-- ---- where a process is before a turn

-- a process that has not stopped is in the queue, which is no longer than there are processes
record IsQueued (b : Book) (p : ℕ) : Type 0 where
  front : List ℕ
  back : List ℕ
  queue : b.schedule.queue ≡ front ++ p ∷ back
  few : length front < length b.tables.instances

stopped_or_ready : (state : State) → is_held state ≡ false → is_stopped state ≡ false → state ≡ Ready
stopped_or_ready Ready free goes = refl
stopped_or_ready Held free goes = absurd cc
stopped_or_ready (WaitsEmpty c) free goes = absurd cc
stopped_or_ready (WaitsFull c) free goes = absurd cc
stopped_or_ready (Ended how) free goes = absurd cc

stopped_or_queued : (b : Book) → IsBeforeTurn b → (p : ℕ) → p < length b.tables.instances
    → HasStopped b.tables b.history p ⊎ IsQueued b p
stopped_or_queued b ready p there =
    elim (cases_Bool (is_stopped (state_at b.schedule.states p))) [
      | inl stops ↦
          inl
          ((stopped_state b.tables b.history p (state_at b.schedule.states p) (states_now b ready.book p there)).0 stops)
      | inr goes ↦
          let states = ready.book.kept.in_step.processes in
          let at : p < length b.schedule.states = omega (arith, states, there) in
          let is = stopped_or_ready (state_at b.schedule.states p) (nobody p at) goes in
          let among = (ready.book.schedule.ready p).1 (at, is) in
          let parts = apart b.schedule.queue p among in
          let count = ready.book.schedule.count in
          let most = count_by-le-length is_ready b.schedule.states in
          let long = ap length parts.2 ∙ length-append parts.0 (p ∷ parts.1) in
          inr (record { front = parts.0; back = parts.1; queue = parts.2; few = omega (arith, states, count, most, long) })
    ]
  where
    nobody : (q : ℕ) → q < length b.schedule.states → is_held (state_at b.schedule.states q) ≡ false
    nobody q at = not_counted is_held b.schedule.states ready.nobody_held q at

-- ---- the next event of the other history

module _ (limits : Limits) (t : Tables) (network : IsNetwork t) (given : Family) (B : List Event) (e : Event)
    (more : IsRunFrom t given (B ++ e ∷ [])) (p : ℕ) (own : is_of p e ≡ true) (there : p < length t.instances)
    (pauses : ℕ) (from : Frame) (at_most : PausesFrom t (max limits.quota 1) p from pauses) where
  abbrev quota : ℕ
  quota = max limits.quota 1

  -- if the process has said no more, it has so few steps left that it pauses at most that often
  abbrev CanPause : (left : ℕ) → Book → Type 0
  CanPause left b =
      talk_of b.history p ≡ talk_of B p
      → (steps : ℕ) × Steps (program_of t p).blocks steps from (frame_in b.machine p)
      × (at_most.steps + tried_at (step_of (program_of t p).blocks at_most.to) ≤ steps + quota * (left + 1))

  -- the process has made an event in its turn
  has_gone : (b c : Book) (n : ℕ) → b.tables ≡ t → (turn : HasTurn limits b c n (length t.instances) p)
      → BeginsWithOwn turn.turn.steps.process turn.turn.steps.advance.stop turn.turn.steps.commits.handles.events
      → HasGone t b.history c.history p
  has_gone b c n tables turn begins =
      let step = turn.turn in
      let history =
      step_history quota step.answer turn.before step.stepped step.steps
      ∙ ap (λ es. turn.before.history ++ es) begins.is in
      record {
        before = turn.before.history;
        event = begins.event;
        own = subst (λ q. is_of q begins.event ≡ true) turn.its begins.own;
        later = turns_prefix limits b turn.so_far;
        served =
            subst (λ t. IsCaughtUp t turn.before.history) (turns_tables limits b turn.so_far ∙ tables)
            turn.ready.served;
        within =
            IsPrefix-trans (turn.before.history ++ begins.event ∷ []) step.stepped.history c.history
            (subst (IsPrefix (turn.before.history ++ begins.event ∷ [])) (sym history)
            (IsPrefix-after turn.before.history (begins.event ∷ []) (begins.event ∷ begins.rest) (refl, tt)))
            (IsPrefix-trans step.stepped.history turn.after.history c.history
            (stepped_later limits.quota turn.before turn.after turn.ready step)
            (turns_prefix limits turn.after turn.rest));
      }

  -- the process has paused in its turn, and has fewer steps left
  record HasPaused (b : Book) (after : Book) : Type 0 where
    frame : (steps : ℕ) → Steps (program_of t p).blocks steps from (frame_in b.machine p)
        → Steps (program_of t p).blocks (steps + quota) from (frame_in after.machine p)
    between : IsBetween (step_of (program_of t p).blocks (frame_in after.machine p))

  has_paused : (b c : Book) (n : ℕ) → b.tables ≡ t → (turn : HasTurn limits b c n (length t.instances) p)
      → turn.turn.steps.advance.stop ≡ stop.Paused → turn.turn.steps.commits.handles.events ≡ []
      → HasPaused b turn.after
  has_paused b c n tables turn pauses none =
      let step = turn.turn in
      let a = step.steps.advance in
      let here = turns_tables limits b turn.so_far ∙ tables in
      let below : p < length turn.before.tables.instances =
      subst (λ t. p < length t.instances) (sym here) there in
      let last = paused_frame limits.quota turn.before turn.after turn.ready step p turn.its below none in
      let made : Steps (program_of t p).blocks a.steps (frame_in b.machine p) a.to =
      subst (λ f. Steps (program_of t p).blocks a.steps f a.to) turn.frame
      (subst (λ x. Steps (program_of x p).blocks a.steps (frame_in turn.before.machine p) a.to) here
      (subst (λ q. Steps (program_of turn.before.tables q).blocks a.steps (frame_in turn.before.machine q) a.to)
      turn.its (steps_own limits.quota turn.before turn.after turn.ready step))) in
      record {
        frame = λ steps so_far.
            Steps-append (program_of t p).blocks steps quota from (frame_in b.machine p)
            (frame_in turn.after.machine p) so_far
            (subst (λ k. Steps (program_of t p).blocks k (frame_in b.machine p) (frame_in turn.after.machine p))
            (step.steps.steps.within.paused pauses)
            (subst (Steps (program_of t p).blocks a.steps (frame_in b.machine p)) (sym last) made));
        between =
            subst (λ f. IsBetween (step_of (program_of t p).blocks f)) (sym last)
            (subst (λ x. IsBetween (step_of (program_of x p).blocks a.to)) here
            (subst (λ q. IsBetween (step_of (program_of turn.before.tables q).blocks a.to)) turn.its
            (stands_between limits.quota turn.before turn.after turn.ready step pauses)));
      }

  -- a pause too many
  too_many : (b after : Book) → HasPaused b after → CanPause 0 b → talk_of b.history p ≡ talk_of B p → ⊥
  too_many b after paused can same =
      let so_far = can same in
      let most =
      pauses_before (program_of t p).blocks (so_far.0 + quota) at_most.steps from (frame_in after.machine p)
      at_most.to (paused.frame so_far.0 so_far.1) at_most.stepped at_most.stops paused.between in
      let few = so_far.2 in
      omega (arith, most, few)

  can_pause_less : (left : ℕ) (b after : Book) → HasPaused b after → CanPause (suc left) b
      → talk_of b.history p ≡ talk_of B p → CanPause left after
  can_pause_less left b after paused can same _ =
      let so_far = can same in
      let few = so_far.2 in
      (so_far.0 + quota, paused.frame so_far.0 so_far.1, omega (arith, few))

  -- within a round the event is made, or the process has paused
  in_a_round : (b : Book) → b.tables ≡ t → IsBeforeTurn b → HasMade t B b.history → {n : ℕ} {c : Book}
      → Turns limits b n c → IsRunFrom t given c.history → length t.instances ≤ n
      → (talk_of b.history p ≡ talk_of B p → (turn : HasTurn limits b c n (length t.instances) p)
      → HasPaused b turn.after → HasMade t (B ++ e ∷ []) c.history)
      → HasMade t (B ++ e ∷ []) c.history
  in_a_round b tables ready h {n} {c} turns run enough on_pause =
      elim (cases_lt (length (talk_of B p)) (length (talk_of b.history p))) [
        | inl longer ↦
            made_later t network given (B ++ e ∷ []) b.history c.history later run
            (ahead_is_made t network given B e more p own b.history run_b h longer)
        | inr as_long ↦
            let same = same_from_prefix (talk_of B p) (talk_of b.history p) (h.said p there) (omega arith) in
            elim (stopped_or_queued b ready p below) [
              | inl stops ↦
                  next_is_made t network given B e more p own b.history c.history run h
                  (inr
                  (record {
                    then = b.history;
                    later = IsPrefix-refl b.history;
                    served = subst (λ t. IsCaughtUp t b.history) tables ready.served;
                    stopped = subst (λ t. HasStopped t b.history p) tables stops;
                    within = later;
                  }))
              | inr queued ↦
                  let few = queued.few in
                  let processes = ap (λ t. length t.instances) tables in
                  elim (comes_to_turn limits b p below turns queued.front queued.back queued.queue (length t.instances)
                  (omega (arith, few, processes))) [
                    | inr w ↦ let nearer = w.nearer in absurd (omega (arith, few, nearer, enough, processes))
                    | inl turn ↦ in_turn turn (sym same)
                  ]
            ]
      ]
    where
      below : p < length b.tables.instances
      below = subst (λ t. p < length t.instances) (sym tables) there

      later : IsPrefix b.history c.history
      later = turns_prefix limits b turns

      run_b : IsRunFrom t given b.history
      run_b = run_begun t network given b.history c.history later run

      in_turn : (turn : HasTurn limits b c n (length t.instances) p) → talk_of b.history p ≡ talk_of B p
          → HasMade t (B ++ e ∷ []) c.history
      in_turn turn same =
          let step = turn.turn in
          elim (own_or_pause (standing_at step.steps.process step.steps.advance.to step.steps.between)
          step.steps.process step.steps.advance.stop step.answer step.steps.commits.handles.events
          step.steps.commits.handles.answers) [
            | inl begins ↦
                next_is_made t network given B e more p own b.history c.history run h
                (inl (has_gone b c n tables turn begins))
            | inr pause ↦ on_pause same turn (has_paused b c n tables turn pause.0 pause.1)
          ]

  pub made_in_rounds : (left : ℕ) (b : Book) → b.tables ≡ t → IsBeforeTurn b → HasMade t B b.history
      → CanPause left b → {n : ℕ} {c : Book} → Turns limits b n c → IsRunFrom t given c.history
      → (left + 1) * length t.instances ≤ n → HasMade t (B ++ e ∷ []) c.history
  made_in_rounds zero b tables ready h can turns run enough =
      in_a_round b tables ready h turns run (omega (arith, enough))
      (λ same turn paused. absurd (too_many b turn.after paused can same))
  made_in_rounds (suc left) b tables ready h can {n} {c} turns run enough =
      in_a_round b tables ready h turns run (omega (arith, enough))
      (λ same turn paused.
      let soon = turn.soon in
      let all = turn.all in
      let rest : (left + 1) * length t.instances ≤ turn.left = omega (arith, enough, soon, all) in
      let later = turns_prefix limits turn.after turn.rest in
      let earlier = turn_prefix limits.quota turn.before turn.after turn.ready turn.turn in
      let run_after = run_begun t network given turn.after.history c.history later run in
      made_in_rounds left turn.after
      (turn_tables limits.quota turn.before turn.after turn.ready turn.turn ∙ turns_tables limits b turn.so_far
      ∙ tables)
      (ready_if_some limits turn.after turn.rest (omega (arith, rest, there)))
      (made_later t network given B b.history turn.after.history
      (IsPrefix-trans b.history turn.before.history turn.after.history (turns_prefix limits b turn.so_far) earlier)
      run_after h)
      (can_pause_less left b turn.after paused can same) turn.rest run rest)

-- ---- all events

module _ (limits : Limits) (first : Book) (begins : AreOnWay first) (network : IsNetwork first.tables)
    (given : Family) where
  abbrev t : Tables
  t = first.tables

  -- a process that has said no more is on its way to its stop
  on_way : (b : Book) {n : ℕ} → Turns limits first n b → (p : ℕ) → p < length t.instances
      → IsOnWay t p b.history (frame_in b.machine p)
  on_way b turns p there =
      let tables = turns_tables limits first turns in
      subst (λ t. IsOnWay t p b.history (frame_in b.machine p)) tables
      (turns_on_way limits first begins turns p (subst (λ t. p < length t.instances) (sym tables) there))

  can_pause : (b : Book) {n : ℕ} → Turns limits first n b → (p : ℕ) → p < length t.instances → (B : List Event)
      → (pauses : ℕ) (at_most : PausesAfter t (max limits.quota 1) p (talk_of B p) pauses)
      → talk_of b.history p ≡ talk_of B p
      → (steps : ℕ) × Steps (program_of t p).blocks steps at_most.from (frame_in b.machine p)
      × (at_most.on.steps + tried_at (step_of (program_of t p).blocks at_most.on.to)
      ≤ steps + max limits.quota 1 * (pauses + 1))
  can_pause b turns p there B pauses at_most same =
      let way = on_way b turns p there in
      let one : way.from ≡ at_most.from =
      says_one t p (talk_of B p) (start_frame (program_of t p) (instance_at t p).pars) way.from at_most.from
      (subst (λ talk. ComesAfter t p talk way.from) same way.after) at_most.after in
      let few = at_most.on.few in (
        way.steps,
        subst (λ f. Steps (program_of t p).blocks way.steps f (frame_in b.machine p)) one way.stepped,
        omega (arith, few),
      )

  -- one that has made the wait is at its stop
  at_stop : (f : Frame) (p : ℕ) → ((next : Frame) → step_of (program_of t p).blocks f ≢ Goes next)
      → PausesFrom t (max limits.quota 1) p f 0
  at_stop f p stops = record { to = f; steps = 0; stepped = refl; stops = stops; few = at_most_one (step_of (program_of t p).blocks f) }
    where
      at_most_one : (s : Step) → 0 + tried_at s ≤ max limits.quota 1 * (0 + 1)
      at_most_one (Stops x) = omega arith
      at_most_one (Faults x) = omega arith
      at_most_one (Goes x) = omega arith

  -- the rounds that the next event takes
  module _ (B : List Event) (e : Event) (run : IsRunFrom t given (B ++ e ∷ [])) (p : ℕ) (own : is_of p e ≡ true)
      (mid : Book) {i : ℕ} (to_mid : Turns limits first i mid) (ready : IsBeforeTurn mid)
      (so_far : HasMade t B mid.history) {j : ℕ} {b : Book} (turns : Turns limits mid j b)
      (run_b : IsRunFrom t given b.history) where
    there : p < length t.instances
    there = own_below t p B e run.legal own

    after_pauses : (pauses : ℕ) → PausesAfter t (max limits.quota 1) p (talk_of B p) pauses
        → (pauses + 1) * length t.instances ≤ j → HasMade t (B ++ e ∷ []) b.history
    after_pauses pauses at_most enough =
        made_in_rounds limits t network given B e run p own there pauses at_most.from at_most.on pauses mid
        (turns_tables limits first to_mid) ready so_far (can_pause mid to_mid p there B pauses at_most) turns run_b
        enough

    after_halt : HasJustHalted B p → length t.instances ≤ j → HasMade t (B ++ e ∷ []) b.history
    after_halt halted enough =
        elim (so_far.halted p halted.event there halted.last halted.halts) [
          | inl longer ↦
              made_later t network given (B ++ e ∷ []) mid.history b.history (turns_prefix limits mid turns) run_b
              (ahead_is_made t network given B e run p own mid.history
              (run_begun t network given mid.history b.history (turns_prefix limits mid turns) run_b) so_far longer)
          | inr same ↦
              let f = frame_in mid.machine p in
              let stops = (on_way mid to_mid p there).halts halted.event same halted.halts in
              let at = at_stop f p stops in
              let few = at.few in
              made_in_rounds limits t network given B e run p own there 0 f at 0 mid
              (turns_tables limits first to_mid) ready so_far (λ _. (0, refl, omega (arith, few))) turns run_b
              (omega (arith, enough))
        ]

    next_event : (pauses : ℕ) → PausesAtMost t (max limits.quota 1) B p pauses
        → (pauses + 1) * length t.instances ≤ j → HasMade t (B ++ e ∷ []) b.history
    next_event pauses (inl at_most) enough = after_pauses pauses at_most enough
    next_event pauses (inr halted) enough = after_halt halted (omega (arith, enough))

  pub made_in_time : {H : List Event} {rounds : ℕ} → TakesRounds t (max limits.quota 1) H rounds
      → IsRunFrom t given H → {n : ℕ} {b : Book} → Turns limits first n b → IsBeforeTurn b
      → IsRunFrom t given b.history → rounds * length t.instances ≤ n → HasMade t H b.history
  made_in_time no_event run turns ready run_b enough =
      record {
        said = λ p there. tt;
        halted = λ p e there last halts. absurd cc;
        grown = λ c. omega arith;
      }
  made_in_time (of_nobody B e takes no_process) run {n} {b} turns ready run_b enough =
      let earlier = run_before t network given B e run in
      let tables = turns_tables limits first turns in
      others_are_made t network given B b.history earlier run_b
      (subst (λ t. IsCaughtUp t b.history) tables ready.served)
      (subst (λ t. OwesNothing t b.history) tables ready.book.kept.nothing_owed)
      (made_in_time takes earlier turns ready run_b enough) e run.legal no_process
  made_in_time (of_process {rounds} B e p pauses takes own at_most) run {n} {b} turns ready run_b enough =
      let few : (pauses + 1) * length t.instances ≤ n = omega (arith, enough) in
      let s = split limits first (n - (pauses + 1) * length t.instances) ((pauses + 1) * length t.instances) turns
      (omega (arith, few)) in
      let is_before = s.is_before in
      let is_after = s.is_after in
      let ready_mid = begins_ready limits s.mid s.from_mid ready in
      let run_mid = run_begun t network given s.mid.history b.history (turns_prefix limits s.mid s.from_mid) run_b in
      let so_far = made_in_time takes (run_before t network given B e run) s.to_mid ready_mid run_mid
      (omega (arith, is_before, enough)) in
      next_event B e run p own s.mid s.to_mid ready_mid so_far s.from_mid run_b pauses at_most
      (omega (arith, is_after))
