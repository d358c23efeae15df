-- One round of the queue: a process at some place of the queue has its turn once those before it have had theirs.
-- Until then it stays where it is in its program.
use Rattle.std.specs.Prelude.{Contains}
use Rattle.std.proofs.Common.{◌≡◌, ◌≢◌, nat_eq, ℕ, zero, suc, ◌+◌, ◌<◌, ◌⊎◌, max, true, eq-eqb, List, [], ◌∷◌, ◌++◌, length, None, refl, sym, ap, ◌∙◌, subst, inl, inr, arith, append_assoc}
use Rattle.kpn_book.proofs.Common.{cases_eq, both_ways, false_from_ne_true, get_or-set_same, get_or-set_other, IsPrefix, IsPrefix-refl, IsPrefix-trans, IsPrefix-append, program_of, Contains-none, Contains-cases, Stop, Frame, Statement, Goes, Steps, step_of, IsBetween, StandsAt, stop_at, Steps-append, Event, How, growth_after, is_of, is_of_process, one_process, stop_of, frame_in, no_frame, Done, Book, standing_at, with_one_commit, AppendsAll, AllHappen, IsAnswer, ready_if_paused, HasToWait, Limits, IsOutcome}
use Rattle.kpn_step.specs.declared.stop.Stop.TheVariants as stop
use Rattle.kpn_history.specs.declared.event.Event.TheVariants as event
use Rattle.kpn_history.specs.declared.event.How.TheVariants as how
use Rattle.kpn_history.proofs.AfterEvent.{of_process}
use Rattle.kpn_book.specs.declared.answers.Done.TheVariants as done
use Rattle.kpn_book.specs.RunHere.{takes_from_sinks, IsTurn, IsBeforeTurn, Turns, no_turn, one_turn_more}
use Rattle.kpn_book.proofs.Appended.{base_tables, base_history}
use Rattle.kpn_book.proofs.Happening.{happens_tables, happens_prefix}
use Rattle.kpn_book.proofs.Stepped.{step_tables, step_history}
use Rattle.kpn_book.proofs.Settling.{AreOfOthers, frames_stay, commit_elsewhere}
use Rattle.kpn_book.proofs.Progress.{IsOnWay, AreOnWay, on_way_appended, AreOfNobody, all_on_way, growth_of_nobody, happening_on_way, takes_of_nobody, GrowsBy, grows-refl, grows-trans, appended_grows, happening_grows}

-- ---- turns in a row

-- this many turns, and then the rest
pub record Split (limits : Limits) (first last : Book) (i j : ℕ) : Type 0 where
  pub mid : Book
  pub before : ℕ
  pub is_before : before ≡ i
  pub to_mid : Turns limits first before mid
  pub after : ℕ
  pub is_after : after ≡ j
  pub from_mid : Turns limits mid after last

pub split : (limits : Limits) (first : Book) (i j : ℕ) {n : ℕ} {last : Book} → Turns limits first n last → n ≡ i + j
    → Split limits first last i j
split limits first i zero {n} {last} turns is = record {
  mid = last;
  before = n;
  is_before = omega (arith, is);
  to_mid = turns;
  after = 0;
  is_after = refl;
  from_mid = no_turn;
}
split limits first i (suc j) no_turn is = absurd (omega (arith, is))
split limits first i (suc j) (one_turn_more before after so_far ready goes_on turn) is =
    let s = split limits first i j so_far (omega (arith, is)) in
    record {
      mid = s.mid;
      before = s.before;
      is_before = s.is_before;
      to_mid = s.to_mid;
      after = s.after + 1;
      is_after = (let same = s.is_after in omega arith);
      from_mid = one_turn_more before after s.from_mid ready goes_on turn;
    }

-- a book from which turns lead to one before a turn is before a turn
pub begins_ready : (limits : Limits) (first : Book) {n : ℕ} {last : Book} → Turns limits first n last
    → IsBeforeTurn last → IsBeforeTurn first
begins_ready limits first no_turn is = is
begins_ready limits first (one_turn_more before after so_far ready goes_on turn) is =
    begins_ready limits first so_far ready

-- and so is one from which a turn was made
pub ready_if_some : (limits : Limits) (first : Book) {n : ℕ} {last : Book} → Turns limits first n last → 0 < n
    → IsBeforeTurn first
ready_if_some limits first no_turn some = absurd (omega (arith, some))
ready_if_some limits first (one_turn_more before after so_far ready goes_on turn) some =
    begins_ready limits first so_far ready

-- ---- what happens in a turn

pub all_tables : (es : List Event) (before after : Book) → AllHappen es before after → after.tables ≡ before.tables
all_tables [] before after is = ap (λ b. b.tables) is
all_tables (e ∷ es) before after is = all_tables es is.0 after is.2 ∙ happens_tables e before is.0 is.1

all_prefix : (es : List Event) (before after : Book) → AllHappen es before after
    → IsPrefix before.history after.history
all_prefix [] before after is =
    subst (λ b. IsPrefix before.history b.history) (sym is) (IsPrefix-refl before.history)
all_prefix (e ∷ es) before after is =
    IsPrefix-trans before.history is.0.history after.history (happens_prefix e before is.0 is.1)
    (all_prefix es is.0 after is.2)

-- events of no process leave each frame as it is
module _ (p : ℕ) where
  of_others : (es : List Event) → AreOfNobody es → AreOfOthers p es
  of_others [] none = tt
  of_others (e ∷ es) none = (
    false_from_ne_true (is_of p e) (λ its. both_ways (is_of_process e) none.0 ((of_process e).1 (p, its))),
    of_others es none.1,
  )

  happening_frames : (es : List Event) → AreOfNobody es → (before after : Book) → AllHappen es before after
      → p < length before.tables.instances → frame_in after.machine p ≡ frame_in before.machine p
  happening_frames [] none before after is there = ap (λ b. frame_in b.machine p) is
  happening_frames (e ∷ es) none before after is there =
      happening_frames es none.1 is.0 after is.2
      (subst (λ t. p < length t.instances) (sym (happens_tables e before is.0 is.1)) there)
      ∙ frames_stay p (e ∷ is.1.growth) before is.0 is.1.appends
      (of_others (e ∷ is.1.growth)
      (none.0, growth_of_nobody before.tables (before.history ++ e ∷ []) is.1.growth is.1.owed)) there

-- the events of an answer that is no pause begin with one of the process, and the others are growths
pub record BeginsWithOwn (p : ℕ) (s : Stop) (events : List Event) : Type 0 where
  pub event : Event
  pub own : is_of p event ≡ true
  pub rest : List Event
  pub is : events ≡ event ∷ rest
  pub others : AreOfNobody rest
  pub stops : s ≢ stop.Paused

wait_own : (b : Book) (p : ℕ) (s : Stop) (wait : Event) → HasToWait b p s wait → is_of p wait ≡ true
wait_own b p s wait (inl empty) = ap (is_of p) empty.is ∙ eq-eqb p p refl
wait_own b p s wait (inr full) = ap (is_of p) full.is ∙ eq-eqb p p refl

wait_stops : (b : Book) (p : ℕ) (s : Stop) (wait : Event) → HasToWait b p s wait → s ≢ stop.Paused
wait_stops b p s wait (inl empty) pauses = let both = sym empty.asks.asks ∙ pauses in absurd cc
wait_stops b p s wait (inr full) pauses = let both = sym full.asks.asks ∙ pauses in absurd cc

end_stops : (how : How) → stop_of how ≢ stop.Paused
end_stops how.Done pauses = absurd cc
end_stops how.Overflow pauses = absurd cc
end_stops how.ZeroDivisor pauses = absurd cc
end_stops how.Index pauses = absurd cc
end_stops how.Shift pauses = absurd cc

pub own_or_pause : (b : Book) (p : ℕ) (s : Stop) (answer : Done) (events : List Event) → IsAnswer b p s answer events
    → BeginsWithOwn p s events ⊎ ((s ≡ stop.Paused) × (events ≡ []))
own_or_pause b p s (done.Got v) events got =
    inl
    (record {
      event = event.Get p got.channel v;
      own = eq-eqb p p refl;
      rest = [];
      is = got.appends;
      others = tt;
      stops = λ pauses. let both = sym got.asks.asks ∙ pauses in absurd cc;
    })
own_or_pause b p s done.Put events put =
    inl
    (record {
      event = event.Put p put.channel put.item;
      own = eq-eqb p p refl;
      rest = [];
      is = put.appends;
      others = tt;
      stops = λ pauses. let both = sym put.asks.asks ∙ pauses in absurd cc;
    })
own_or_pause b p s done.Blocked events blocked =
    inl
    (record {
      event = blocked.wait;
      own = wait_own b p s blocked.wait blocked.waits;
      rest = [];
      is = blocked.appends;
      others = tt;
      stops = wait_stops b p s blocked.wait blocked.waits;
    })
own_or_pause b p s (done.Grew d) events grew =
    inl
    (record {
      event = grew.wait;
      own = wait_own b p s grew.wait grew.waits;
      rest = growth_after b.tables (b.history ++ grew.wait ∷ []) grew.grower d ∷ [];
      is = grew.appends;
      others = (refl, tt);
      stops = wait_stops b p s grew.wait grew.waits;
    })
own_or_pause b p s done.Ended events ended =
    inl
    (record {
      event = event.Ended p ended.how;
      own = eq-eqb p p refl;
      rest = ended.growth;
      is = ended.appends;
      others =
          growth_of_nobody b.tables (b.history ++ event.Ended p ended.how ∷ []) ended.growth ended.owed;
      stops = λ pauses. end_stops ended.how (sym ended.asks ∙ pauses);
    })
own_or_pause b p s done.Paused events paused = inr (paused.asks, paused.appends)

-- ---- a turn

-- from a stop no step leads on
stays_at_stop : (blocks : List (List Statement)) (n : ℕ) (f g : Frame) → Steps blocks n f g
    → ((next : Frame) → step_of blocks f ≢ Goes next) → (next : Frame) → step_of blocks g ≢ Goes next
stays_at_stop blocks zero f g made stops next goes = stops next (ap (step_of blocks) (sym made) ∙ goes)
stays_at_stop blocks (suc n) f g made stops next goes = stops made.0 made.1

base_machine : (answer : Done) (p : ℕ) (b : Book) → (ready_if_paused p answer b).machine ≡ b.machine
base_machine done.Paused p b = refl
base_machine other p b = refl

base_queue : (answer : Done) (p : ℕ) (b : Book) → GrowsBy b.schedule.queue (ready_if_paused p answer b).schedule.queue
base_queue done.Paused p b = record { more = p ∷ []; is = refl }
base_queue other p b = grows-refl b.schedule.queue

module _ (quota : ℕ) (before after : Book) (ready : IsBeforeTurn before) (turn : IsTurn quota before after) where
  abbrev pub q : ℕ
  q = turn.steps.process

  pub turn_tables : after.tables ≡ before.tables
  turn_tables =
      all_tables (takes_from_sinks turn.stepped.tables turn.stepped.history) turn.stepped after turn.takes
      ∙ step_tables (max quota 1) turn.answer before turn.stepped turn.steps

  pub stepped_later : IsPrefix turn.stepped.history after.history
  stepped_later =
      all_prefix (takes_from_sinks turn.stepped.tables turn.stepped.history) turn.stepped after turn.takes

  pub turn_prefix : IsPrefix before.history after.history
  turn_prefix =
      IsPrefix-trans before.history turn.stepped.history after.history
      (subst (IsPrefix before.history) (sym (step_history (max quota 1) turn.answer before turn.stepped turn.steps))
      (IsPrefix-append before.history turn.steps.commits.handles.events))
      stepped_later

  -- the book in which the process stands at the end of its steps, and then as it is ready again if it has paused
  abbrev stood : Book
  stood = with_one_commit (standing_at q turn.steps.advance.to turn.steps.between)

  abbrev base : Book
  base = ready_if_paused q turn.answer stood

  between_machine : turn.steps.between.machine ≡ before.machine
  between_machine = ap (λ b. b.machine) turn.steps.steps.claimed.same

  between_tables : turn.steps.between.tables ≡ before.tables
  between_tables = ap (λ b. b.tables) turn.steps.steps.claimed.same

  between_history : turn.steps.between.history ≡ before.history
  between_history = ap (λ b. b.history) turn.steps.steps.claimed.same

  tables_there : base.tables ≡ before.tables
  tables_there = base_tables turn.answer q stood ∙ between_tables

  history_there : base.history ≡ before.history
  history_there = base_history turn.answer q stood ∙ between_history

  -- another process stays where it is, and this one is at the end of its steps
  frame_other : (p : ℕ) → (q ≡ p → ⊥) → frame_in base.machine p ≡ frame_in before.machine p
  frame_other p other =
      ap (λ m. frame_in m p) (base_machine turn.answer q stood)
      ∙ get_or-set_other turn.steps.between.machine.frames q p turn.steps.advance.to no_frame (λ same. other (sym same))
      ∙ ap (λ m. frame_in m p) between_machine

  frame_own : frame_in base.machine q ≡ turn.steps.advance.to
  frame_own =
      let there = turn.steps.steps.claimed.holds.there in
      let states = ready.book.kept.in_step.processes in
      let frames = ready.book.kept.in_step.run.shape.frames in
      let machine = ap (λ m. length m.frames) between_machine in
      ap (λ m. frame_in m q) (base_machine turn.answer q stood)
      ∙ get_or-set_same turn.steps.between.machine.frames q turn.steps.advance.to no_frame
      (omega (arith, there, states, frames, machine))

  pub steps_own : Steps (program_of before.tables q).blocks turn.steps.advance.steps (frame_in before.machine q)
      turn.steps.advance.to
  steps_own =
      let a = turn.steps.advance in
      subst (λ f. Steps (program_of before.tables q).blocks a.steps f a.to)
      (turn.steps.steps.own.from ∙ ap (λ m. frame_in m q) between_machine)
      (subst (λ program. Steps program.blocks a.steps a.from a.to)
      (turn.steps.steps.own.program ∙ ap (λ t. program_of t q) between_tables) turn.steps.steps.advance.stepped)

  -- if it has paused, it is at no stop
  pub stands_between : turn.steps.advance.stop ≡ stop.Paused
      → IsBetween (step_of (program_of before.tables q).blocks turn.steps.advance.to)
  stands_between pauses =
      let a = turn.steps.advance in
      subst (λ program. IsBetween (step_of program.blocks a.to))
      (turn.steps.steps.own.program ∙ ap (λ t. program_of t q) between_tables)
      (subst (StandsAt a.program.blocks a.to) pauses turn.steps.steps.advance.stands)

  -- where it stands, no step comes, if it has not paused
  pub no_step : turn.steps.advance.stop ≢ stop.Paused → (next : Frame)
      → step_of (program_of before.tables q).blocks turn.steps.advance.to ≢ Goes next
  no_step stops next goes =
      let a = turn.steps.advance in
      let own = turn.steps.steps.own.program ∙ ap (λ t. program_of t q) between_tables in
      let there : step_of a.program.blocks a.to ≡ Goes next =
      subst (λ program. step_of program.blocks a.to ≡ Goes next) (sym own) goes in
      stops (turn.steps.steps.within.stop ∙ ap (λ s. stop_at s (nat_eq a.steps (max quota 1))) there)

  -- each process is on its way after the turn, if it was before
  base_on_way : AreOnWay before → AreOnWay base
  base_on_way so_far p there =
      let below = subst (λ t. p < length t.instances) tables_there there in
      subst (λ t. IsOnWay t p base.history (frame_in base.machine p)) (sym tables_there)
      (subst (λ H. IsOnWay before.tables p H (frame_in base.machine p)) (sym history_there)
      (elim (cases_eq q p) [
        | inr other ↦
            subst (IsOnWay before.tables p before.history) (sym (frame_other p other)) (so_far p below)
        | inl same ↦ moved p same (so_far p below)
      ]))
    where
      moved : (p : ℕ) → q ≡ p → IsOnWay before.tables p before.history (frame_in before.machine p)
          → IsOnWay before.tables p before.history (frame_in base.machine p)
      moved p same way =
          let a = turn.steps.advance in
          let made : Steps (program_of before.tables p).blocks a.steps (frame_in before.machine p)
          (frame_in base.machine p) =
          subst (λ x. Steps (program_of before.tables x).blocks a.steps (frame_in before.machine x)
          (frame_in base.machine x)) same
          (subst (Steps (program_of before.tables q).blocks a.steps (frame_in before.machine q)) (sym frame_own)
          steps_own) in
          record {
            from = way.from;
            after = way.after;
            steps = way.steps + a.steps;
            stepped =
                Steps-append (program_of before.tables p).blocks way.steps a.steps way.from
                (frame_in before.machine p) (frame_in base.machine p) way.stepped made;
            halts = λ e last halt.
                stays_at_stop (program_of before.tables p).blocks a.steps (frame_in before.machine p)
                (frame_in base.machine p) made (way.halts e last halt);
          }

  events_on_way : (events : List Event) → AppendsAll events base turn.stepped
      → BeginsWithOwn q turn.steps.advance.stop events ⊎ ((turn.steps.advance.stop ≡ stop.Paused) × (events ≡ []))
      → AreOnWay base → AreOnWay turn.stepped
  events_on_way events appends (inr paused) so_far =
      subst AreOnWay (sym (subst (λ es. AppendsAll es base turn.stepped) paused.1 appends)) so_far
  events_on_way events appends (inl begins) so_far =
      let all = subst (λ es. AppendsAll es base turn.stepped) begins.is appends in
      all_on_way begins.rest begins.others all.0 turn.stepped all.2
      (on_way_appended begins.event base all.0
      (λ p own halt.
      subst (λ x. (next : Frame) → step_of (program_of base.tables x).blocks (frame_in base.machine x) ≢ Goes next)
      (one_process q p begins.event begins.own own)
      (subst (λ t. (next : Frame) → step_of (program_of t q).blocks (frame_in base.machine q) ≢ Goes next)
      (sym tables_there)
      (subst (λ f. (next : Frame) → step_of (program_of before.tables q).blocks f ≢ Goes next) (sym frame_own)
      (no_step begins.stops))))
      all.1 so_far)

  pub turn_on_way : AreOnWay before → AreOnWay after
  turn_on_way so_far =
      let handles = turn.steps.commits.handles in
      happening_on_way (takes_from_sinks turn.stepped.tables turn.stepped.history)
      (takes_of_nobody turn.stepped.tables turn.stepped.history) turn.stepped after turn.takes
      (events_on_way handles.events handles.appends
      (own_or_pause (standing_at q turn.steps.advance.to turn.steps.between) q turn.steps.advance.stop turn.answer
      handles.events handles.answers)
      (base_on_way so_far))

  -- the queue without its first process, with more at its tail
  pub turn_queue : GrowsBy turn.steps.between.schedule.queue after.schedule.queue
  turn_queue =
      grows-trans turn.steps.between.schedule.queue base.schedule.queue after.schedule.queue
      (base_queue turn.answer q stood)
      (grows-trans base.schedule.queue turn.stepped.schedule.queue after.schedule.queue
      (appended_grows turn.steps.commits.handles.events base turn.stepped turn.steps.commits.handles.appends)
      (happening_grows (takes_from_sinks turn.stepped.tables turn.stepped.history) turn.stepped after turn.takes))

  taken_frames : (p : ℕ) → p < length before.tables.instances
      → frame_in after.machine p ≡ frame_in turn.stepped.machine p
  taken_frames p there =
      happening_frames p (takes_from_sinks turn.stepped.tables turn.stepped.history)
      (takes_of_nobody turn.stepped.tables turn.stepped.history) turn.stepped after turn.takes
      (subst (λ t. p < length t.instances)
      (sym (step_tables (max quota 1) turn.answer before turn.stepped turn.steps)) there)

  -- after a pause the process is at the end of its steps
  pub paused_frame : (p : ℕ) → q ≡ p → p < length before.tables.instances
      → turn.steps.commits.handles.events ≡ [] → frame_in after.machine p ≡ turn.steps.advance.to
  paused_frame p same there none =
      let stays = subst (λ es. AppendsAll es base turn.stepped) none turn.steps.commits.handles.appends in
      taken_frames p there ∙ ap (λ b. frame_in b.machine p) stays
      ∙ subst (λ x. frame_in base.machine x ≡ turn.steps.advance.to) same frame_own

  -- another process stays where it is
  pub waiting_frame : (p : ℕ) → (q ≡ p → ⊥) → p < length before.tables.instances
      → frame_in after.machine p ≡ frame_in before.machine p
  waiting_frame p other there =
      taken_frames p there
      ∙ commit_elsewhere q p (λ same. other (sym same)) turn.answer turn.steps.advance.stop
      (standing_at q turn.steps.advance.to turn.steps.between) turn.stepped
      (subst (λ t. p < length t.instances) (sym between_tables) there) turn.steps.commits.handles
      ∙ get_or-set_other turn.steps.between.machine.frames q p turn.steps.advance.to no_frame (λ same. other (sym same))
      ∙ ap (λ m. frame_in m p) between_machine

-- ---- the queue

-- process p has its turn in these turns, before `most` are made, and has not moved before it
pub record HasTurn (limits : Limits) (a b : Book) (turns most p : ℕ) : Type 0 where
  pub before : Book
  pub after : Book
  pub made : ℕ
  pub soon : made < most
  pub so_far : Turns limits a made before
  pub ready : IsBeforeTurn before
  pub goes_on : IsOutcome before.tables before.history before.commits limits None
  pub turn : IsTurn limits.quota before after
  pub its : turn.steps.process ≡ p
  pub frame : frame_in before.machine p ≡ frame_in a.machine p
  pub left : ℕ
  pub rest : Turns limits after left b
  pub all : made + 1 + left ≡ turns

-- process p still waits for its turn, and fewer are before it
pub record WaitsForTurn (a b : Book) (turns p place : ℕ) : Type 0 where
  pub front : List ℕ
  pub back : List ℕ
  pub queue : b.schedule.queue ≡ front ++ p ∷ back
  pub nearer : length front + turns ≡ place
  pub frame : frame_in b.machine p ≡ frame_in a.machine p

pub turns_tables : (limits : Limits) (first : Book) {n : ℕ} {last : Book} → Turns limits first n last
    → last.tables ≡ first.tables
turns_tables limits first no_turn = refl
turns_tables limits first (one_turn_more before after so_far ready goes_on turn) =
    turn_tables limits.quota before after ready turn ∙ turns_tables limits first so_far

pub turns_prefix : (limits : Limits) (first : Book) {n : ℕ} {last : Book} → Turns limits first n last
    → IsPrefix first.history last.history
turns_prefix limits first no_turn = IsPrefix-refl first.history
turns_prefix limits first (one_turn_more before after so_far ready goes_on turn) =
    IsPrefix-trans first.history before.history after.history (turns_prefix limits first so_far)
    (turn_prefix limits.quota before after ready turn)

pub turns_on_way : (limits : Limits) (first : Book) → AreOnWay first → {n : ℕ} {last : Book}
    → Turns limits first n last → AreOnWay last
turns_on_way limits first begins no_turn = begins
turns_on_way limits first begins (one_turn_more before after so_far ready goes_on turn) =
    turn_on_way limits.quota before after ready turn (turns_on_way limits first begins so_far)

same_head : (x y : ℕ) (xs ys : List ℕ) → x ∷ xs ≡ y ∷ ys → x ≡ y
same_head x y xs ys is = cc

same_tail : (x y : ℕ) (xs ys : List ℕ) → x ∷ xs ≡ y ∷ ys → xs ≡ ys
same_tail x y xs ys is = cc

module _ (limits : Limits) (a : Book) (p : ℕ) (there : p < length a.tables.instances) where
  -- one turn more of another process
  nearer : (before after : Book) (n place : ℕ) → IsBeforeTurn before → (turn : IsTurn limits.quota before after)
      → before.tables ≡ a.tables → (turn.steps.process ≡ p → ⊥) → WaitsForTurn a before n p place
      → WaitsForTurn a after (n + 1) p place
  nearer before after n place ready turn tables other w = by_front w.front w.queue w.nearer
    where
      grows : GrowsBy turn.steps.between.schedule.queue after.schedule.queue
      grows = turn_queue limits.quota before after ready turn

      head : before.schedule.queue ≡ turn.steps.process ∷ turn.steps.between.schedule.queue
      head = turn.steps.steps.claimed.holds.queue

      by_front : (front : List ℕ) → before.schedule.queue ≡ front ++ p ∷ w.back → length front + n ≡ place
          → WaitsForTurn a after (n + 1) p place
      by_front [] queue long =
          absurd (other (same_head turn.steps.process p turn.steps.between.schedule.queue w.back (sym head ∙ queue)))
      by_front (x ∷ front) queue long =
          let rest =
          same_tail turn.steps.process x turn.steps.between.schedule.queue (front ++ p ∷ w.back) (sym head ∙ queue) in
          record {
            front = front;
            back = w.back ++ grows.more;
            queue =
                grows.is ∙ ap (λ l. l ++ grows.more) rest ∙ append_assoc front (p ∷ w.back) grows.more;
            nearer = omega (arith, long);
            frame =
                waiting_frame limits.quota before after ready turn p other
                (subst (λ t. p < length t.instances) (sym tables) there)
                ∙ w.frame;
          }

  pub comes_to_turn : {n : ℕ} {b : Book} → Turns limits a n b → (front back : List ℕ)
      → a.schedule.queue ≡ front ++ p ∷ back → (most : ℕ) → length front < most
      → HasTurn limits a b n most p ⊎ WaitsForTurn a b n p (length front)
  comes_to_turn no_turn front back queue most few =
      inr (record { front = front; back = back; queue = queue; nearer = omega arith; frame = refl })
  comes_to_turn (one_turn_more {n} before after so_far ready goes_on turn) front back queue most few =
      elim (comes_to_turn so_far front back queue most few) [
        | inl had ↦
            let all = had.all in
            inl
            (record {
              before = had.before;
              after = had.after;
              made = had.made;
              soon = had.soon;
              so_far = had.so_far;
              ready = had.ready;
              goes_on = had.goes_on;
              turn = had.turn;
              its = had.its;
              frame = had.frame;
              left = had.left + 1;
              rest = one_turn_more before after had.rest ready goes_on turn;
              all = omega arith;
            })
        | inr w ↦ elim (cases_eq turn.steps.process p) [
          | inl same ↦
              let nearer = w.nearer in
              inl
              (record {
                before = before;
                after = after;
                made = n;
                soon = omega (arith, few, nearer);
                so_far = so_far;
                ready = ready;
                goes_on = goes_on;
                turn = turn;
                its = same;
                frame = w.frame;
                left = 0;
                rest = no_turn;
                all = omega arith;
              })
          | inr other ↦
              inr
              (nearer before after n (length front) ready turn (turns_tables limits a so_far) other w)
        ]
      ]

-- a queue is what stands before a process, the process, and what stands after it
pub apart : (xs : List ℕ) (p : ℕ) → Contains xs p → (front back : List ℕ) × (xs ≡ front ++ p ∷ back)
apart [] p h = absurd (Contains-none p h)
apart (x ∷ xs) p h =
    elim (Contains-cases x xs p h) [
      | inl same ↦ ([], xs, ap (λ y. y ∷ xs) same)
      | inr later ↦ let rest = apart xs p later in (x ∷ rest.0, rest.1, ap (λ l. x ∷ l) rest.2)
    ]
