-- Turn by turn, the run on one thread makes what another history has made. The next event of that is of a process that
-- is in the queue, if it has not come: within a round the process has its turn. Then it makes its next event, or it
-- pauses on the way to it.
use Rattle.kpn_book.proofs.Common.{flat_map, cases_Bool, cases_eq, both_ways, eqb-true, ne_eqb, false≢true, Statement, Tables, channel_at, is_source, is_sink, instance_at, program_of, channel_numbers, Family, Frame, start_frame, Step, Stops, Faults, Goes, Steps, step_on, step_of, IsBetween, Event, is_of, is_of_process, said_in, talk_of, last_event, IsHalt, unread_on, Some-event, talk_of-push, last_event-own, last_event-other, frame_in, IsFrameAfter, Schedule, made_ready, Book, own_part, all_made_ready, woken_by, Appends, AppendsAll, IsGrowthOwed, AllHappen, supply_of, supplies, takes_of, takes_from_sinks, PassesStop, Says, ComesAfter, tried_at}
use Rattle.std.proofs.Common.{◌≡◌, ◌≢◌, ℕ, zero, suc, ◌+◌, ◌<◌, ◌≤◌, Bool, true, false, cond, eqb, eq-eqb, ℤ, List, [], ◌∷◌, ◌++◌, length, map, Some, refl, sym, ap, ◌∙◌, subst, inl, inr, arith, append_assoc, append-nil}
use Rattle.kpn_lang.specs.declared.talk.Said.{Said}
use Rattle.kpn_lang.specs.declared.talk.Said.TheVariants as said
use Rattle.kpn_step.specs.declared.stop.Stop.TheVariants as stop
use Rattle.kpn_history.specs.declared.event.Event.TheVariants as event

-- ---- steps of one process

module _ (blocks : List (List Statement)) where
  goes_one : (a b : Frame) (s : Step) → s ≡ Goes a → s ≡ Goes b → a ≡ b
  goes_one a b s one other = let both : Goes a ≡ Goes b = sym one ∙ other in cc

  -- a pause comes before a stop
  tried : (g h : Frame) → g ≡ h → IsBetween (step_of blocks g) → 1 ≤ tried_at (step_of blocks h)
  tried g h same between = by (step_of blocks h) (subst (λ f. IsBetween (step_of blocks f)) same between)
    where
      by : (s : Step) → IsBetween s → 1 ≤ tried_at s
      by (Stops x) is = absurd is
      by (Faults x) is = omega arith
      by (Goes x) is = omega arith

  pub pauses_before : (k n : ℕ) (f g h : Frame) → Steps blocks k f g → Steps blocks n f h
      → ((next : Frame) → step_of blocks h ≢ Goes next) → IsBetween (step_of blocks g)
      → k + 1 ≤ n + tried_at (step_of blocks h)
  pauses_before zero zero f g h made all stops between =
      let one = tried g h (made ∙ sym all) between in omega (arith, one)
  pauses_before zero (suc n) f g h made all stops between = omega arith
  pauses_before (suc k) zero f g h made all stops between =
      absurd (stops made.0 (ap (step_of blocks) all ∙ made.1))
  pauses_before (suc k) (suc n) f g h made all stops between =
      let same = goes_one made.0 all.0 (step_of blocks f) made.1 all.1 in
      let rest =
      pauses_before k n made.0 g h made.2 (subst (λ x. Steps blocks n x h) (sym same) all.2) stops between in
      omega (arith, rest)

  -- one stop comes next
  one_stop : (k n : ℕ) (f g h : Frame) → Steps blocks k f g → Steps blocks n f h
      → ((next : Frame) → step_of blocks g ≢ Goes next) → ((next : Frame) → step_of blocks h ≢ Goes next) → g ≡ h
  one_stop zero zero f g h made all here stops = made ∙ sym all
  one_stop zero (suc n) f g h made all here stops = absurd (here all.0 (ap (step_of blocks) made ∙ all.1))
  one_stop (suc k) zero f g h made all here stops = absurd (stops made.0 (ap (step_of blocks) all ∙ made.1))
  one_stop (suc k) (suc n) f g h made all here stops =
      let same = goes_one made.0 all.0 (step_of blocks f) made.1 all.1 in
      one_stop k n made.0 g h made.2 (subst (λ x. Steps blocks n x h) (sym same) all.2) here stops

-- ---- the frame after a talk

module _ (t : Tables) (p : ℕ) where
  abbrev blocks : List (List Statement)
  blocks = (program_of t p).blocks

  stops_there : (x : Said) (f g : Frame) → PassesStop t p x f g → (next : Frame) → step_of blocks f ≢ Goes next
  stops_there (said.Got c v) f g passes next goes =
      let stands : step_of blocks f ≡ Stops (stop.WantRead passes.port) =
      ap (step_on f) passes.stood.1.statement in
      let both : Stops (stop.WantRead passes.port) ≡ Goes next = sym stands ∙ goes in
      absurd cc
  stops_there (said.Put c v) f g passes next goes =
      let both : Stops (stop.WantWrite passes.port v) ≡ Goes next = sym passes.stood.step ∙ goes in absurd cc

  passes_one : (x : Said) (f g h : Frame) → PassesStop t p x f g → PassesStop t p x f h → g ≡ h
  passes_one (said.Got c v) f g h one other =
      one.passes one.port one.stood.0 one.stood.1.statement
      ∙ sym (other.passes one.port one.stood.0 one.stood.1.statement)
  passes_one (said.Put c v) f g h one other = one.passes ∙ sym other.passes

  -- one frame comes after a talk
  pub says_one : (talk : List Said) (f g h : Frame) → Says t p talk f g → Says t p talk f h → g ≡ h
  says_one [] f g h one other = one ∙ sym other
  says_one (x ∷ talk) f g h (k, a, b, steps, passes, rest) (n, d, e, also, too, more) =
      let stop : a ≡ d =
      one_stop blocks k n f a d steps also (stops_there x a b passes) (stops_there x d e too) in
      let next : b ≡ e = passes_one x a b e passes (subst (λ z. PassesStop t p x z e) (sym stop) too) in
      says_one talk b g h rest (subst (λ z. Says t p talk z h) (sym next) more)

  says_more : (talk : List Said) (x : Said) (n : ℕ) (f g stop next : Frame) → Says t p talk f g
      → Steps blocks n g stop → PassesStop t p x stop next → Says t p (talk ++ x ∷ []) f next
  says_more [] x n f g stop next says steps passes =
      (n, stop, next, subst (λ z. Steps blocks n z stop) says steps, passes, refl)
  says_more (y ∷ talk) x n f g stop next (k, a, b, made, passes, rest) steps then =
      (k, a, b, made, passes, says_more talk x n b g stop next rest steps then)

-- the frame is on the way from what the process has said in the history, and at a stop after a wait or an end
pub record IsOnWay (t : Tables) (p : ℕ) (H : List Event) (f : Frame) : Type 0 where
  pub from : Frame
  pub after : ComesAfter t p (talk_of H p) from
  pub steps : ℕ
  pub stepped : Steps (program_of t p).blocks steps from f
  pub halts : (e : Event) → last_event H p ≡ Some e → IsHalt e → (next : Frame)
      → step_of (program_of t p).blocks f ≢ Goes next

-- ---- events

module _ (t : Tables) (p : ℕ) (H : List Event) (f g : Frame) (is : IsOnWay t p H f) where
  abbrev NoStep : Frame → Type 0
  NoStep h = (next : Frame) → step_of (program_of t p).blocks h ≢ Goes next

  says_nothing : (e : Event) → said_in p e ≡ [] → (is_of p e ≡ true → NoStep f) → g ≡ f → IsOnWay t p (H ++ e ∷ []) g
  says_nothing e none stops same = record {
    from = is.from;
    after =
        subst (λ talk. ComesAfter t p talk is.from)
        (sym (talk_of-push H e p ∙ ap (λ xs. talk_of H p ++ xs) none ∙ append-nil (talk_of H p))) is.after;
    steps = is.steps;
    stepped = subst (λ z. Steps (program_of t p).blocks is.steps is.from z) (sym same) is.stepped;
    halts = λ h last halt. subst NoStep (sym same) (elim (cases_Bool (is_of p e)) [
      | inl own ↦ stops own
      | inr other ↦ is.halts h (sym (last_event-other H e p other) ∙ last) halt
    ]);
  }

  says_one_thing : (e : Event) (x : Said) → said_in p e ≡ x ∷ [] → is_of p e ≡ true → (IsHalt e → ⊥)
      → PassesStop t p x f g → IsOnWay t p (H ++ e ∷ []) g
  says_one_thing e x one own goes passes = record {
    from = g;
    after =
        subst (λ talk. ComesAfter t p talk g)
        (sym (talk_of-push H e p ∙ ap (λ xs. talk_of H p ++ xs) one))
        (says_more t p (talk_of H p) x is.steps (start_frame (program_of t p) (instance_at t p).pars) is.from f g
        is.after is.stepped passes);
    steps = 0;
    stepped = refl;
    halts = λ h last halt.
        absurd (goes (subst IsHalt (sym (Some-event e h (sym (last_event-own H e p own) ∙ last))) halt));
  }

  other_says : (q : ℕ) (x : Said) → (q ≡ p → ⊥) → cond (eqb q p) (x ∷ []) [] ≡ []
  other_says q x other = ap (λ b. cond b (x ∷ []) []) (ne_eqb q p other)

  one_says : (q : ℕ) (x : Said) → q ≡ p → cond (eqb q p) (x ∷ []) [] ≡ x ∷ []
  one_says q x same = ap (λ b. cond b (x ∷ []) []) (eq-eqb q p same)

  -- of a wait or an end of its own it is known that the frame is at a stop
  on_way_then : (e : Event) → (is_of p e ≡ true → IsHalt e → NoStep f) → IsFrameAfter t e p f g
      → IsOnWay t p (H ++ e ∷ []) g
  on_way_then (event.Get q c v) stops then =
      elim (cases_eq q p) [
        | inl same ↦
            says_one_thing (event.Get q c v) (said.Got c v) (one_says q (said.Got c v) same) (eq-eqb q p same)
            (λ halt. halt) (then.0 same)
        | inr other ↦
            says_nothing (event.Get q c v) (other_says q (said.Got c v) other)
            (λ own. absurd (other (eqb-true q p own))) (then.1 other)
      ]
  on_way_then (event.Put q c v) stops then =
      elim (cases_eq q p) [
        | inl same ↦
            says_one_thing (event.Put q c v) (said.Put c v) (one_says q (said.Put c v) same) (eq-eqb q p same)
            (λ halt. halt) (then.0 same)
        | inr other ↦
            says_nothing (event.Put q c v) (other_says q (said.Put c v) other)
            (λ own. absurd (other (eqb-true q p own))) (then.1 other)
      ]
  on_way_then (event.WaitEmpty q c) stops then =
      says_nothing (event.WaitEmpty q c) refl (λ own. stops own tt) then
  on_way_then (event.WaitFull q c) stops then =
      says_nothing (event.WaitFull q c) refl (λ own. stops own tt) then
  on_way_then (event.Ended q how) stops then = says_nothing (event.Ended q how) refl (λ own. stops own tt) then
  on_way_then e stops then = says_nothing e refl (λ own. absurd (false≢true own)) then

-- each process of the book is on its way
abbrev pub AreOnWay : Book → Type 0
AreOnWay b = (p : ℕ) → p < length b.tables.instances → IsOnWay b.tables p b.history (frame_in b.machine p)

-- if the event is a wait or an end, its process is at a stop
abbrev pub IsAtStop : Event → Book → Type 0
IsAtStop e b =
    (p : ℕ) → is_of p e ≡ true → IsHalt e → (next : Frame)
    → step_of (program_of b.tables p).blocks (frame_in b.machine p) ≢ Goes next

pub on_way_appended : (e : Event) (before after : Book) → IsAtStop e before → Appends e before after → AreOnWay before
    → AreOnWay after
on_way_appended e before after stops is so_far p there =
    let below : p < length before.tables.instances = subst (λ t. p < length t.instances) is.tables there in
    subst (λ t. IsOnWay t p after.history (frame_in after.machine p)) (sym is.tables)
    (subst (λ H. IsOnWay before.tables p H (frame_in after.machine p)) (sym is.history)
    (on_way_then before.tables p before.history (frame_in before.machine p) (frame_in after.machine p)
    (so_far p below) e (stops p) (is.machine.frames p below)))

-- no event is of a process
abbrev pub AreOfNobody : List Event → Type 0
AreOfNobody [] = Unit {0}
AreOfNobody (e ∷ es) = (is_of_process e ≡ false) × AreOfNobody es

of_a_process : (e : Event) → IsHalt e → is_of_process e ≡ true
of_a_process (event.WaitEmpty p c) halt = refl
of_a_process (event.WaitFull p c) halt = refl
of_a_process (event.Ended p how) halt = refl
of_a_process e halt = absurd halt

pub all_on_way : (es : List Event) → AreOfNobody es → (before after : Book) → AppendsAll es before after
    → AreOnWay before → AreOnWay after
all_on_way [] none before after is so_far = subst AreOnWay (sym is) so_far
all_on_way (e ∷ es) none before after is so_far =
    all_on_way es none.1 is.0 after is.2
    (on_way_appended e before is.0
    (λ p own halt. absurd (both_ways (is_of_process e) none.0 (of_a_process e halt))) is.1 so_far)

pub growth_of_nobody : (t : Tables) (H growth : List Event) → IsGrowthOwed t H growth → AreOfNobody growth
growth_of_nobody t H [] owed = tt
growth_of_nobody t H (event.Grow q d n ∷ []) owed = (refl, tt)
growth_of_nobody t H growth owed = absurd owed

pub happening_on_way : (es : List Event) → AreOfNobody es → (before after : Book) → AllHappen es before after
    → AreOnWay before → AreOnWay after
happening_on_way [] none before after is so_far = subst AreOnWay (sym is) so_far
happening_on_way (e ∷ es) none before after is so_far =
    happening_on_way es none.1 is.0 after is.2
    (all_on_way (e ∷ is.1.growth)
    (none.0, growth_of_nobody before.tables (before.history ++ e ∷ []) is.1.growth is.1.owed) before is.0
    is.1.appends so_far)

-- what the outside does

nobody_append : (es fs : List Event) → AreOfNobody es → AreOfNobody fs → AreOfNobody (es ++ fs)
nobody_append [] fs one other = other
nobody_append (e ∷ es) fs one other = (one.0, nobody_append es fs one.1 other)

nobody_map : (f : ℤ → Event) → ((v : ℤ) → is_of_process (f v) ≡ false) → (items : List ℤ) → AreOfNobody (map f items)
nobody_map f none [] = tt
nobody_map f none (v ∷ items) = (none v, nobody_map f none items)

nobody_flat : (f : ℕ → List Event) → ((c : ℕ) → AreOfNobody (f c)) → (cs : List ℕ) → AreOfNobody (flat_map f cs)
nobody_flat f none [] = tt
nobody_flat f none (c ∷ cs) = nobody_append (f c) (flat_map f cs) (none c) (nobody_flat f none cs)

pub takes_of_nobody : (t : Tables) (H : List Event) → AreOfNobody (takes_from_sinks t H)
takes_of_nobody t H =
    nobody_flat (takes_of t H) (λ c. by_sink c (is_sink (channel_at t c))) (channel_numbers t)
  where
    by_sink : (c : ℕ) (b : Bool) → AreOfNobody (cond b (map (event.Take c) (unread_on H c)) [])
    by_sink c true = nobody_map (event.Take c) (λ v. refl) (unread_on H c)
    by_sink c false = tt

pub supplies_of_nobody : (t : Tables) (given : Family) → AreOfNobody (supplies t given)
supplies_of_nobody t given =
    nobody_flat (supply_of t given) (λ c. by_source c (is_source (channel_at t c))) (channel_numbers t)
  where
    by_source : (c : ℕ) (b : Bool) → AreOfNobody (cond b (map (event.Feed c) (given c) ++ event.Close c ∷ []) [])
    by_source c true =
        nobody_append (map (event.Feed c) (given c)) (event.Close c ∷ [])
        (nobody_map (event.Feed c) (λ v. refl) (given c)) (refl, tt)
    by_source c false = tt

-- ---- what was appended to the queue

pub record GrowsBy (before after : List ℕ) : Type 0 where
  pub more : List ℕ
  pub is : after ≡ before ++ more

pub grows-refl : (xs : List ℕ) → GrowsBy xs xs
grows-refl xs = record { more = []; is = sym (append-nil xs) }

pub grows-trans : (xs ys zs : List ℕ) → GrowsBy xs ys → GrowsBy ys zs → GrowsBy xs zs
grows-trans xs ys zs one other =
    record {
      more = one.more ++ other.more;
      is = other.is ∙ ap (λ l. l ++ other.more) one.is ∙ append_assoc xs one.more other.more;
    }

own_grows : (e : Event) (s : Schedule) → GrowsBy s.queue (own_part e s).queue
own_grows (event.Get p c v) s = record { more = p ∷ []; is = refl }
own_grows (event.Put p c v) s = record { more = p ∷ []; is = refl }
own_grows (event.WaitEmpty p c) s = grows-refl s.queue
own_grows (event.WaitFull p c) s = grows-refl s.queue
own_grows (event.Ended p how) s = grows-refl s.queue
own_grows e s = grows-refl s.queue

ready_grows : (ps : List ℕ) (s : Schedule) → GrowsBy s.queue (all_made_ready ps s).queue
ready_grows [] s = grows-refl s.queue
ready_grows (p ∷ ps) s =
    grows-trans s.queue (made_ready p s).queue (all_made_ready ps (made_ready p s)).queue
    (record { more = p ∷ []; is = refl }) (ready_grows ps (made_ready p s))

pub appended_grows : (es : List Event) (before after : Book) → AppendsAll es before after
    → GrowsBy before.schedule.queue after.schedule.queue
appended_grows [] before after is =
    subst (λ b. GrowsBy before.schedule.queue b.schedule.queue) (sym is) (grows-refl before.schedule.queue)
appended_grows (e ∷ es) before after is =
    let own = own_part e before.schedule in
    let woken = woken_by before.tables before.machine.waits e in
    grows-trans before.schedule.queue is.0.schedule.queue after.schedule.queue
    (subst (λ s. GrowsBy before.schedule.queue s.queue) (sym is.1.schedule)
    (grows-trans before.schedule.queue own.queue (all_made_ready woken own).queue (own_grows e before.schedule)
    (ready_grows woken own)))
    (appended_grows es is.0 after is.2)

pub happening_grows : (es : List Event) (before after : Book) → AllHappen es before after
    → GrowsBy before.schedule.queue after.schedule.queue
happening_grows [] before after is =
    subst (λ b. GrowsBy before.schedule.queue b.schedule.queue) (sym is) (grows-refl before.schedule.queue)
happening_grows (e ∷ es) before after is =
    grows-trans before.schedule.queue is.0.schedule.queue after.schedule.queue
    (appended_grows (e ∷ is.1.growth) before is.0 is.1.appends) (happening_grows es is.0 after is.2)
