-- What a stream keeps while it goes on.
use Rattle.std.proofs.Common.{◌≡◌, ℕ, ◌+◌, ◌≤◌, ◌||◌, Bool, true, false, ℤ, List, [], ◌∷◌, ◌++◌, Option, Some, None, is_some, Result, Ok, Err, IfOk, OnErr, refl, sym, ap, ◌∙◌, subst, inl, inr, append-nil, append_assoc, arith}
use Rattle.kpn_stream.proofs.Common.{false≢true, Tables, channel_at, is_sink, Event, is_closed, is_close_of, HaveStopped, is_closed-next, Book, standing_at, IsGrowthOwed, Happens, Schedule, Limits, happens_tables, happens_history, SourceFault, SinkFault, StreamEnding, Halted, SourceFailed, SinkFailed, end_numbers, AreTaken, failed_sink, is_of_outside, is_elsewhere, is_no_growth, NoneIs, is_of_source, is_of_sink, Fed, by_others, by_look, ServedSince, none_yet, meanwhile, took, took_not, took_in_vain, flushed, flushed_not, left, left_not, had_enough, had_enough_not, IsFlushed, AreFlushed, AreFlushedLast, EndsFlushed, AreLookedAt, not_yet, once_more, Called, by_process, by_sinks, looked, read_at_once, waited_for, HappensBesides, MayEnd, MayHalt, MayEndWell, StepsWithinLimits, Serves, MayFail, ReadsSource, ReadsInTurn, none_yet_read, once_more_read, ReadsAtHand, not_read, is_read, StreamGoesOn}
use Rattle.kpn_step.specs.declared.stop.Stop.{Stop}
use Rattle.kpn_step.specs.Frame.{Frame}
use Rattle.kpn_history.specs.declared.event.Event.TheVariants as event
use Rattle.kpn_book.specs.declared.answers.Done.{Done}
use Rattle.kpn_book.specs.declared.answers.Done.TheVariants as done
use Rattle.kpn_book.specs.Commits.{HasToWait, IsAnswer}
use Rattle.kpn_book.specs.Stepping.{StepsNext}
use Rattle.kpn_book.specs.InARow.{StepsInRow, no_step, one_step_more, ends_row, RunsInRow, RunsInVain}
use Rattle.kpn_book.specs.GoingOn.{TurnsInAnyOrder, no_turn, another_order, steps_on, one_turn_more, RunsInAnyOrder, AnyOrderInVain}
use Rattle.kpn_book.proofs.Remembered.{much-trans, happens_much, steps_much}
use Rattle.kpn_book.proofs.Stepped.{step_tables, step_history}

-- ---- events of other kinds

pub none_join : (kind : Event → Bool) (es fs : List Event) → NoneIs kind es → NoneIs kind fs → NoneIs kind (es ++ fs)
none_join kind [] fs first second = second
none_join kind (e ∷ es) fs first second = (first.0, none_join kind es fs first.1 second)

pub none_weaker : (f g : Event → Bool) → ((e : Event) → f e ≡ false → g e ≡ false) → (es : List Event) → NoneIs f es
    → NoneIs g es
none_weaker f g weaker [] none = tt
none_weaker f g weaker (e ∷ es) none = (weaker e none.0, none_weaker f g weaker es none.1)

pub besides-refl : (kind : Event → Bool) (b : Book) → HappensBesides kind b b
besides-refl kind b = record {
  tables = refl;
  events = [];
  history = sym (append-nil b.history);
  none = tt;
  remembers = λ keeping is. is;
}

pub besides-trans : (kind : Event → Bool) (a b c : Book) → HappensBesides kind a b → HappensBesides kind b c
    → HappensBesides kind a c
besides-trans kind a b c first second = record {
  tables = second.tables ∙ first.tables;
  events = first.events ++ second.events;
  history =
      second.history ∙ ap (λ H. H ++ second.events) first.history
      ∙ append_assoc a.history first.events second.events;
  none = none_join kind first.events second.events first.none second.none;
  remembers = much-trans a b c first.remembers second.remembers;
}

no_source : (x y : Bool) → (x || y) ≡ false → x ≡ false
no_source true y is = is
no_source false y is = refl

no_sink : (x y : Bool) → (x || y) ≡ false → y ≡ false
no_sink true y is = absurd (false≢true (sym is))
no_sink false y is = is

pub besides_sources : (a b : Book) → HappensBesides is_of_outside a b → HappensBesides is_of_source a b
besides_sources a b is = record {
  tables = is.tables;
  events = is.events;
  history = is.history;
  none = none_weaker is_of_outside is_of_source (λ e. no_source (is_of_source e) (is_of_sink e)) is.events is.none;
  remembers = is.remembers;
}

pub besides_sinks : (a b : Book) → HappensBesides is_of_outside a b → HappensBesides is_of_sink a b
besides_sinks a b is = record {
  tables = is.tables;
  events = is.events;
  history = is.history;
  none = none_weaker is_of_outside is_of_sink (λ e. no_sink (is_of_source e) (is_of_sink e)) is.events is.none;
  remembers = is.remembers;
}

pub elsewhere_no_source : (e : Event) → is_elsewhere e ≡ false → is_of_source e ≡ false
elsewhere_no_source (event.Take c v) is = refl
elsewhere_no_source (event.Leave c) is = refl
elsewhere_no_source (event.Grow p c n) is = refl
elsewhere_no_source e is = absurd (false≢true (sym is))

-- the sinks alone are served: nothing happens to sources
pub besides_elsewhere : (a b : Book) → HappensBesides is_elsewhere a b → HappensBesides is_of_source a b
besides_elsewhere a b is = record {
  tables = is.tables;
  events = is.events;
  history = is.history;
  none = none_weaker is_elsewhere is_of_source elsewhere_no_source is.events is.none;
  remembers = is.remembers;
}

growth_of_none : (e : Event) → is_no_growth e ≡ false → is_of_outside e ≡ false
growth_of_none (event.Grow p c n) is = refl
growth_of_none e is = absurd (false≢true (sym is))

pub outside_no_source : (e : Event) → is_of_outside e ≡ false → is_of_source e ≡ false
outside_no_source e = no_source (is_of_source e) (is_of_sink e)

pub growth_no_source : (e : Event) → is_no_growth e ≡ false → is_of_source e ≡ false
growth_no_source e is = outside_no_source e (growth_of_none e is)

pub growth_none : (kind : Event → Bool) → ((p d n : ℕ) → kind (event.Grow p d n) ≡ false)
    → (t : Tables) (H growth : List Event) → IsGrowthOwed t H growth → NoneIs kind growth
growth_none kind no_growth t H [] owed = tt
growth_none kind no_growth t H (event.Grow p d n ∷ []) owed = (no_growth p d n, tt)
growth_none kind no_growth t H growth owed = absurd owed

pub happens_besides : (kind : Event → Bool) → ((p d n : ℕ) → kind (event.Grow p d n) ≡ false)
    → (e : Event) → kind e ≡ false → (before after : Book) → Happens e before after
    → HappensBesides kind before after
happens_besides kind no_growth e other before after is = record {
  tables = happens_tables e before after is;
  events = e ∷ is.growth;
  history = happens_history e before after is;
  none = (other, growth_none kind no_growth before.tables (before.history ++ e ∷ []) is.growth is.owed);
  remembers = happens_much e before after is;
}

-- sources stay open
no_close : (e : Event) (c : ℕ) → is_of_source e ≡ false → is_close_of c e ≡ false
no_close (event.Get p d v) c other = refl
no_close (event.Put p d v) c other = refl
no_close (event.WaitEmpty p d) c other = refl
no_close (event.WaitFull p d) c other = refl
no_close (event.Ended p how) c other = refl
no_close (event.Feed d v) c other = refl
no_close (event.Close d) c other = absurd (false≢true (sym other))
no_close (event.Take d v) c other = refl
no_close (event.Leave d) c other = refl
no_close (event.Grow p d n) c other = refl

or_false : (b : Bool) → (b || false) ≡ b
or_false true = refl
or_false false = refl

-- an event of others closes no source
pub closed_same : (H : List Event) (e : Event) (c : ℕ) → is_of_source e ≡ false
    → is_closed (H ++ e ∷ []) c ≡ is_closed H c
closed_same H e c other =
    is_closed-next H e c ∙ ap (λ b. is_closed H c || b) (no_close e c other) ∙ or_false (is_closed H c)

closed_along : (es H : List Event) (c : ℕ) → NoneIs is_of_source es → is_closed (H ++ es) c ≡ is_closed H c
closed_along [] H c none = ap (λ X. is_closed X c) (append-nil H)
closed_along (e ∷ es) H c none =
    ap (λ X. is_closed X c) (sym (append_assoc H (e ∷ []) es))
    ∙ closed_along es (H ++ e ∷ []) c none.1
    ∙ closed_same H e c none.0

pub open_besides : (a b : Book) (c : ℕ) → HappensBesides is_of_source a b → is_closed a.history c ≡ false
    → is_closed b.history c ≡ false
open_besides a b c is was =
    ap (λ H. is_closed H c) is.history ∙ closed_along is.events a.history c is.none ∙ was

-- ---- the devices of the sources

module _ {S : Type 0} (gives : S → ℕ → Result (Option ℤ) SourceFault → S → Type 0) (looks : S → ℕ → S → Type 0)
    (first : S) where
  pub fed_looked : (t : Tables) (H : List Event) (before : S) → Fed t gives looks first H None before
      → {now : S} → AreLookedAt looks before now → Fed t gives looks first H None now
  fed_looked t H before fed not_yet = fed
  fed_looked t H before fed (once_more c between now so_far look) =
      by_look H c between now (fed_looked t H before fed so_far) look

module _ {S : Type 0} (gives : S → ℕ → Result (Option ℤ) SourceFault → S → Type 0) (looks : S → ℕ → S → Type 0)
    (first : S) (failed : Option (ℕ × SourceFault)) (now : S) where
  fed_along : (t : Tables) (es H : List Event) → NoneIs is_of_source es → Fed t gives looks first H failed now
      → Fed t gives looks first (H ++ es) failed now
  fed_along t [] H none fed = subst (λ X. Fed t gives looks first X failed now) (sym (append-nil H)) fed
  fed_along t (e ∷ es) H none fed =
      subst (λ X. Fed t gives looks first X failed now) (append_assoc H (e ∷ []) es)
      (fed_along t es (H ++ e ∷ []) none.1 (by_others H e failed now fed none.0))

  -- the network stays
  fed_still : (before after : Book) (H : List Event) → after.tables ≡ before.tables → after.history ≡ H
      → Fed before.tables gives looks first H failed now → Fed after.tables gives looks first after.history failed now
  fed_still before after H same is fed =
      subst (λ t. Fed t gives looks first after.history failed now) (sym same)
      (subst (λ X. Fed before.tables gives looks first X failed now) (sym is) fed)

  pub fed_besides : (before after : Book) → HappensBesides is_of_source before after
      → Fed before.tables gives looks first before.history failed now
      → Fed after.tables gives looks first after.history failed now
  fed_besides before after is fed =
      fed_still before after (before.history ++ is.events) is.tables is.history
      (fed_along before.tables is.events before.history is.none fed)

  pub fed_happens : (e : Event) (before after : Book) → Happens e before after
      → Fed before.tables gives looks first (before.history ++ e ∷ []) failed now
      → Fed after.tables gives looks first after.history failed now
  fed_happens e before after is fed =
      fed_still before after ((before.history ++ e ∷ []) ++ is.growth) (happens_tables e before after is)
      (happens_history e before after is ∙ sym (append_assoc before.history (e ∷ []) is.growth))
      (fed_along before.tables is.growth (before.history ++ e ∷ [])
      (growth_none is_of_source (λ p d n. refl) before.tables (before.history ++ e ∷ []) is.growth is.owed) fed)

-- ---- the devices of the sinks

module _ {K : Type 0} (takes : K → ℕ → ℤ → Result (Unit {0}) SinkFault → K → Type 0)
    (flushes : K → ℕ → Result (Unit {0}) SinkFault → K → Type 0) (wanted : Option ℕ) (start : List Event) (first : K)
  where
    module _ (failed : Option (ℕ × SinkFault)) (now : K) where
      served_along : (es H : List Event) → NoneIs is_of_sink es
          → ServedSince takes flushes wanted start first H failed now
          → ServedSince takes flushes wanted start first (H ++ es) failed now
      served_along [] H none served =
          subst (λ X. ServedSince takes flushes wanted start first X failed now) (sym (append-nil H)) served
      served_along (e ∷ es) H none served =
          subst (λ X. ServedSince takes flushes wanted start first X failed now) (append_assoc H (e ∷ []) es)
          (served_along es (H ++ e ∷ []) none.1 (meanwhile H e failed now served none.0))

      pub served_besides : (before after : Book) → HappensBesides is_of_sink before after
          → ServedSince takes flushes wanted start first before.history failed now
          → ServedSince takes flushes wanted start first after.history failed now
      served_besides before after is served =
          subst (λ X. ServedSince takes flushes wanted start first X failed now) (sym is.history)
          (served_along is.events before.history is.none served)

      pub served_happens : (e : Event) (before after : Book) → Happens e before after
          → ServedSince takes flushes wanted start first (before.history ++ e ∷ []) failed now
          → ServedSince takes flushes wanted start first after.history failed now
      served_happens e before after is served =
          subst (λ X. ServedSince takes flushes wanted start first X failed now)
          (append_assoc before.history (e ∷ []) is.growth ∙ sym (happens_history e before after is))
          (served_along is.growth (before.history ++ e ∷ [])
          (growth_none is_of_sink (λ p d n. refl) before.tables (before.history ++ e ∷ []) is.growth is.owed) served)

    pub served-trans : (H : List Event) (j : K) → ServedSince takes flushes wanted start first H None j
        → {G : List Event} {failed : Option (ℕ × SinkFault)} {k : K}
        → ServedSince takes flushes wanted H j G failed k → ServedSince takes flushes wanted start first G failed k
    served-trans H j one none_yet = one
    served-trans H j one (meanwhile G e failed now two other) =
        meanwhile G e failed now (served-trans H j one two) other
    served-trans H j one (took G c v before now two few answer) =
        took G c v before now (served-trans H j one two) few answer
    served-trans H j one (took_not G c v fault before now two few answer) =
        took_not G c v fault before now (served-trans H j one two) few answer
    served-trans H j one (flushed G c before now two answer) =
        flushed G c before now (served-trans H j one two) answer
    served-trans H j one (flushed_not G c fault before now two answer) =
        flushed_not G c fault before now (served-trans H j one two) answer
    served-trans H j one (took_in_vain G c v before now two few answer) =
        took_in_vain G c v before now (served-trans H j one two) few answer
    served-trans H j one (left G c now two) = left G c now (served-trans H j one two)
    served-trans H j one (left_not G c now two) = left_not G c now (served-trans H j one two)
    served-trans H j one (had_enough G c before now two enough answer) =
        had_enough G c before now (served-trans H j one two) enough answer
    served-trans H j one (had_enough_not G c before now two enough answer) =
        had_enough_not G c before now (served-trans H j one two) enough answer

    -- the last calls stay the last ones
    pub flushed-trans : (t : Tables) (H : List Event) (j : K)
        → ServedSince takes flushes wanted start first H None j → (ended : Option StreamEnding) (G : List Event) (k : K)
        → EndsFlushed takes flushes wanted t H j ended G k → EndsFlushed takes flushes wanted t start first ended G k
    flushed-trans t H j one None G k is = tt
    flushed-trans t H j one (Some (SourceFailed c fault)) G k is = tt
    flushed-trans t H j one (Some (SinkFailed c fault)) G k is = tt
    flushed-trans t H j one (Some ending) G k is = record {
      before = is.before;
      then = is.then;
      served = served-trans H j one is.served;
      last = is.last;
    }

    pub ends_flushed : (t : Tables) (ended : Option StreamEnding) (H : List Event) (now : K)
        → AreFlushedLast takes flushes wanted t start first H now
        → EndsFlushed takes flushes wanted t start first ended H now
    ends_flushed t None H now last = tt
    ends_flushed t (Some (SourceFailed c fault)) H now last = tt
    ends_flushed t (Some (SinkFailed c fault)) H now last = tt
    ends_flushed t (Some ending) H now last = last

    -- a source has failed, or nothing
    pub unflushed : (t : Tables) (c : ℕ) (ended : Option StreamEnding) (H : List Event) (now : K) → MayFail c ended
        → EndsFlushed takes flushes wanted t start first ended H now
    unflushed t c ended H now may =
        elim may [
          | inl on ↦ subst (λ e. EndsFlushed takes flushes wanted t start first e H now) (sym on) tt
          | inr (fault, over) ↦
              subst (λ e. EndsFlushed takes flushes wanted t start first e H now) (sym over) tt
        ]

-- ---- all calls

module _ {S K : Type 0} (t : Tables) (gives : S → ℕ → Result (Option ℤ) SourceFault → S → Type 0)
    (looks : S → ℕ → S → Type 0) (at_hand : S → ℕ → Type 0)
    (takes : K → ℕ → ℤ → Result (Unit {0}) SinkFault → K → Type 0)
    (flushes : K → ℕ → Result (Unit {0}) SinkFault → K → Type 0) (wanted : Option ℕ) (s : S) (k : K) (r : S) (j : K)
  where
    pub called_along : (es H : List Event) → NoneIs is_of_outside es
        → Called t gives looks at_hand takes flushes wanted s k H r j
        → Called t gives looks at_hand takes flushes wanted s k (H ++ es) r j
    called_along [] H none called =
        subst (λ X. Called t gives looks at_hand takes flushes wanted s k X r j) (sym (append-nil H)) called
    called_along (e ∷ es) H none called =
        subst (λ X. Called t gives looks at_hand takes flushes wanted s k X r j) (append_assoc H (e ∷ []) es)
        (called_along es (H ++ e ∷ []) none.1 (by_process H e r j called none.0))

    pub called_looked : (H : List Event) → Called t gives looks at_hand takes flushes wanted s k H r j → {u : S}
        → AreLookedAt looks r u → Called t gives looks at_hand takes flushes wanted s k H u j
    called_looked H called not_yet = called
    called_looked H called (once_more c between now so_far look) =
        looked H c between now j (called_looked H called so_far) look

-- ---- a step

wait_none : (b : Book) (p : ℕ) (s : Stop) (wait : Event) → HasToWait b p s wait → is_of_outside wait ≡ false
wait_none b p s wait waits =
    elim waits [ inl empty ↦ ap is_of_outside empty.is | inr full ↦ ap is_of_outside full.is ]

commit_none : (b : Book) (p : ℕ) (s : Stop) (answer : Done) (es : List Event) → IsAnswer b p s answer es
    → NoneIs is_of_outside es
commit_none b p s (done.Got v) es got = subst (NoneIs is_of_outside) (sym got.appends) (refl, tt)
commit_none b p s done.Put es put = subst (NoneIs is_of_outside) (sym put.appends) (refl, tt)
commit_none b p s done.Blocked es blocked =
    subst (NoneIs is_of_outside) (sym blocked.appends) (wait_none b p s blocked.wait blocked.waits, tt)
commit_none b p s (done.Grew d) es grew =
    subst (NoneIs is_of_outside) (sym grew.appends) (wait_none b p s grew.wait grew.waits, (refl, tt))
commit_none b p s done.Ended es ended =
    subst (NoneIs is_of_outside) (sym ended.appends) (
      refl,
      growth_none is_of_outside (λ q d n. refl) b.tables (b.history ++ event.Ended p ended.how ∷ []) ended.growth
          ended.owed,
    )
commit_none b p s done.Paused es paused = subst (NoneIs is_of_outside) (sym paused.appends) tt

step_besides : (quota : ℕ) (answer : Done) (before after : Book) → StepsNext quota answer before after
    → HappensBesides is_of_outside before after
step_besides quota answer before after steps = record {
  tables = step_tables quota answer before after steps;
  events = steps.commits.handles.events;
  history = step_history quota answer before after steps;
  none =
      commit_none (standing_at steps.process steps.advance.to steps.between) steps.process steps.advance.stop answer
      steps.commits.handles.events steps.commits.handles.answers;
  remembers = steps_much quota answer before after steps;
}

row_besides : (quota : ℕ) (first : Book) {n : ℕ} {b : Book} → StepsInRow quota first n b
    → HappensBesides is_of_outside first b
row_besides quota first no_step = besides-refl is_of_outside first
row_besides quota first (one_step_more before after row step) =
    besides-trans is_of_outside first before after (row_besides quota first row)
    (step_besides quota step.answer before after step.steps)

last_besides : (quota : ℕ) (sink : Option ℕ) (last after : Book) → ends_row quota sink last after
    → HappensBesides is_of_outside last after
last_besides quota (Some c) last after step = step_besides quota step.answer last after step.steps
last_besides quota None last after same =
    subst (HappensBesides is_of_outside last) (sym same) (besides-refl is_of_outside last)

pub stepped-refl : (limits : Limits) (b : Book) → StepsWithinLimits limits b b
stepped-refl limits b = record { besides = besides-refl is_of_outside b; commits = λ below. below }

pub stepped-trans : (limits : Limits) (a b c : Book) → StepsWithinLimits limits a b → StepsWithinLimits limits b c
    → StepsWithinLimits limits a c
stepped-trans limits a b c one two = record {
  besides = besides-trans is_of_outside a b c one.besides two.besides;
  commits = λ below. two.commits (one.commits below);
}

stepped : (limits : Limits) (quota most : ℕ) (sink : Option ℕ) (before after : Book)
    → (before.commits ≤ limits.commits → before.commits + most ≤ limits.commits) → RunsInRow quota most sink before after
    → StepsWithinLimits limits before after
stepped limits quota most sink before after fits is = record {
  besides =
      besides-trans is_of_outside before is.last after (row_besides quota before is.row)
      (last_besides quota sink is.last after is.ends);
  commits = λ below. let room = fits below in let within = is.within in omega arith;
}

-- the frame of a process has moved
moved : (first : Book) (p : ℕ) (frame : Frame) (b : Book) → HappensBesides is_of_outside first b
    → HappensBesides is_of_outside first (standing_at p frame b)
moved first p frame b so_far = record {
  tables = so_far.tables;
  events = so_far.events;
  history = so_far.history;
  none = so_far.none;
  remembers = λ keeping is.
      let kept = so_far.remembers keeping is in record { events = kept.events; items = kept.items };
}

in_vain : (limits : Limits) (quota most : ℕ) (before after : Book)
    → (before.commits ≤ limits.commits → before.commits + most ≤ limits.commits) → RunsInVain quota most before after
    → StepsWithinLimits limits before after
in_vain limits quota most before after fits is = record {
  besides = elim is.ends [
    | inl last ↦ subst (HappensBesides is_of_outside before) (sym last) (row_besides quota before is.row)
    | inr steps ↦
        subst (HappensBesides is_of_outside before) (sym steps.there)
        (moved before steps.process steps.advance.to is.last (row_besides quota before is.row))
  ];
  commits = λ below. let room = fits below in let made = is.commits in let fewer = is.fewer in omega arith;
}

-- turns in any order, of which the last may be without its commit
any_order_besides : (quota : ℕ) (first : Book) {sink : Option ℕ} {b : Book} → TurnsInAnyOrder quota first sink b
    → HappensBesides is_of_outside first b
any_order_besides quota first no_turn = besides-refl is_of_outside first
any_order_besides quota first (another_order before after turns order) =
    subst (HappensBesides is_of_outside first) (sym order.same)
    (still before (record before.schedule { queue = after.schedule.queue }) (any_order_besides quota first turns))
  where
    still : (b : Book) (schedule : Schedule) → HappensBesides is_of_outside first b
        → HappensBesides is_of_outside first (record b { schedule = schedule })
    still b schedule so_far = record {
      tables = so_far.tables;
      events = so_far.events;
      history = so_far.history;
      none = so_far.none;
      remembers = λ keeping is.
          let kept = so_far.remembers keeping is in record { events = kept.events; items = kept.items };
    }
any_order_besides quota first (steps_on before after turns steps) =
    subst (HappensBesides is_of_outside first) (sym steps.there)
    (moved first steps.process steps.advance.to before (any_order_besides quota first turns))
any_order_besides quota first (one_turn_more before after turns step) =
    besides-trans is_of_outside first before after (any_order_besides quota first turns)
    (step_besides quota step.answer before after step.steps)

pub stepped_in_any_order : {E : Type 0} (limits : Limits) (quota most : ℕ) (result : Result (Option ℕ) E)
    (before after : Book) → (before.commits ≤ limits.commits → before.commits + most ≤ limits.commits)
    → IfOk result (λ sink. RunsInAnyOrder quota most sink before after)
    → OnErr result (AnyOrderInVain quota most before after) → StepsWithinLimits limits before after
stepped_in_any_order limits quota most (Ok sink) before after fits runs vain = record {
  besides = any_order_besides quota before runs.turns;
  commits = λ below. let room = fits below in let within = runs.within in omega arith;
}
stepped_in_any_order limits quota most (Err error) before after fits runs vain = record {
  besides = any_order_besides quota before vain.turns;
  commits = λ below. let room = fits below in let fewer = vain.fewer in omega arith;
}

-- steps in a row, also if memory runs out after them
pub stepped_row : {E : Type 0} (limits : Limits) (quota most : ℕ) (result : Result (Option ℕ) E) (before after : Book)
    → (before.commits ≤ limits.commits → before.commits + most ≤ limits.commits)
    → IfOk result (λ sink. RunsInRow quota most sink before after) → OnErr result (RunsInVain quota most before after)
    → StepsWithinLimits limits before after
stepped_row limits quota most (Ok sink) before after fits runs vain =
    stepped limits quota most sink before after fits runs
stepped_row limits quota most (Err error) before after fits runs vain =
    in_vain limits quota most before after fits vain

-- ---- one after the other

pub none_of : {T : Type 0} (o : Option T) → is_some o ≡ false → o ≡ None
none_of (Some x) is = absurd cc
none_of None is = refl

module _ {K : Type 0} (takes : K → ℕ → ℤ → Result (Unit {0}) SinkFault → K → Type 0)
    (flushes : K → ℕ → Result (Unit {0}) SinkFault → K → Type 0) (limits : Limits) where
  pub serves-refl : (b : Book) (k : K) → Serves takes flushes limits None b b k k
  serves-refl b k = record {
    besides = besides-refl is_elsewhere b;
    commits = refl;
    sinks_go_on = none_yet;
    no_source = refl;
    stay_taken = λ c taken. taken;
    ending = tt;
    flushed = tt;
  }

  pub serves-trans : (ended : Option StreamEnding) (a b c : Book) (i j k : K) → Serves takes flushes limits None a b i j
      → Serves takes flushes limits ended b c j k → Serves takes flushes limits ended a c i k
  serves-trans ended a b c i j k one two = record {
    besides = besides-trans is_elsewhere a b c one.besides two.besides;
    commits = two.commits ∙ one.commits;
    sinks_go_on = served-trans takes flushes limits.take a.history i b.history j one.sinks_go_on two.sinks_go_on;
    no_source = two.no_source;
    stay_taken = λ c taken. two.stay_taken c (one.stay_taken c taken);
    ending = two.ending;
    flushed =
        flushed-trans takes flushes limits.take a.history i c.tables b.history j one.sinks_go_on ended c.history k
        two.flushed;
  }

  -- an ending is found once all sinks were flushed
  pub serves_ending : (ended : Option StreamEnding) (a b : Book) (i j : K) (xs : List ℕ)
      → Serves takes flushes limits None a b i j → xs ≡ end_numbers is_sink a.tables
      → AreFlushed flushes xs a.history i b.history j → MayEndWell limits ended b
      → Serves takes flushes limits ended a b i j
  serves_ending ended a b i j xs one all last ends = record {
    besides = one.besides;
    commits = one.commits;
    sinks_go_on =
        subst (λ f. ServedSince takes flushes limits.take a.history i b.history f j) (sym ends.no_sink)
        one.sinks_go_on;
    no_source = ends.no_source;
    stay_taken = one.stay_taken;
    ending = ends.ending;
    flushed =
        ends_flushed takes flushes limits.take a.history i b.tables ended b.history j
        (record {
          before = a.history;
          then = i;
          served = none_yet;
          last =
              subst (λ ys. AreFlushed flushes ys a.history i b.history j)
              (all ∙ ap (end_numbers is_sink) (sym one.besides.tables)) last;
        });
  }

  -- what was taken stays taken
  pub serves_taken : (ended : Option StreamEnding) (a b : Book) (i j : K) → Serves takes flushes limits ended a b i j
      → AreTaken a.tables a.history → AreTaken b.tables b.history
  serves_taken ended a b i j is taken c sink =
      is.stay_taken c (taken c (subst (λ t. is_sink (channel_at t c) ≡ true) is.besides.tables sink))

  -- the stream goes on
  pub serves_on : (ended : Option StreamEnding) (a b : Book) (i j : K) → is_some ended ≡ false
      → Serves takes flushes limits ended a b i j → Serves takes flushes limits None a b i j
  serves_on ended a b i j on is = subst (λ e. Serves takes flushes limits e a b i j) (none_of ended on) is

-- ---- a source is read

no_sink_failed : (c : ℕ) (ended : Option StreamEnding) → MayFail c ended → failed_sink ended ≡ None
no_sink_failed c ended may =
    elim may [ inl on ↦ ap failed_sink on | inr (fault, over) ↦ ap failed_sink over ]

may_end : (limits : Limits) (c : ℕ) (ended : Option StreamEnding) (b : Book) → MayFail c ended → AreTaken b.tables b.history
    → MayEnd limits ended b
may_end limits c ended b may taken =
    elim may [
      | inl on ↦ subst (λ e. MayEnd limits e b) (sym on) tt
      | inr (fault, over) ↦ subst (λ e. MayEnd limits e b) (sym over) (tt, taken)
    ]

may_halt : (limits : Limits) (ended : Option StreamEnding) (b : Book) → MayEnd limits ended b → MayHalt limits ended b
may_halt limits None b may = may
may_halt limits (Some Halted) b may = absurd may
may_halt limits (Some ending) b may = may

module _ {S K : Type 0} (gives : S → ℕ → Result (Option ℤ) SourceFault → S → Type 0) (looks : S → ℕ → S → Type 0)
    (at_hand : S → ℕ → Type 0) (takes : K → ℕ → ℤ → Result (Unit {0}) SinkFault → K → Type 0)
    (flushes : K → ℕ → Result (Unit {0}) SinkFault → K → Type 0) (limits : Limits) where
  -- devices are looked at
  pub looks_go_on : (b : Book) (r s : S) (k : K) → AreLookedAt looks r s
      → StreamGoesOn gives looks at_hand takes flushes limits None b b r s k k
  looks_go_on b r s k around = record {
    tables = refl;
    commits = λ below. below;
    remembers = λ keeping is. is;
    sources_go_on = λ first fed. fed_looked gives looks first b.tables b.history r fed around;
    sinks_go_on = none_yet;
    calls_go_on = λ t same u j called.
        called_looked t gives looks at_hand takes flushes limits.take u j r k b.history called around;
    ending = tt;
    flushed = tt;
  }

  pub goes_on-refl : (b : Book) (s : S) (k : K) → StreamGoesOn gives looks at_hand takes flushes limits None b b s s k k
  goes_on-refl b s k = looks_go_on b s s k not_yet

  pub goes_on-trans : (ended : Option StreamEnding) (a b c : Book) (r s u : S) (i j k : K)
      → StreamGoesOn gives looks at_hand takes flushes limits None a b r s i j
      → StreamGoesOn gives looks at_hand takes flushes limits ended b c s u j k
      → StreamGoesOn gives looks at_hand takes flushes limits ended a c r u i k
  goes_on-trans ended a b c r s u i j k one two = record {
    tables = two.tables ∙ one.tables;
    commits = λ below. two.commits (one.commits below);
    remembers = much-trans a b c one.remembers two.remembers;
    sources_go_on = λ first fed. two.sources_go_on first (one.sources_go_on first fed);
    sinks_go_on = served-trans takes flushes limits.take a.history i b.history j one.sinks_go_on two.sinks_go_on;
    calls_go_on = λ t same s k called.
        two.calls_go_on t (same ∙ sym one.tables) s k (one.calls_go_on t same s k called);
    ending = two.ending;
    flushed =
        flushed-trans takes flushes limits.take a.history i c.tables b.history j one.sinks_go_on ended c.history k
        two.flushed;
  }

  pub serves_goes_on : (ended : Option StreamEnding) (a b : Book) (s : S) (i j : K)
      → Serves takes flushes limits ended a b i j → StreamGoesOn gives looks at_hand takes flushes limits ended a b s s i j
  serves_goes_on ended a b s i j is = record {
    tables = is.besides.tables;
    commits = λ below. let same = is.commits in omega arith;
    remembers = is.besides.remembers;
    sources_go_on = λ first fed.
        subst (λ f. Fed b.tables gives looks first b.history f s) (sym is.no_source)
        (fed_besides gives looks first None s a b (besides_elsewhere a b is.besides) fed);
    sinks_go_on = is.sinks_go_on;
    calls_go_on = λ t same r k called.
        subst (λ X. Called t gives looks at_hand takes flushes limits.take r k X s j) (sym is.besides.history)
        (by_sinks a.history is.besides.events (failed_sink ended) s i j called
        (subst (λ X. ServedSince takes flushes limits.take a.history i X (failed_sink ended) j) is.besides.history
        is.sinks_go_on)
        is.besides.none);
    ending = may_halt limits ended b is.ending;
    flushed = is.flushed;
  }

  pub steps_go_on : (a b : Book) (s : S) (k : K) → StepsWithinLimits limits a b
      → StreamGoesOn gives looks at_hand takes flushes limits None a b s s k k
  steps_go_on a b s k is = record {
    tables = is.besides.tables;
    commits = is.commits;
    remembers = is.besides.remembers;
    sources_go_on = λ first fed.
        fed_besides gives looks first None s a b (besides_sources a b is.besides) fed;
    sinks_go_on =
        served_besides takes flushes limits.take a.history k None k a b (besides_sinks a b is.besides) none_yet;
    calls_go_on = λ t same r j called.
        subst (λ X. Called t gives looks at_hand takes flushes limits.take r j X s k) (sym is.besides.history)
        (called_along t gives looks at_hand takes flushes limits.take r j s k is.besides.events a.history
        is.besides.none called);
    ending = tt;
    flushed = tt;
  }

  -- nothing happens to sinks while a source is read
  sinks_wait : (c : ℕ) (ended : Option StreamEnding) (a b : Book) (r s : S) (k : K) → ReadsSource gives looks c ended a b r s
      → ServedSince takes flushes limits.take a.history k b.history (failed_sink ended) k
  sinks_wait c ended a b r s k is =
      subst (λ f. ServedSince takes flushes limits.take a.history k b.history f k)
      (sym (no_sink_failed c ended is.ends))
      (served_besides takes flushes limits.take a.history k None k a b is.besides none_yet)

  -- after the answer of a source
  called_then : (c : ℕ) (ended : Option StreamEnding) (a b : Book) (r s : S) (k : K)
      → (is : ReadsSource gives looks c ended a b r s)
      → (t : Tables) (u : S) (j : K)
      → Called t gives looks at_hand takes flushes limits.take u j (a.history ++ is.events) s k
      → Called t gives looks at_hand takes flushes limits.take u j b.history s k
  called_then c ended a b r s k is t u j called =
      subst (λ X. Called t gives looks at_hand takes flushes limits.take u j X s k) (sym is.then)
      (called_along t gives looks at_hand takes flushes limits.take u j s k is.growth (a.history ++ is.events)
      (none_weaker is_no_growth is_of_outside growth_of_none is.growth is.grown) called)

  -- a source is read whose item is at hand
  pub reads_at_once : (c : ℕ) (ended : Option StreamEnding) (a b : Book) (r s : S) (k : K) → at_hand r c
      → ReadsSource gives looks c ended a b r s → StreamGoesOn gives looks at_hand takes flushes limits ended a b r s k k
  reads_at_once c ended a b r s k hand is = record {
    tables = is.besides.tables;
    commits = λ below. let same = is.commits in omega arith;
    remembers = is.besides.remembers;
    sources_go_on = is.sources_go_on;
    sinks_go_on = sinks_wait c ended a b r s k is;
    calls_go_on = λ t same u j called.
        called_then c ended a b r s k is t u j
        (read_at_once a.history is.events c is.answer r s k called hand is.answers is.follows);
    ending = may_halt limits ended b (may_end limits c ended b is.ends is.taken);
    flushed = unflushed takes flushes limits.take a.history k b.tables c ended b.history k is.ends;
  }

  -- a source is read some times
  pub reads_in_turn : (c : ℕ) (a : Book) (r : S) (k : K) {ended : Option StreamEnding} {b : Book} {s : S}
      → ReadsInTurn gives looks at_hand c a r ended b s
      → StreamGoesOn gives looks at_hand takes flushes limits ended a b r s k k
  reads_in_turn c a r k none_yet_read = goes_on-refl a r k
  reads_in_turn c a r k (once_more_read ended before after between s so_far hand is) =
      goes_on-trans ended a before after r between s k k k (reads_in_turn c a r k so_far)
      (reads_at_once c ended before after between s k hand is)

  -- a source is read if its item is at hand
  pub reads_at_hand : (c : ℕ) (ended : Option StreamEnding) (a b : Book) (r s : S) (k : K)
      → ReadsAtHand gives looks at_hand c ended a b r s
      → StreamGoesOn gives looks at_hand takes flushes limits ended a b r s k k
  reads_at_hand c ended a b r s k (not_read same on around) =
      subst (λ e. StreamGoesOn gives looks at_hand takes flushes limits e a b r s k k) (sym on)
      (subst (λ x. StreamGoesOn gives looks at_hand takes flushes limits None a x r s k k) (sym same)
      (looks_go_on a r s k around))
  reads_at_hand c ended a b r s k (is_read between around hand is) =
      goes_on-trans ended a a b r between s k k k (looks_go_on a r between k around)
      (reads_at_once c ended a b between s k hand is)

  -- a source is read once the devices of the sinks have handed on what they kept
  pub reads_flushed : (c : ℕ) (ended : Option StreamEnding) (a b d : Book) (r u s : S) (i j : K) (xs : List ℕ)
      → Serves takes flushes limits None a b i j → xs ≡ end_numbers is_sink a.tables
      → AreFlushed flushes xs a.history i b.history j → HaveStopped b.tables b.history → AreLookedAt looks r u
      → ReadsSource gives looks c ended b d u s → StreamGoesOn gives looks at_hand takes flushes limits ended a d r s i j
  reads_flushed c ended a b d r u s i j xs serves all handed_on stopped around is = record {
    tables = is.besides.tables ∙ serves.besides.tables;
    commits = λ below. let same = is.commits in let as_before = serves.commits in omega arith;
    remembers = much-trans a b d serves.besides.remembers is.besides.remembers;
    sources_go_on = λ first fed.
        is.sources_go_on first
        (fed_looked gives looks first b.tables b.history r
        (fed_besides gives looks first None r a b (besides_elsewhere a b serves.besides) fed) around);
    sinks_go_on =
        served-trans takes flushes limits.take a.history i b.history j serves.sinks_go_on
        (sinks_wait c ended b d u s j is);
    calls_go_on = λ t same v k called.
        called_then c ended b d u s j is t v k
        (waited_for a.history b.history is.events c is.answer r u s i j called
        (subst (λ ys. AreFlushed flushes ys a.history i b.history j)
        (all ∙ ap (end_numbers is_sink) (sym same)) handed_on)
        (subst (λ x. HaveStopped x b.history) (serves.besides.tables ∙ sym same) stopped) around is.answers
        is.follows);
    ending = may_halt limits ended d (may_end limits c ended d is.ends is.taken);
    flushed = unflushed takes flushes limits.take a.history i d.tables c ended d.history j is.ends;
  }

  -- the processes make steps, and the sinks are served
  pub taken_then : (ended : Option StreamEnding) (a b c : Book) (s : S) (i j : K) → StepsWithinLimits limits a b
      → Serves takes flushes limits ended b c i j → StreamGoesOn gives looks at_hand takes flushes limits ended a c s s i j
  taken_then ended a b c s i j one two =
      goes_on-trans ended a b c s s s i i j (steps_go_on a b s i one) (serves_goes_on ended b c s i j two)

-- what was taken stays taken
pub at_hand_taken : {S : Type 0} (gives : S → ℕ → Result (Option ℤ) SourceFault → S → Type 0)
    (looks : S → ℕ → S → Type 0) (at_hand : S → ℕ → Type 0) (c : ℕ) (ended : Option StreamEnding) (a b : Book) (r s : S)
    → ReadsAtHand gives looks at_hand c ended a b r s → AreTaken a.tables a.history → AreTaken b.tables b.history
at_hand_taken gives looks at_hand c ended a b r s (not_read same on around) taken =
    subst (λ x. AreTaken x.tables x.history) (sym same) taken
at_hand_taken gives looks at_hand c ended a b r s (is_read between around hand is) taken = is.taken

-- ---- all sinks are flushed

pub flushed_more : {K : Type 0} (flushes : K → ℕ → Result (Unit {0}) SinkFault → K → Type 0) (xs : List ℕ) (c : ℕ)
    (H G later : List Event) (k j now : K) → AreFlushed flushes xs H k G j → IsFlushed flushes c G j later now
    → AreFlushed flushes (xs ++ c ∷ []) H k later now
flushed_more flushes [] c H G later k j now so_far is = (
  later,
  now,
  subst (λ X. IsFlushed flushes c X k later now) so_far.0
      (subst (λ x. IsFlushed flushes c G x later now) so_far.1 is),
  (refl, refl),
)
flushed_more flushes (x ∷ xs) c H G later k j now so_far is =
    (so_far.0, so_far.1, so_far.2, flushed_more flushes xs c so_far.0 G later so_far.1 j now so_far.3 is)
