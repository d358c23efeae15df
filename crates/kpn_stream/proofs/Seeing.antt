-- The looks at a stream go on.
use Rattle.std.proofs.Common.{◌≡◌, ℕ, Bool, false, ℤ, List, ◌++◌, Option, Some, None, is_some, Result, Ok, Err, inl, inr, refl, sym, ap, ◌∙◌, subst, append_assoc}
use Rattle.kpn_stream.proofs.Common.{false≢true, is_sink, Event, Book, IsBook, Limits, SourceFault, SinkFault, StreamEnding, Halted, end_numbers, AreTaken, is_halted, is_of_source, is_elsewhere, is_no_growth, NoneIs, AreFlushed, answered, IsAnswered, none_yet, HappensBesides, IsStepless, MayEnd, MayFail, Serves, ServesOrHalts, serves_them, is_over, ReadsSource, ReadsInTurn, none_yet_read, once_more_read, ReadsAtHand, not_read, is_read, StreamGoesOn, StepsWithinLimits, Watched, by_steps, by_reads, seen, Watches}
use Rattle.kpn_history.specs.declared.event.Event.TheVariants as event
use Rattle.kpn_history.specs.Talks.{is_of_process}
use Rattle.kpn_stream.proofs.Going.{none_of, goes_on-trans, taken_then, serves_on, none_join, none_weaker, besides-refl, besides-trans, besides_sources, besides_elsewhere, serves_goes_on}

-- ---- no process makes a step

elsewhere_stepless : (e : Event) → is_elsewhere e ≡ false → is_of_process e ≡ false
elsewhere_stepless (event.Take c v) is = refl
elsewhere_stepless (event.Leave c) is = refl
elsewhere_stepless (event.Grow p c n) is = refl
elsewhere_stepless e is = absurd (false≢true (sym is))

growth_stepless : (e : Event) → is_no_growth e ≡ false → is_of_process e ≡ false
growth_stepless (event.Grow p c n) is = refl
growth_stepless e is = absurd (false≢true (sym is))

answer_stepless : (c : ℕ) (answer : Result (Option ℤ) SourceFault) (events : List Event) → IsAnswered c answer events
    → NoneIs is_of_process events
answer_stepless c answer events follows =
    elim follows [
      | inl is ↦ subst (NoneIs is_of_process) (sym is) (by answer)
      | inr is ↦ subst (NoneIs is_of_process) (sym is) tt
    ]
  where
    by : (answer : Result (Option ℤ) SourceFault) → NoneIs is_of_process (answered c answer)
    by (Ok (Some v)) = (refl, tt)
    by (Ok None) = (refl, tt)
    by (Err fault) = tt

pub may_end_unhalted : (limits : Limits) (ended : Option StreamEnding) (b : Book) → MayEnd limits ended b
    → is_halted ended ≡ false
may_end_unhalted limits None b may = refl
may_end_unhalted limits (Some Halted) b may = absurd may
may_end_unhalted limits (Some end) b may = refl

may_fail_unhalted : (c : ℕ) (ended : Option StreamEnding) → MayFail c ended → is_halted ended ≡ false
may_fail_unhalted c ended may = elim may [ inl on ↦ ap is_halted on | inr (fault, over) ↦ ap is_halted over ]

pub stepless-refl : (b : Book) → IsStepless None b b
stepless-refl b = record { besides = besides-refl is_of_process b; unhalted = refl }

pub stepless-trans : (first ended : Option StreamEnding) (a b c : Book) → IsStepless first a b → IsStepless ended b c
    → IsStepless ended a c
stepless-trans first ended a b c one two = record {
  besides = besides-trans is_of_process a b c one.besides two.besides;
  unhalted = two.unhalted;
}

module _ {K : Type 0} (takes : K → ℕ → ℤ → Result (Unit {0}) SinkFault → K → Type 0)
    (flushes : K → ℕ → Result (Unit {0}) SinkFault → K → Type 0) (limits : Limits) where
  pub stepless_serves : (ended : Option StreamEnding) (a b : Book) (i j : K) → Serves takes flushes limits ended a b i j
      → IsStepless ended a b
  stepless_serves ended a b i j is = record {
    besides = record {
      tables = is.besides.tables;
      events = is.besides.events;
      history = is.besides.history;
      none = none_weaker is_elsewhere is_of_process elsewhere_stepless is.besides.events is.besides.none;
      remembers = is.besides.remembers;
    };
    unhalted = may_end_unhalted limits ended b is.ending;
  }

module _ {S : Type 0} (gives : S → ℕ → Result (Option ℤ) SourceFault → S → Type 0) (looks : S → ℕ → S → Type 0)
    (at_hand : S → ℕ → Type 0) where
  pub stepless_read : (c : ℕ) (ended : Option StreamEnding) (a b : Book) (r s : S)
      → ReadsSource gives looks c ended a b r s → IsStepless ended a b
  stepless_read c ended a b r s is = record {
    besides = record {
      tables = is.besides.tables;
      events = is.events ++ is.growth;
      history = is.then ∙ append_assoc a.history is.events is.growth;
      none =
          none_join is_of_process is.events is.growth (answer_stepless c is.answer is.events is.follows)
          (none_weaker is_no_growth is_of_process growth_stepless is.growth is.grown);
      remembers = is.besides.remembers;
    };
    unhalted = may_fail_unhalted c ended is.ends;
  }

  pub stepless_in_turn : (c : ℕ) (a : Book) (r : S) {ended : Option StreamEnding} {b : Book} {s : S}
      → ReadsInTurn gives looks at_hand c a r ended b s → IsStepless ended a b
  stepless_in_turn c a r none_yet_read = stepless-refl a
  stepless_in_turn c a r (once_more_read ended before after between s so_far hand is) =
      stepless-trans None ended a before after (stepless_in_turn c a r so_far)
      (stepless_read c ended before after between s is)

  pub stepless_at_hand : (c : ℕ) (ended : Option StreamEnding) (a b : Book) (r s : S)
      → ReadsAtHand gives looks at_hand c ended a b r s → IsStepless ended a b
  stepless_at_hand c ended a b r s (not_read same on around) =
      subst (λ e. IsStepless e a b) (sym on) (subst (IsStepless None a) (sym same) (stepless-refl a))
  stepless_at_hand c ended a b r s (is_read between around hand is) = stepless_read c ended a b between s is

-- ---- the watcher wants the end

pub shown_goes_on : {S K : Type 0} (gives : S → ℕ → Result (Option ℤ) SourceFault → S → Type 0)
    (looks : S → ℕ → S → Type 0) (at_hand : S → ℕ → Type 0)
    (takes : K → ℕ → ℤ → Result (Unit {0}) SinkFault → K → Type 0)
    (flushes : K → ℕ → Result (Unit {0}) SinkFault → K → Type 0) (limits : Limits) (ended : Option StreamEnding)
    (a b : Book) (s : S) (i j : K) → AreTaken b.tables b.history
    → ServesOrHalts takes flushes limits ended a b i j
    → StreamGoesOn gives looks at_hand takes flushes limits ended a b s s i j
shown_goes_on gives looks at_hand takes flushes limits ended a b s i j taken (serves_them is) =
    serves_goes_on gives looks at_hand takes flushes limits ended a b s i j is
shown_goes_on gives looks at_hand takes flushes limits ended a b s i j taken (is_over halted is flushed) =
    let on = serves_goes_on gives looks at_hand takes flushes limits None a b s i j is in
    subst (λ e. StreamGoesOn gives looks at_hand takes flushes limits e a b s s i j) (sym halted)
    (record {
      tables = on.tables;
      commits = on.commits;
      remembers = on.remembers;
      sources_go_on = on.sources_go_on;
      sinks_go_on = on.sinks_go_on;
      calls_go_on = on.calls_go_on;
      ending = (tt, taken);
      flushed = record {
        before = a.history;
        then = i;
        served = none_yet;
        last =
            subst (λ t. AreFlushed flushes (end_numbers is_sink t) a.history i b.history j) (sym is.besides.tables)
            flushed;
      };
    })

-- ---- the looks

module _ {W : Type 0} (knows : W → Book → Type 0) (sees : W → Book → Bool → W → Type 0) where
  -- the processes or the sinks make steps
  pub watches_steps : (a b : Book) (w : W) → HappensBesides is_of_source a b → Watches knows sees a b w false w
  watches_steps a b w is t same first so_far =
      subst (λ H. Watched t knows sees first H false w) (sym is.history)
      (by_steps a.history is.events w so_far is.none)

  -- the sources are read
  pub watches_reads : (a b : Book) (w : W) (ended : Option StreamEnding) → IsBook a → knows w a → IsStepless ended a b
      → Watches knows sees a b w (is_halted ended) w
  watches_reads a b w ended book known is t same first so_far =
      subst (λ h. Watched t knows sees first b.history h w) (sym is.unhalted)
      (subst (λ H. Watched t knows sees first H false w) (sym is.besides.history)
      (by_reads a is.besides.events w so_far (sym same) book known is.besides.none))

  -- the watcher looks
  pub watches_look : (b : Book) (w now : W) (halts : Bool) → IsBook b → sees w b halts now
      → Watches knows sees b b w halts now
  watches_look b w now halts book sees t same first so_far = seen b halts w now so_far (sym same) book sees

  pub watches-trans : (a b c : Book) (w u v : W) (halted : Bool) → b.tables ≡ a.tables → Watches knows sees a b w false u
      → Watches knows sees b c u halted v → Watches knows sees a c w halted v
  watches-trans a b c w u v halted tables one two t same first so_far =
      two t (same ∙ sym tables) first (one t same first so_far)

  -- the sinks are served, and the stream may end
  pub watches_serves : {K : Type 0} (takes : K → ℕ → ℤ → Result (Unit {0}) SinkFault → K → Type 0)
      (flushes : K → ℕ → Result (Unit {0}) SinkFault → K → Type 0) (limits : Limits) (ended : Option StreamEnding)
      (a b : Book) (i j : K) (w : W) → Serves takes flushes limits ended a b i j
      → Watches knows sees a b w (is_halted ended) w
  watches_serves takes flushes limits ended a b i j w is =
      subst (λ h. Watches knows sees a b w h w) (sym (may_end_unhalted limits ended b is.ending))
      (watches_steps a b w (besides_elsewhere a b is.besides))

  -- the same after steps of the processes
  pub watches_taken : {K : Type 0} (takes : K → ℕ → ℤ → Result (Unit {0}) SinkFault → K → Type 0)
      (flushes : K → ℕ → Result (Unit {0}) SinkFault → K → Type 0) (limits : Limits) (ended : Option StreamEnding)
      (a b c : Book) (i j : K) (w : W) → StepsWithinLimits limits a b → Serves takes flushes limits ended b c i j
      → Watches knows sees a c w (is_halted ended) w
  watches_taken takes flushes limits ended a b c i j w one two =
      watches-trans a b c w w w (is_halted ended) one.besides.tables
      (watches_steps a b w (besides_sources a b one.besides))
      (watches_serves takes flushes limits ended b c i j w two)

  -- after steps and the sinks a look may follow
  pub watches_shown : {K : Type 0} (takes : K → ℕ → ℤ → Result (Unit {0}) SinkFault → K → Type 0)
      (flushes : K → ℕ → Result (Unit {0}) SinkFault → K → Type 0) (limits : Limits) (ended : Option StreamEnding)
      (a b c d : Book) (i j : K) (w v : W) (halted : Bool) → StepsWithinLimits limits a b
      → Serves takes flushes limits ended b c i j → is_some ended ≡ false → Watches knows sees c d w halted v
      → Watches knows sees a d w halted v
  watches_shown takes flushes limits ended a b c d i j w v halted one two on three =
      watches-trans a c d w w v halted (two.besides.tables ∙ one.besides.tables)
      (watches_taken takes flushes limits None a b c i j w one (serves_on takes flushes limits ended b c i j on two))
      three

-- the same of the stream
pub goes_on_shown : {S K : Type 0} (gives : S → ℕ → Result (Option ℤ) SourceFault → S → Type 0)
    (looks : S → ℕ → S → Type 0) (at_hand : S → ℕ → Type 0)
    (takes : K → ℕ → ℤ → Result (Unit {0}) SinkFault → K → Type 0)
    (flushes : K → ℕ → Result (Unit {0}) SinkFault → K → Type 0) (limits : Limits) (ended shown : Option StreamEnding)
    (a b c d : Book) (s : S) (i j k : K) → StepsWithinLimits limits a b → Serves takes flushes limits ended b c i j
    → is_some ended ≡ false → AreTaken d.tables d.history → ServesOrHalts takes flushes limits shown c d j k
    → StreamGoesOn gives looks at_hand takes flushes limits shown a d s s i k
goes_on_shown gives looks at_hand takes flushes limits ended shown a b c d s i j k one two on taken three =
    goes_on-trans gives looks at_hand takes flushes limits shown a c d s s s i j k
    (taken_then gives looks at_hand takes flushes limits None a b c s i j one
    (serves_on takes flushes limits ended b c i j on two))
    (shown_goes_on gives looks at_hand takes flushes limits shown c d s j k taken three)

pub goes_on_still : {S K : Type 0} (gives : S → ℕ → Result (Option ℤ) SourceFault → S → Type 0)
    (looks : S → ℕ → S → Type 0) (at_hand : S → ℕ → Type 0)
    (takes : K → ℕ → ℤ → Result (Unit {0}) SinkFault → K → Type 0)
    (flushes : K → ℕ → Result (Unit {0}) SinkFault → K → Type 0) (limits : Limits) (ended : Option StreamEnding)
    (a b : Book) (s r : S) (i j : K) → is_some ended ≡ false
    → StreamGoesOn gives looks at_hand takes flushes limits ended a b s r i j
    → StreamGoesOn gives looks at_hand takes flushes limits None a b s r i j
goes_on_still gives looks at_hand takes flushes limits ended a b s r i j on is =
    subst (λ e. StreamGoesOn gives looks at_hand takes flushes limits e a b s r i j) (none_of ended on) is
