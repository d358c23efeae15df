-- A list of events, one after another.
use Rattle.kpn_audit.proofs.Common.{◌≡◌, ◌≢◌, inl, inr, Result, Ok, ℕ, zero, suc, ◌+◌, ◌<◌, true, List, [], ◌∷◌, ◌++◌, length, take, get_or, Option, Some, None, slice_get, refl, sym, ap, ◌∙◌, subst, add-one, suc-add, arith, cases_order, eqb-true, false≢true, IsPrefix, Tables, instance_at, program_of, IsNetwork, Frame, start_frame, step_of, Steps, IsBetween, Event, Get, Put, WaitEmpty, WaitFull, Ended, is_of, HasNumbers, Legal, OwesNothing, Legal-prefix, Machine, frame_in, IsFree, IsRun, may_go, free_there, OwedGrowth, Judged, GoesBy, ComesBy, ArePlaces, Owes, IsInTime, IsJudged, IsWithinSteps, AreWithinSteps, IsIllegalAt, IsOutOfSteps, IsBudgetAt}
use Rattle.kpn_audit.specs.declared.judged.Judged.TheVariants.{Follows, Illegal, Budget}

-- the events before one, and it
pub one_event_more : (H : List Event) (k : ℕ) (e d : Event) → k < length H → e ≡ get_or H k d
    → take (k + 1) H ≡ take k H ++ e ∷ []
one_event_more (x ∷ H) zero e d below is = ap (λ y. y ∷ []) (sym is)
one_event_more (x ∷ H) (suc k) e d below is =
    ap (λ n. take n (x ∷ H)) (suc-add k 1) ∙ ap (λ xs. x ∷ xs) (one_event_more H k e d (omega arith) is)
one_event_more [] k e d below is = absurd (omega arith)

-- the event at a place
pub event_at : (H : List Event) (k : ℕ) (e d : Event) → k < length H → e ≡ get_or H k d → slice_get H k ≡ Some e
event_at (x ∷ H) zero e d below is = ap Some (sym is)
event_at (x ∷ H) (suc k) e d below is = event_at H k e d (omega arith) is
event_at [] k e d below is = absurd (omega arith)

-- what the loop over the events keeps, after n of them
pub record IsReplayed (t : Tables) (H : List Event) (quota n : ℕ) (s : Machine) (owed : Option OwedGrowth)
    : Type 0 where
  pub run : IsRun t (take n H) s
  pub owes : Owes t (take n H) s owed
  pub places : ArePlaces t (take n H) s
  pub within : AreWithinSteps t H quota n

-- event k, and what it was judged to be
pub record IsJudgedAt (t : Tables) (H : List Event) (quota k : ℕ) (s after : Machine) (judged : Judged)
    : Type 0 where
  pub owed : Option OwedGrowth
  pub before : IsReplayed t H quota k s owed
  pub event : Event
  pub other : Event
  pub there : k < length H
  pub is : event ≡ get_or H k other
  pub found : IsJudged t (take k H) event quota s after judged
  pub in_time : owed ≡ None → judged ≢ Budget → IsInTime t s quota event

-- where this leads
abbrev pub LeadsTo : Tables → List Event → (quota k : ℕ) → Machine → Judged → Type 0
LeadsTo t H quota k after (Follows owed) = IsReplayed t H quota (k + 1) after owed
LeadsTo t H quota k after Illegal = IsIllegalAt t H k × AreWithinSteps t H quota (suc k)
LeadsTo t H quota k after Budget = IsBudgetAt t H quota k × AreWithinSteps t H quota k

-- one event more
comes_more : (t : Tables) (p : ℕ) (H : List Event) (e : Event) (f g h : Frame) → ComesBy t p H f g → GoesBy t p e g h
    → ComesBy t p (H ++ e ∷ []) f h
comes_more t p [] e f g h comes goes = (h, subst (λ x. GoesBy t p e x h) comes goes, refl)
comes_more t p (x ∷ H) e f g h comes goes =
    (comes.0, comes.1, comes_more t p H e comes.0 g h comes.2 goes)

-- a free process that is between two steps once they are used up
pub out_of_steps : (t : Tables) → IsNetwork t → (H : List Event) (s : Machine) → IsRun t H s → OwesNothing t H
    → ArePlaces t H s → (event : Event) (quota p : ℕ) → p < length t.instances → is_of p event ≡ true
    → HasNumbers t event → IsFree s p → (reached : Frame)
    → Steps (program_of t p).blocks quota (frame_in s p) reached
    → IsBetween (step_of (program_of t p).blocks reached) → IsOutOfSteps t H event quota
out_of_steps t network H s run owes places event quota p there own numbers free reached steps between =
    record {
      process = p;
      own = own;
      numbers = numbers;
      can_go = may_go t network H s run owes p there free;
      place = frame_in s p;
      is_place = places p there;
      stands = run.leads.frames p there;
      reached = reached;
      steps = steps;
      between = between;
    }

-- ---- within the steps

-- the process of an event is one of the network
process_there : (t : Tables) (e : Event) (p : ℕ) → is_of p e ≡ true → HasNumbers t e → p < length t.instances
process_there t (Get q c v) p own numbers = subst (λ x. x < length t.instances) (eqb-true q p own) numbers.0
process_there t (Put q c v) p own numbers = subst (λ x. x < length t.instances) (eqb-true q p own) numbers.0
process_there t (WaitEmpty q c) p own numbers = subst (λ x. x < length t.instances) (eqb-true q p own) numbers.0
process_there t (WaitFull q c) p own numbers = subst (λ x. x < length t.instances) (eqb-true q p own) numbers.0
process_there t (Ended q how) p own numbers = subst (λ x. x < length t.instances) (eqb-true q p own) numbers
process_there t e p own numbers = absurd (false≢true own)

-- what owes nothing has no growth beside it
nothing_kept : (t : Tables) (H : List Event) (s : Machine) (owed : Option OwedGrowth) → Owes t H s owed
    → OwesNothing t H → owed ≡ None
nothing_kept t H s None owes nothing = refl
nothing_kept t H s (Some growth) owes nothing = absurd (nothing growth.process growth.channel owes.owed)

same_event : (o : Option Event) (e f : Event) → o ≡ Some e → o ≡ Some f → e ≡ f
same_event o e f a b = let g : ◌≡◌ {A = Option Event} (Some e) (Some f) = sym a ∙ b in cc

-- the event that was judged in time is within its steps
within_at : (t : Tables) (H : List Event) (quota k : ℕ) (e d : Event) (s : Machine) (owed : Option OwedGrowth)
    → IsRun t (take k H) s → Owes t (take k H) s owed → ArePlaces t (take k H) s → k < length H → e ≡ get_or H k d
    → (owed ≡ None → IsInTime t s quota e) → IsWithinSteps t H quota k
within_at t H quota k e d s owed run owes places below is in_time event p at own numbers nothing go =
    let same = same_event (slice_get H k) event e at (event_at H k e d below is) in
    let there = process_there t event p own numbers in
    record {
      place = frame_in s p;
      is_place = places p there;
      stops =
          in_time (nothing_kept t (take k H) s owed owes nothing) p (subst (λ x. is_of p x ≡ true) same own)
          (subst (λ x. HasNumbers t x) same numbers) (free_there t (take k H) s run p there go);
    }

pub none_within : (t : Tables) (H : List Event) (quota : ℕ) → AreWithinSteps t H quota 0
none_within t H quota k below = absurd (omega (arith, below))

within_more : (t : Tables) (H : List Event) (quota k : ℕ) (e d : Event) (s : Machine)
    (owed : Option OwedGrowth)
    → IsRun t (take k H) s → Owes t (take k H) s owed → ArePlaces t (take k H) s → k < length H → e ≡ get_or H k d
    → (owed ≡ None → IsInTime t s quota e) → AreWithinSteps t H quota k → AreWithinSteps t H quota (suc k)
within_more t H quota k e d s owed run owes places below is in_time within j less =
    elim (cases_order j k) [
      | inl same ↦ subst (λ n. IsWithinSteps t H quota n) (sym same)
          (within_at t H quota k e d s owed run owes places below is in_time)
      | inr (inl earlier) ↦ within j earlier
      | inr (inr later) ↦ absurd (omega (arith, less, later))
    ]

-- ---- where a judged event leads

pub ok_apart : {E : Type 0} (j k : Judged) → j ≢ k → ◌≢◌ {A = Result Judged E} (Ok j) (Ok k)
ok_apart j k differ e = let same : j ≡ k = cc in differ same

module _ (t : Tables) (H : List Event) (quota k : ℕ) (s after : Machine) where
  with_it : (j : Judged) (at : IsJudgedAt t H quota k s after j) → take (k + 1) H ≡ take k H ++ at.event ∷ []
  with_it j at = one_event_more H k at.event at.other at.there at.is

  one_more_within : (j : Judged) → IsJudgedAt t H quota k s after j → j ≢ Budget → AreWithinSteps t H quota (suc k)
  one_more_within j at enough =
      within_more t H quota k at.event at.other s at.owed at.before.run at.before.owes at.before.places at.there at.is
      (λ none. at.in_time none enough) at.before.within

  pub leads_to : (j : Judged) → IsNetwork t → IsJudgedAt t H quota k s after j → LeadsTo t H quota k after j
  leads_to (Follows owed) network at =
      let all = sym (with_it (Follows owed) at) in
      record {
        run = subst (λ B. IsRun t B after) all at.found.run;
        owes = subst (λ B. Owes t B after owed) all at.found.owes;
        places =
            subst (λ B. ArePlaces t B after) all
            (λ p there. comes_more t p (take k H) at.event (start_frame (program_of t p) (instance_at t p).pars)
            (frame_in s p) (frame_in after p) (at.before.places p there) (at.found.goes p there));
        within =
            subst (λ n. AreWithinSteps t H quota n) (sym (add-one k))
            (one_more_within (Follows owed) at (λ e. absurd cc));
      }
  leads_to Illegal network at = (
    record {
      there = at.there;
      before = at.before.run.legal;
      ends =
          subst (λ B. ¬ Legal t B) (sym (ap (λ n. take n H) (sym (add-one k)) ∙ with_it Illegal at)) at.found;
    },
    one_more_within Illegal at (λ e. absurd cc),
  )
  leads_to Budget network at =
      let out = at.found.1 in (
        record {
          event = at.event;
          there = event_at H k at.event at.other at.there at.is;
          before = at.before.run.legal;
          nothing_owed = at.found.0;
          out_of_steps =
              out_of_steps t network (take k H) s at.before.run at.found.0 at.before.places at.event quota out.process
              out.there out.own out.numbers out.free out.reached out.steps out.between;
        },
        at.before.within,
      )

-- a legal list has no event that is illegal
prefix_of : (H : List Event) (n : ℕ) → IsPrefix (take n H) H
prefix_of H zero = tt
prefix_of [] (suc n) = tt
prefix_of (x ∷ H) (suc n) = (refl, prefix_of H n)

pub never_illegal : (t : Tables) (H : List Event) (k : ℕ) → Legal t H → IsIllegalAt t H k → ⊥
never_illegal t H k legal at = at.ends (Legal-prefix t (take (suc k) H) H (prefix_of H (suc k)) legal)
