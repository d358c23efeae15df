-- Steps to a stop within those that are allowed, and that a history has one place for each process.
use Rattle.kpn_audit.proofs.Common.{◌≡◌, ◌≢◌, ℕ, zero, suc, ◌+◌, ◌-◌, ◌≤◌, Bool, true, false, nat_eq, List, [], ◌∷◌, refl, sym, ap, ◌∙◌, subst, arith, Tables, instance_at, program_of, Stop, Paused, Frame, start_frame, Step, Stops, Faults, Goes, step_of, Steps, StandsAt, IsBetween, stop_at, Steps-append, Event, Get, Put, is_of, IsFrameAfter, StopsWithin, GoesBy, ComesBy, IsPlaceAfter}
use Rattle.std.proofs.lemmas.Bool.{eqb-true, eq-eqb}
use Rattle.kpn_lang.specs.Syntax.{Statement}

-- ---- what the stop of a call says

-- if the stop is no pause, no step can be made
pub no_step : (x : Step) (used_up : Bool) (stop : Stop) → stop ≡ stop_at x used_up → stop ≢ Paused → (next : Frame)
    → x ≢ Goes next
no_step x used_up stop is no_pause next goes = no_pause (is ∙ ap (λ y. stop_at y used_up) goes)

-- nor would one come that faults, once the steps are used up
never_between : (x : Step) (stop : Stop) → stop ≡ stop_at x true → stop ≢ Paused → ¬ IsBetween x
never_between (Stops s) stop is no_pause between = between
never_between (Faults fault) stop is no_pause between = no_pause is
never_between (Goes g) stop is no_pause between = no_pause is

-- the steps of one call after those made before, by which a stop is reached
pub stops_within : (blocks : List (List Statement)) (quota remaining part made : ℕ) (f m g : Frame) (stop : Stop)
    → remaining ≤ quota → part ≤ remaining → made ≤ part
    → Steps blocks (quota - remaining) f m → Steps blocks made m g
    → StandsAt blocks g stop → stop ≡ stop_at (step_of blocks g) (nat_eq made part) → stop ≢ Paused
    → StopsWithin blocks quota f
stops_within blocks quota remaining part made f m g stop left few most before after stands is no_pause =
    record {
      steps = quota - remaining + made;
      most = omega arith;
      there = g;
      comes = record {
        reached = Steps-append blocks (quota - remaining) made f m g before after;
        stop = stop;
        stands = stands;
        is_no_pause = no_pause;
        ends = no_step (step_of blocks g) (nat_eq made part) stop is no_pause;
      };
      allowed = λ all.
          let same : made ≡ part = omega arith in
          never_between (step_of blocks g) stop
          (is ∙ ap (stop_at (step_of blocks g)) (eq-eqb made part same)) no_pause;
    }

-- ---- steps from one frame

same_next : (g h : Frame) → Goes g ≡ Goes h → g ≡ h
same_next g h e = cc

-- steps to where no further one can be made are no fewer than any others, and as many of them lead there too
stays : (blocks : List (List Statement)) (n m : ℕ) (f g h : Frame) → Steps blocks n f g
    → ((next : Frame) → step_of blocks g ≢ Goes next) → Steps blocks m f h → n ≤ m → (n ≡ m) × (h ≡ g)
stays blocks zero zero f g h s ends u few = (refl, u ∙ sym s)
stays blocks zero (suc m) f g h s ends u few = absurd (ends u.0 (ap (step_of blocks) s ∙ u.1))
stays blocks (suc n) zero f g h s ends u few = absurd (omega arith)
stays blocks (suc n) (suc m) f g h s ends u few =
    let same : u.0 ≡ s.0 = same_next u.0 s.0 (sym u.1 ∙ s.1) in
    let rest = stays blocks n m s.0 g h s.2 ends (subst (λ x. Steps blocks m x h) same u.2) (omega arith) in
    (ap suc rest.0, rest.1)

-- they lead to one frame
one_end : (blocks : List (List Statement)) (n m : ℕ) (f g h : Frame) → Steps blocks n f g
    → ((next : Frame) → step_of blocks g ≢ Goes next) → Steps blocks m f h
    → ((next : Frame) → step_of blocks h ≢ Goes next) → g ≡ h
one_end blocks zero zero f g h s ends u stops = s ∙ sym u
one_end blocks zero (suc m) f g h s ends u stops = absurd (ends u.0 (ap (step_of blocks) s ∙ u.1))
one_end blocks (suc n) zero f g h s ends u stops = absurd (stops s.0 (ap (step_of blocks) u ∙ s.1))
one_end blocks (suc n) (suc m) f g h s ends u stops =
    let same : u.0 ≡ s.0 = same_next u.0 s.0 (sym u.1 ∙ s.1) in
    one_end blocks n m s.0 g h s.2 ends (subst (λ x. Steps blocks m x h) same u.2) stops

-- a process that comes to a stop in time is not between two steps when they are used up
pub not_out_of_steps : (blocks : List (List Statement)) (quota : ℕ) (f h : Frame) → StopsWithin blocks quota f
    → Steps blocks quota f h → ¬ IsBetween (step_of blocks h)
not_out_of_steps blocks quota f h within u between =
    let all = stays blocks within.steps quota f within.there h within.comes.reached within.comes.ends u within.most in
    within.allowed all.0 (subst (λ x. IsBetween (step_of blocks x)) all.1 between)

-- ---- one place

one_after : (t : Tables) (e : Event) (p : ℕ) (there f g : Frame) → is_of p e ≡ true → IsFrameAfter t e p there f
    → IsFrameAfter t e p there g → f ≡ g
one_after t (Get q c v) p there f g own a b =
    let same = eqb-true q p own in
    let x = a.0 same in
    let y = b.0 same in
    x.passes x.port x.stood.0 x.stood.1.statement ∙ sym (y.passes x.port x.stood.0 x.stood.1.statement)
one_after t (Put q c v) p there f g own a b =
    let same = eqb-true q p own in (a.0 same).passes ∙ sym (b.0 same).passes
one_after t e p there f g own a b = a ∙ sym b

one_goes : (t : Tables) (p : ℕ) (e : Event) (f g h : Frame) → GoesBy t p e f g → GoesBy t p e f h → g ≡ h
one_goes t p e f g h a b = by_test (is_of p e) refl
  where
    by_test : (own : Bool) → is_of p e ≡ own → g ≡ h
    by_test true own =
        let x = a.own own in
        let y = b.own own in
        let there : x.there ≡ y.there =
        one_end (program_of t p).blocks x.steps y.steps f x.there y.there x.comes.reached x.comes.ends y.comes.reached
        y.comes.ends in
        one_after t e p y.there g h own (subst (λ z. IsFrameAfter t e p z g) there x.passes) y.passes
    by_test false other = a.other other ∙ sym (b.other other)

comes_to_one : (t : Tables) (p : ℕ) (H : List Event) (f g h : Frame) → ComesBy t p H f g → ComesBy t p H f h → g ≡ h
comes_to_one t p [] f g h a b = a ∙ sym b
comes_to_one t p (e ∷ H) f g h a b =
    let same : b.0 ≡ a.0 = one_goes t p e f b.0 a.0 b.1 a.1 in
    comes_to_one t p H a.0 g h a.2 (subst (λ x. ComesBy t p H x h) same b.2)

-- a history leads each process to one place
pub one_place : (t : Tables) (p : ℕ) (H : List Event) (f g : Frame) → IsPlaceAfter t H p f → IsPlaceAfter t H p g
    → f ≡ g
one_place t p H f g a b = comes_to_one t p H (start_frame (program_of t p) (instance_at t p).pars) f g a b
