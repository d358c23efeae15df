-- How many steps the built-in processes make on a list of items.
use Rattle.kpn_commands.proofs.Common.{◌≡◌, ℕ, zero, suc, ◌+◌, ◌*◌, ◌≤◌, ℤ, List, [], ◌∷◌, length, Result, Ok, Err, Some, refl, ap, sym, arith, slice_set, Fault, Said, Got, Put, Read, Lists, list_at, start_of, Done, Faulted, Starved, Paused, Speaks, Walks, BuiltIn, Copy, Double, Sum, built_in_program, IsNeverPaused}
use Rattle.kpn_step.specs.declared.stop.Stop.{Stop}
use Rattle.kpn_step.specs.declared.stop.Stop.TheVariants.{WantWrite}
use Rattle.kpn_step.specs.Frame.{Frame}
use Rattle.kpn_step.specs.Step.{Stops, Goes, step_of, tested, written, Steps}

-- a frame in the body, before the loop's test
abbrev outside : List ℤ → Frame
outside variables = record { outer = []; inner = record { block = 0; place = 0 }; variables = variables }

-- a frame in the loop, after this many of its statements
abbrev inside : ℕ → List ℤ → Frame
inside place variables =
    record {
      outer = record { block = 0; place = 0 } ∷ [];
      inner = record { block = 1; place = place };
      variables = variables;
    }

-- where a process can be, and how many steps it makes from there to its next read
data Stands : BuiltIn → Frame → ℕ → Type 0 where
  at_test : (process : BuiltIn) (variables : List ℤ) → Stands process (outside variables) 1
  at_read : (process : BuiltIn) (variables : List ℤ) → Stands process (inside 0 variables) 0
  copy_writes : (variables : List ℤ) → Stands Copy (inside 1 variables) 2
  copy_leaves : (variables : List ℤ) → Stands Copy (inside 2 variables) 2
  double_writes : (variables : List ℤ) → Stands Double (inside 1 variables) 2
  double_leaves : (variables : List ℤ) → Stands Double (inside 2 variables) 2
  sum_adds : (variables : List ℤ) → Stands Sum (inside 1 variables) 3
  sum_writes : (variables : List ℤ) → Stands Sum (inside 2 variables) 2
  sum_leaves : (variables : List ℤ) → Stands Sum (inside 3 variables) 2

-- a write is no step
no_step : (port : ℕ) (r : Result ℤ Fault) (g : Frame) → written port r ≡ Goes g → ⊥
no_step port (Ok v) g e = cc
no_step port (Err fault) g e = cc

-- an assignment is no stop, and its step goes on with the value
no_stop : (r : Result ℤ Fault) (go : ℤ → Frame) (stop : Stop) → tested r (λ v. Goes (go v)) ≡ Stops stop → ⊥
no_stop (Ok v) go stop e = cc
no_stop (Err fault) go stop e = cc

goes_with : (r : Result ℤ Fault) (go : ℤ → Frame) (g : Frame) → tested r (λ v. Goes (go v)) ≡ Goes g
    → (v : ℤ) × (g ≡ go v)
goes_with (Ok v) go g e = (v, cc)
goes_with (Err fault) go g e = absurd (cc)

-- where it is after a step
record StandsAfter (process : BuiltIn) (g : Frame) (before : ℕ) : Type 0 where
  steps : ℕ
  stands : Stands process g steps
  fewer : before ≡ steps + 1

moves_to : (process : BuiltIn) (f g : Frame) (steps : ℕ) → Goes f ≡ Goes g → Stands process f steps
    → StandsAfter process g (steps + 1)
moves_to process f g steps e stands = let same : f ≡ g =
    cc in record { steps = steps; stands = rw same at stands; fewer = refl }

step : (process : BuiltIn) (f g : Frame) (before : ℕ) → Stands process f before
    → step_of (built_in_program process).blocks f ≡ Goes g → StandsAfter process g before
step process f g before (at_test Copy vs) e = moves_to Copy (inside 0 vs) g 0 e (at_read Copy vs)
step process f g before (at_test Double vs) e = moves_to Double (inside 0 vs) g 0 e (at_read Double vs)
step process f g before (at_test Sum vs) e = moves_to Sum (inside 0 vs) g 0 e (at_read Sum vs)
step process f g before (at_read Copy vs) e = absurd (cc)
step process f g before (at_read Double vs) e = absurd (cc)
step process f g before (at_read Sum vs) e = absurd (cc)
step process f g before (copy_writes vs) e = absurd (cc)
step process f g before (copy_leaves vs) e = moves_to Copy (outside vs) g 1 e (at_test Copy vs)
step process f g before (double_writes vs) e = absurd (no_step 0 _ g e)
step process f g before (double_leaves vs) e = moves_to Double (outside vs) g 1 e (at_test Double vs)
step process f g before (sum_adds vs) e =
    let gone = goes_with _ (λ v. inside 2 (slice_set vs 1 v)) g e in
    record { steps = 2; stands = rw gone.1 (sum_writes (slice_set vs 1 gone.0)); fewer = refl }
step process f g before (sum_writes vs) e = absurd (cc)
step process f g before (sum_leaves vs) e = moves_to Sum (outside vs) g 1 e (at_test Sum vs)

steps_to : (process : BuiltIn) (k : ℕ) (f g : Frame) (before : ℕ) → Steps (built_in_program process).blocks k f g
    → Stands process f before → (after : ℕ) × Stands process g after × (before ≡ after + k)
steps_to process zero f g before same stands = (before, rw (sym same) at stands, omega arith)
steps_to process (suc k) f g before made stands =
    let first = step process f made.0 before stands made.1 in
    let rest = steps_to process k made.0 g first.steps made.2 first.stands in
    (rest.0, rest.1, omega (arith, first.fewer, rest.2))

-- where it is after one thing is said, and what is left then
record StandsOn (process : BuiltIn) (g : Frame) (rest : Lists) (budget : ℕ) : Type 0 where
  items : List ℤ
  steps : ℕ
  stands : Stands process g steps
  left : rest ≡ items ∷ []
  enough : 3 * length items + steps ≤ budget

-- an item is got: the read was the one of the loop
gets : (process : BuiltIn) (vs items : List ℤ) (v : ℤ) (g : Frame) (rest : Lists) (budget port variable : ℕ)
    (left : List ℤ) (steps : ℕ) → Stands process (inside 1 (slice_set vs 0 v)) steps → steps ≤ 3 → port ≡ 0
    → variable ≡ 0 → 3 * length (v ∷ left) ≤ budget
    → g ≡ inside 1 (slice_set vs variable v) → rest ≡ slice_set (items ∷ []) port left
    → StandsOn process g rest budget
gets process vs items v g rest budget port variable left steps stands few at_port at_variable enough to remains =
    record {
      items = left;
      steps = steps;
      stands = rw (to, at_variable) stands;
      left = rw (remains, at_port) refl;
      enough = omega arith;
    }

-- an item is put: it is past the write
puts : (process : BuiltIn) (vs items : List ℤ) (place : ℕ) (g : Frame) (rest : Lists) (steps : ℕ)
    → Stands process (inside place vs) steps → g ≡ inside place vs → rest ≡ items ∷ []
    → StandsOn process g rest (3 * length items + steps)
puts process vs items place g rest steps stands to remains =
    record { items = items; steps = steps; stands = rw to stands; left = remains; enough = omega arith }

-- at the read of the loop
reads : (process : BuiltIn) (vs items : List ℤ) (v : ℤ) (g : Frame) (rest : Lists) (port variable : ℕ) (left : List ℤ)
    (steps : ℕ) → Stands process (inside 1 (slice_set vs 0 v)) steps → steps ≤ 3
    → Some (Read 0 0) ≡ Some (Read port variable) → list_at (items ∷ []) port ≡ v ∷ left
    → g ≡ inside 1 (slice_set vs variable v) → rest ≡ slice_set (items ∷ []) port left
    → StandsOn process g rest (3 * length items + 0)
reads process vs items v g rest port variable left steps stands few read found to remains =
    let at_port : port ≡ 0 = cc in
    let at_variable : variable ≡ 0 = cc in
    let first : items ≡ v ∷ left = rw at_port at found in
    let longer : length items ≡ suc (length left) = ap length first in
    gets process vs items v g rest (3 * length items + 0) port variable left steps stands few at_port at_variable
    (omega arith) to remains

speaks : (process : BuiltIn) (f g : Frame) (items : List ℤ) (rest : Lists) (said : Said) (before : ℕ)
    → Stands process f before → Speaks (built_in_program process).blocks f (items ∷ []) said g rest
    → StandsOn process g rest (3 * length items + before)
speaks process f g items rest (Got port v) before (at_test Copy vs) s = let e = s.2 in absurd (cc)
speaks process f g items rest (Got port v) before (at_test Double vs) s = let e = s.2 in absurd (cc)
speaks process f g items rest (Got port v) before (at_test Sum vs) s = let e = s.2 in absurd (cc)
speaks process f g items rest (Got port v) before (at_read Copy vs) s =
    reads Copy vs items v g rest port s.0 s.1 2 (copy_writes (slice_set vs 0 v)) (omega arith) s.2 s.3 s.4 s.5
speaks process f g items rest (Got port v) before (at_read Double vs) s =
    reads Double vs items v g rest port s.0 s.1 2 (double_writes (slice_set vs 0 v)) (omega arith) s.2 s.3 s.4 s.5
speaks process f g items rest (Got port v) before (at_read Sum vs) s =
    reads Sum vs items v g rest port s.0 s.1 3 (sum_adds (slice_set vs 0 v)) (omega arith) s.2 s.3 s.4 s.5
speaks process f g items rest (Got port v) before (copy_writes vs) s = let e = s.2 in absurd (cc)
speaks process f g items rest (Got port v) before (copy_leaves vs) s = let e = s.2 in absurd (cc)
speaks process f g items rest (Got port v) before (double_writes vs) s = let e = s.2 in absurd (cc)
speaks process f g items rest (Got port v) before (double_leaves vs) s = let e = s.2 in absurd (cc)
speaks process f g items rest (Got port v) before (sum_adds vs) s = let e = s.2 in absurd (cc)
speaks process f g items rest (Got port v) before (sum_writes vs) s = let e = s.2 in absurd (cc)
speaks process f g items rest (Got port v) before (sum_leaves vs) s = let e = s.2 in absurd (cc)
speaks process f g items rest (Put port v) before (at_test Copy vs) s = let e = s.0 in absurd (cc)
speaks process f g items rest (Put port v) before (at_test Double vs) s = let e = s.0 in absurd (cc)
speaks process f g items rest (Put port v) before (at_test Sum vs) s = let e = s.0 in absurd (cc)
speaks process f g items rest (Put port v) before (at_read Copy vs) s = let e = s.0 in absurd (cc)
speaks process f g items rest (Put port v) before (at_read Double vs) s = let e = s.0 in absurd (cc)
speaks process f g items rest (Put port v) before (at_read Sum vs) s = let e = s.0 in absurd (cc)
speaks process f g items rest (Put port v) before (copy_writes vs) s =
    puts Copy vs items 2 g rest 2 (copy_leaves vs) s.1 s.2
speaks process f g items rest (Put port v) before (copy_leaves vs) s = let e = s.0 in absurd (cc)
speaks process f g items rest (Put port v) before (double_writes vs) s =
    puts Double vs items 2 g rest 2 (double_leaves vs) s.1 s.2
speaks process f g items rest (Put port v) before (double_leaves vs) s = let e = s.0 in absurd (cc)
speaks process f g items rest (Put port v) before (sum_adds vs) s =
    absurd (no_stop _ (λ v. inside 2 (slice_set vs 1 v)) (WantWrite port v) s.0)
speaks process f g items rest (Put port v) before (sum_writes vs) s =
    puts Sum vs items 3 g rest 2 (sum_leaves vs) s.1 s.2
speaks process f g items rest (Put port v) before (sum_leaves vs) s = let e = s.0 in absurd (cc)

walks : (process : BuiltIn) (talk : List Said) (k : ℕ) (f g : Frame) (items : List ℤ) (rest : Lists) (before : ℕ)
    → Stands process f before → Walks (built_in_program process).blocks k f (items ∷ []) talk g rest
    → k ≤ 3 * length items + before
walks process [] k f g items rest before stands walk =
    let done = steps_to process k f g before walk.0 stands in omega (arith, done.2)
walks process (said ∷ talk) k f g items rest before stands walk =
    let here = steps_to process walk.0 f walk.2 before walk.6 stands in
    let on = speaks process walk.2 walk.3 items walk.4 said here.0 here.1 walk.7 in
    let further = walks process talk walk.1 walk.3 g on.items rest on.steps on.stands (rw on.left at walk.8) in
    omega (arith, walk.5, here.2, on.enough, further)

pub never_paused : IsNeverPaused
never_paused process items quota talk Paused gives enough paused =
    let most =
    walks process talk gives.steps (outside (start_of (built_in_program process) [])) gives.to items gives.rest 1
    (at_test process (start_of (built_in_program process) [])) gives.walk in
    omega (arith, most, gives.outcome.2)
never_paused process items quota talk Done gives enough paused = cc
never_paused process items quota talk (Faulted fault) gives enough paused = cc
never_paused process items quota talk (Starved port) gives enough paused = cc
