-- An audit has one finding: events within their steps are none that is out of steps, and the first that is illegal is
-- one event.
use Rattle.kpn_audit.proofs.Common.{◌≡◌, ◌≢◌, inl, inr, ℕ, zero, suc, ◌<◌, ◌≤◌, List, [], ◌∷◌, length, take, Some, slice_get, refl, sym, ap, ◌∙◌, subst, arith, cases_order, IsPrefix, Tables, program_of, Event, CanGo, Legal, OwesNothing, Legal-prefix, AuditFault, StopsWithin, Scene, Elsewhere, IsWithinSteps, AreWithinSteps, IsOutOfSteps, IsIllegalAt, IsBudgetAt, ComesInTime, IsFault, IsScene, IsSceneAt}
use Rattle.std.proofs.lemmas.Option.{slice_get_within}
use Rattle.kpn_audit.specs.declared.findings.AuditFault.TheVariants.{Illegal, NoMemory, Budget, PolicyDiffers}
use Rattle.kpn_audit.specs.declared.scene.Scene.TheVariants.{Process}
use Rattle.kpn_audit.proofs.InTime.{one_place, not_out_of_steps}

begins : (H : List Event) (n m : ℕ) → n ≤ m → IsPrefix (take n H) (take m H)
begins H zero m few = tt
begins [] (suc n) m few = tt
begins (x ∷ H) (suc n) zero few = absurd (omega arith)
begins (x ∷ H) (suc n) (suc m) few = (refl, begins H n m (omega arith))

module _ (t : Tables) (H : List Event) (quota : ℕ) where
  -- an event within its steps is not out of them
  enough : (n k : ℕ) → AreWithinSteps t H quota n → k < n → IsBudgetAt t H quota k → ⊥
  enough n k within below at =
      let out = at.out_of_steps in
      let p = out.process in
      let comes = within k below at.event p at.there out.own out.numbers at.nothing_owed out.can_go in
      let same = one_place t p (take k H) comes.place out.place comes.is_place out.is_place in
      not_out_of_steps (program_of t p).blocks quota out.place out.reached
      (subst (λ x. StopsWithin (program_of t p).blocks quota x) same comes.stops) out.steps out.between

  -- nothing is legal that goes beyond an illegal event
  no_further : (k j : ℕ) → IsIllegalAt t H k → k < j → Legal t (take j H) → ⊥
  no_further k j at less legal =
      at.ends (Legal-prefix t (take (suc k) H) (take j H) (begins H (suc k) j (omega arith)) legal)

  -- two faults at places that exclude one another but for one
  at_one : (k j : ℕ) → ¬ (k < j) → ¬ (j < k) → k ≡ j
  at_one k j a b =
      elim (cases_order k j) [
        | inl same ↦ same
        | inr (inl less) ↦ absurd (a less)
        | inr (inr more) ↦ absurd (b more)
      ]

  never : (k j : ℕ) → IsIllegalAt t H k → AreWithinSteps t H quota (suc k) → IsBudgetAt t H quota j → ⊥
  never k j illegal within budget =
      elim (cases_order k j) [
        | inl same ↦ enough (suc k) j within (omega (arith, same)) budget
        | inr (inl less) ↦ no_further k j illegal less budget.before
        | inr (inr more) ↦ enough (suc k) j within (omega (arith, more)) budget
      ]

  pub one_fault : (a b : AuditFault) → IsFault t H quota a → IsFault t H quota b → a ≢ NoMemory → b ≢ NoMemory → a ≡ b
  one_fault NoMemory b x y first second = absurd (first refl)
  one_fault a NoMemory x y first second = absurd (second refl)
  one_fault PolicyDiffers b x y first second = absurd x
  one_fault a PolicyDiffers x y first second = absurd y
  one_fault (Illegal k) (Illegal j) x y first second =
      ap Illegal (at_one k j (λ less. no_further k j x.0 less y.0.before) (λ less. no_further j k y.0 less x.0.before))
  one_fault (Illegal k) (Budget j) x y first second = absurd (never k j x.0 x.1 y.0)
  one_fault (Budget k) (Illegal j) x y first second = absurd (never j k y.0 y.1 x.0)
  one_fault (Budget k) (Budget j) x y first second =
      ap Budget (at_one k j (λ less. enough j k y.1 less x.0) (λ less. enough k j x.1 less y.0))

  -- the process of an event within its steps is not out of them
  not_out : (k : ℕ) (event : Event) → IsWithinSteps t H quota k → slice_get H k ≡ Some event
      → OwesNothing t (take k H) → IsOutOfSteps t (take k H) event quota → ⊥
  not_out k event within there owes out =
      let p = out.process in
      let comes = within event p there out.own out.numbers owes out.can_go in
      let same = one_place t p (take k H) comes.place out.place comes.is_place out.is_place in
      not_out_of_steps (program_of t p).blocks quota out.place out.reached
      (subst (λ x. StopsWithin (program_of t p).blocks quota x) same comes.stops) out.steps out.between

  -- its process is not elsewhere
  pub not_elsewhere : (k : ℕ) → IsFault t H quota (Illegal k) → (scene : Scene) → IsSceneAt t H k quota scene → (p : ℕ)
      → scene ≢ Process p Elsewhere
  not_elsewhere k at scene stands p is =
      let seen = subst (IsScene t (take k H) stands.event quota) is stands.is_scene in
      not_out k stands.event (at.1 k (omega arith)) stands.there seen.by_itself.nothing_owed seen.is_doing

  -- if the whole list is legal and within its steps, no event is at fault
  pub no_fault : (fault : AuditFault) → Legal t H → AreWithinSteps t H quota (length H) → IsFault t H quota fault
      → fault ≡ NoMemory
  no_fault (Illegal k) legal within x =
      absurd (x.0.ends (Legal-prefix t (take (suc k) H) H (whole H (suc k)) legal))
    where
      whole : (H : List Event) (n : ℕ) → IsPrefix (take n H) H
      whole H zero = tt
      whole [] (suc n) = tt
      whole (y ∷ H) (suc n) = (refl, whole H n)
  no_fault NoMemory legal within x = refl
  no_fault PolicyDiffers legal within x = absurd x
  no_fault (Budget k) legal within x =
      absurd (enough (length H) k within (slice_get_within H k x.0.event x.0.there) x.0)

-- ---- the events before an illegal one

-- the first of the first
take-take : (H : List Event) (j k : ℕ) → j ≤ k → take j (take k H) ≡ take j H
take-take H zero k few = refl
take-take [] (suc j) zero few = absurd (omega arith)
take-take [] (suc j) (suc k) few = refl
take-take (x ∷ H) (suc j) zero few = absurd (omega arith)
take-take (x ∷ H) (suc j) (suc k) few = ap (λ xs. x ∷ xs) (take-take H j k (omega arith))

-- an event of the first
slice_get-take : (H : List Event) (j k : ℕ) → j < k → slice_get (take k H) j ≡ slice_get H j
slice_get-take H j zero less = absurd (omega arith)
slice_get-take [] j (suc k) less = refl
slice_get-take (x ∷ H) zero (suc k) less = refl
slice_get-take (x ∷ H) (suc j) (suc k) less = slice_get-take H j k (omega arith)

length-take-le : (H : List Event) (k : ℕ) → length (take k H) ≤ k
length-take-le H zero = omega arith
length-take-le [] (suc k) = omega arith
length-take-le (x ∷ H) (suc k) = let rest = length-take-le H k in omega (arith, rest)

module _ (t : Tables) (H : List Event) (quota k : ℕ) where
  -- an event before this one that is within its steps is so in the shorter list
  within_before : (j : ℕ) → j < k → IsWithinSteps t H quota j → IsWithinSteps t (take k H) quota j
  within_before j less within event p there own numbers owes go =
      let same = take-take H j k (omega arith) in
      let comes =
      within event p (sym (slice_get-take H j k less) ∙ there) own numbers
      (subst (λ B. OwesNothing t B) same owes) (subst (λ B. CanGo t B p) same go) in
      subst (λ B. ComesInTime t B quota p) (sym same) comes

  -- they have no fault but want of memory
  pub no_fault_before : IsFault t H quota (Illegal k) → (fault : AuditFault) → IsFault t (take k H) quota fault
      → fault ≡ NoMemory
  no_fault_before at fault before =
      no_fault t (take k H) quota fault at.0.before
      (λ j less.
      let few = length-take-le H k in
      within_before j (omega (arith, less, few)) (at.1 j (omega (arith, less, few)))) before
