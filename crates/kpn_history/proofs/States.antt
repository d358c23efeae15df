-- The state of a process. It has stopped if its process has ended or is blocked, and it is one except for ready and
-- held.
use Rattle.kpn_history.proofs.Common.{◌≡◌, ◌↔◌, ◌⊎◌, ℕ, zero, suc, ◌<◌, true, false, cond, List, [], ◌∷◌, length, get_or, count_by, refl, sym, ap, ◌∙◌, inl, inr, arith, both_ways, false≢true, sum_by-cons, Wait, Nobody, Empty, Full, Tables, Event, How, State, View, has_ended, wait_of, HasStopped, HaveStopped, IsStateOf, is_stopped, is_ready, is_held, Agrees, Legal}
use Rattle.kpn_history.specs.declared.state.State.TheVariants.{Ready, Held, WaitsEmpty, WaitsFull, Ended}
use Rattle.kpn_history.proofs.EndsOnce.{ended_by, ends_one_way}

-- ---- a state that has stopped

goes_on : (t : Tables) (H : List Event) (p : ℕ) → has_ended H p ≡ false → wait_of t H p ≡ Nobody → HasStopped t H p
    → ⊥
goes_on t H p lives free stopped =
    elim stopped [
      | inl ended ↦ both_ways (has_ended H p) lives ended
      | inr waits ↦ elim waits [
        | inl empty ↦ let clash : Nobody ≡ Empty empty.channel = sym free ∙ empty.blocked in cc
        | inr full ↦ let clash : Nobody ≡ Full full.channel = sym free ∙ full.blocked in cc
      ]
    ]

pub stopped_state : (t : Tables) (H : List Event) (p : ℕ) (s : State) → IsStateOf t H p s
    → (is_stopped s ≡ true) ↔ HasStopped t H p
stopped_state t H p Ready is = (λ e. absurd (false≢true e), λ stopped. absurd (goes_on t H p is.0 is.1 stopped))
stopped_state t H p Held is = (λ e. absurd (false≢true e), λ stopped. absurd (goes_on t H p is.0 is.1 stopped))
stopped_state t H p (WaitsEmpty c) is = (λ e. inr (inl (record { channel = c; blocked = is.1 })), λ stopped. refl)
stopped_state t H p (WaitsFull c) is = (λ e. inr (inr (record { channel = c; blocked = is.1 })), λ stopped. refl)
stopped_state t H p (Ended how) is = (λ e. inl (ended_by H p how is), λ stopped. refl)

-- ---- the states of a view

pub stopped_states : {A : Type 0} (t : Tables) (H : List Event) (view : View A) → Agrees t H view
    → HaveStopped t H ↔ ((p : ℕ) → p < length t.instances → is_stopped (get_or view.states p Ready) ≡ true)
stopped_states t H view agrees = (
  λ stopped p below. (stopped_state t H p _ (agrees.states p below)).1 (stopped p below),
  λ stopped p below. (stopped_state t H p _ (agrees.states p below)).0 (stopped p below),
)

stopped_is_not_ready : (s : State) → is_stopped s ≡ true → (is_ready s ≡ false) × (is_held s ≡ false)
stopped_is_not_ready Ready is = absurd (false≢true is)
stopped_is_not_ready Held is = absurd (false≢true is)
stopped_is_not_ready state is = (refl, refl)

stopped_if_not_ready : (s : State) → cond {A = ℕ} (is_ready s) 1 0 ≡ 0 → cond {A = ℕ} (is_held s) 1 0 ≡ 0
    → is_stopped s ≡ true
stopped_if_not_ready Ready ready held = absurd (omega arith)
stopped_if_not_ready Held ready held = absurd (omega arith)
stopped_if_not_ready state ready held = refl

none_ready : (xs : List State) → ((p : ℕ) → p < length xs → is_stopped (get_or xs p Ready) ≡ true)
    → (count_by is_ready xs ≡ 0) × (count_by is_held xs ≡ 0)
none_ready [] stopped = (refl, refl)
none_ready (s ∷ xs) stopped =
    let here = stopped_is_not_ready s (stopped 0 (omega arith)) in
    let rest = none_ready xs (λ p below. stopped (suc p) (omega arith)) in
    let ready : cond {A = ℕ} (is_ready s) 1 0 ≡ 0 = ap (λ b. cond b 1 0) here.0 in
    let held : cond {A = ℕ} (is_held s) 1 0 ≡ 0 = ap (λ b. cond b 1 0) here.1 in
    let ready_rest = rest.0 in
    let held_rest = rest.1 in (
      sum_by-cons (λ x. cond (is_ready x) 1 0) s xs ∙ omega arith,
      sum_by-cons (λ x. cond (is_held x) 1 0) s xs ∙ omega arith,
    )

all_stopped : (xs : List State) → count_by is_ready xs ≡ 0 → count_by is_held xs ≡ 0 → (p : ℕ) → p < length xs
    → is_stopped (get_or xs p Ready) ≡ true
all_stopped [] ready held p below = absurd (omega arith)
all_stopped (s ∷ xs) ready held zero below =
    let r = sum_by-cons (λ x. cond (is_ready x) 1 0) s xs in
    let h = sum_by-cons (λ x. cond (is_held x) 1 0) s xs in
    stopped_if_not_ready s (omega arith) (omega arith)
all_stopped (s ∷ xs) ready held (suc p) below =
    let r = sum_by-cons (λ x. cond (is_ready x) 1 0) s xs in
    let h = sum_by-cons (λ x. cond (is_held x) 1 0) s xs in
    all_stopped xs (omega arith) (omega arith) p (omega arith)

pub stopped_counts : {A : Type 0} (t : Tables) (H : List Event) (view : View A) → Agrees t H view
    → HaveStopped t H ↔ ((view.counts.ready ≡ 0) × (view.counts.held ≡ 0))
stopped_counts t H view agrees =
    let exact = stopped_states t H view agrees in
    let long = agrees.processes in (
      λ stopped.
          let none = none_ready view.states (λ p below. exact.0 stopped p (omega arith)) in
          (agrees.counts.ready ∙ none.0, agrees.counts.held ∙ none.1),
      λ none. exact.1
          (λ p below.
          all_stopped view.states (sym agrees.counts.ready ∙ none.0) (sym agrees.counts.held ∙ none.1) p
          (omega arith)),
    )

-- ---- one state

-- of a process that lives: its state follows from what it waits for
module _ (t : Tables) (H : List Event) (legal : Legal t H) (p : ℕ) where
  abbrev AreOne : State → State → Type 0
  AreOne s r = (s ≡ r) ⊎ ((is_stopped s ≡ false) × (is_stopped r ≡ false))

  clash : (how : How) (r : State) → IsStateOf t H p (Ended how) → has_ended H p ≡ false → AreOne (Ended how) r
  clash how r ended lives = absurd (both_ways (has_ended H p) lives (ended_by H p how ended))

  clash_back : (how : How) (s : State) → IsStateOf t H p (Ended how) → has_ended H p ≡ false → AreOne s (Ended how)
  clash_back how s ended lives = absurd (both_ways (has_ended H p) lives (ended_by H p how ended))

  differ : (s r : State) (v w : Wait) → wait_of t H p ≡ v → wait_of t H p ≡ w → (v ≡ w → ⊥) → AreOne s r
  differ s r v w a b none = absurd (none (sym a ∙ b))

  pub one_state : (s r : State) → IsStateOf t H p s → IsStateOf t H p r → AreOne s r
  one_state Ready Ready a b = inr (refl, refl)
  one_state Ready Held a b = inr (refl, refl)
  one_state Ready (WaitsEmpty d) a b = differ Ready (WaitsEmpty d) Nobody (Empty d) a.1 b.1 (λ e. absurd cc)
  one_state Ready (WaitsFull d) a b = differ Ready (WaitsFull d) Nobody (Full d) a.1 b.1 (λ e. absurd cc)
  one_state Ready (Ended other) a b = clash_back other Ready b a.0
  one_state Held Ready a b = inr (refl, refl)
  one_state Held Held a b = inr (refl, refl)
  one_state Held (WaitsEmpty d) a b = differ Held (WaitsEmpty d) Nobody (Empty d) a.1 b.1 (λ e. absurd cc)
  one_state Held (WaitsFull d) a b = differ Held (WaitsFull d) Nobody (Full d) a.1 b.1 (λ e. absurd cc)
  one_state Held (Ended other) a b = clash_back other Held b a.0
  one_state (WaitsEmpty c) Ready a b = differ (WaitsEmpty c) Ready (Empty c) Nobody a.1 b.1 (λ e. absurd cc)
  one_state (WaitsEmpty c) Held a b = differ (WaitsEmpty c) Held (Empty c) Nobody a.1 b.1 (λ e. absurd cc)
  one_state (WaitsEmpty c) (WaitsEmpty d) a b = let same : (Empty c) ≡ (Empty d) = sym a.1 ∙ b.1 in inl cc
  one_state (WaitsEmpty c) (WaitsFull d) a b =
      differ (WaitsEmpty c) (WaitsFull d) (Empty c) (Full d) a.1 b.1 (λ e. absurd cc)
  one_state (WaitsEmpty c) (Ended other) a b = clash_back other (WaitsEmpty c) b a.0
  one_state (WaitsFull c) Ready a b = differ (WaitsFull c) Ready (Full c) Nobody a.1 b.1 (λ e. absurd cc)
  one_state (WaitsFull c) Held a b = differ (WaitsFull c) Held (Full c) Nobody a.1 b.1 (λ e. absurd cc)
  one_state (WaitsFull c) (WaitsEmpty d) a b =
      differ (WaitsFull c) (WaitsEmpty d) (Full c) (Empty d) a.1 b.1 (λ e. absurd cc)
  one_state (WaitsFull c) (WaitsFull d) a b = let same : (Full c) ≡ (Full d) = sym a.1 ∙ b.1 in inl cc
  one_state (WaitsFull c) (Ended other) a b = clash_back other (WaitsFull c) b a.0
  one_state (Ended how) Ready a b = clash how Ready a b.0
  one_state (Ended how) Held a b = clash how Held a b.0
  one_state (Ended how) (WaitsEmpty d) a b = clash how (WaitsEmpty d) a b.0
  one_state (Ended how) (WaitsFull d) a b = clash how (WaitsFull d) a b.0
  one_state (Ended how) (Ended other) a b = inl (ap Ended (ends_one_way t H legal p how other a b))
