-- After an event the schedule agrees with the machine, if it did before.
use Rattle.std.proofs.Common.{◌≡◌, ℕ, ◌<◌, Bool, true, false, cond, eqb, eq-eqb, List, length, set, get_or, Option, Some, None, refl, sym, ap, ◌∙◌, subst, arith}
use Rattle.std.specs.List.{Contains}
use Rattle.kpn_book.proofs.Common.{false≢true, both_ways, eqb-true, length-set, get_or-set_same, get_or-set_other, Wait, Nobody, Empty, Full, Tables, IsNetwork, How, Event, State, is_of, is_ready, is_held, wakes, Machine, wait_in, end_in, IsRun, Changes, end_then, ended_waits_for_nobody, Schedule, state_at, own_part, woken_by, schedule_after, IsStateBy}
use Rattle.kpn_history.specs.declared.event.Event.TheVariants as event
use Rattle.kpn_history.specs.declared.state.State.TheVariants.{Ready, Held, WaitsEmpty, WaitsFull, Ended}
use Rattle.kpn_history.specs.WaitsAfter.{wait_made}
use Rattle.kpn_book.proofs.AllReady.{states_length, are_ready, are_as_before}
use Rattle.kpn_book.proofs.Woken.{EndsThere, among_wakes, wakes_among}

-- ---- the process of the event

pub own_length : (e : Event) (s : Schedule) → length (own_part e s).states ≡ length s.states
own_length (event.Get p c v) s = length-set s.states p Ready
own_length (event.Put p c v) s = length-set s.states p Ready
own_length (event.WaitEmpty p c) s = length-set s.states p (WaitsEmpty c)
own_length (event.WaitFull p c) s = length-set s.states p (WaitsFull c)
own_length (event.Ended p how) s = length-set s.states p (Ended how)
own_length e s = refl

-- the state of the process that was set
set_here : (s : Schedule) (p q : ℕ) (state : State) → eqb p q ≡ true → q < length s.states
    → get_or (set s.states p state) q Ready ≡ state
set_here s p q state is there =
    subst (λ z. get_or (set s.states z state) q Ready ≡ state) (sym (eqb-true p q is))
    (get_or-set_same s.states q state Ready there)

set_elsewhere : (s : Schedule) (p q : ℕ) (state : State) → eqb p q ≡ false
    → get_or (set s.states p state) q Ready ≡ get_or s.states q Ready
set_elsewhere s p q state is =
    get_or-set_other s.states p q state Ready
    (λ same. false≢true (sym is ∙ eq-eqb p q (sym same)))

own_state : (e : Event) (s : Schedule) (q : ℕ) → is_of q e ≡ true → q < length s.states
    → IsStateBy (end_then e q None) (wait_made e) (state_at (own_part e s).states q)
own_state (event.Get p c v) s q is there =
    subst (λ x. IsStateBy None Nobody x) (sym (set_here s p q Ready is there)) (refl, refl)
own_state (event.Put p c v) s q is there =
    subst (λ x. IsStateBy None Nobody x) (sym (set_here s p q Ready is there)) (refl, refl)
own_state (event.WaitEmpty p c) s q is there =
    subst (λ x. IsStateBy None (Empty c) x) (sym (set_here s p q (WaitsEmpty c) is there)) (refl, refl)
own_state (event.WaitFull p c) s q is there =
    subst (λ x. IsStateBy None (Full c) x) (sym (set_here s p q (WaitsFull c) is there)) (refl, refl)
own_state (event.Ended p how) s q is there =
    subst (λ x. IsStateBy (end_then (event.Ended p how) q None) Nobody x) (sym (set_here s p q (Ended how) is there))
    (ap (λ b. cond b (Some how) None) is)
own_state e s q is there = absurd (false≢true is)

pub other_state : (e : Event) (s : Schedule) (q : ℕ) → is_of q e ≡ false
    → state_at (own_part e s).states q ≡ state_at s.states q
other_state (event.Get p c v) s q is = set_elsewhere s p q Ready is
other_state (event.Put p c v) s q is = set_elsewhere s p q Ready is
other_state (event.WaitEmpty p c) s q is = set_elsewhere s p q (WaitsEmpty c) is
other_state (event.WaitFull p c) s q is = set_elsewhere s p q (WaitsFull c) is
other_state (event.Ended p how) s q is = set_elsewhere s p q (Ended how) is
other_state e s q is = refl

same_end : (e : Event) (q : ℕ) (end : Option How) → is_of q e ≡ false → end_then e q end ≡ end
same_end (event.Ended p how) q end other = ap (λ b. cond b (Some how) end) other
same_end e q end other = refl

-- ---- states that agree

-- a held process has not ended and waits for nobody
held_by : (end : Option How) (wait : Wait) (x : State) → x ≡ Held → IsStateBy end wait x
    → (end ≡ None) × (wait ≡ Nobody)
held_by end wait x is by = subst (λ x. IsStateBy end wait x) is by

-- one that waits is not held
not_held_by : (end : Option How) (wait : Wait) (x : State) → (wait ≡ Nobody → ⊥)
    → IsStateBy end wait x → is_held x ≡ false
not_held_by end wait Ready some by = refl
not_held_by end wait Held some by = absurd (some by.1)
not_held_by end wait (WaitsEmpty c) some by = refl
not_held_by end wait (WaitsFull c) some by = refl
not_held_by end wait (Ended how) some by = refl

-- one that waits has not ended and is not ready
waiting_by : (end : Option How) (wait : Wait) (x : State) → (wait ≡ Nobody → ⊥)
    → ((how : How) → end ≡ Some how → wait ≡ Nobody) → IsStateBy end wait x → (end ≡ None) × (is_ready x ≡ false)
waiting_by end wait Ready some ended by = absurd (some by.1)
waiting_by end wait Held some ended by = absurd (some by.1)
waiting_by end wait (WaitsEmpty c) some ended by = (by.0, refl)
waiting_by end wait (WaitsFull c) some ended by = (by.0, refl)
waiting_by end wait (Ended how) some ended by = absurd (some (ended how by))

woken_waits : (t : Tables) (e : Event) (w : Wait) → wakes t e w ≡ true → w ≡ Nobody → ⊥
woken_waits t e w is none = false≢true (sym (ap (wakes t e) none) ∙ is)

module _ (t : Tables) (network : IsNetwork t) (H : List Event) (before : Machine) (run : IsRun t H before)
    (s : Schedule) (processes : length s.states ≡ length t.instances)
    (agree : (q : ℕ) → q < length t.instances
    → IsStateBy (end_in before q) (wait_in before q) (state_at s.states q))
    (e : Event) (own : (q : ℕ) → is_of q e ≡ true → state_at s.states q ≡ Held) (ends : EndsThere t e) where
  own_is_free : (q : ℕ) → q < length t.instances → is_of q e ≡ true
      → (end_in before q ≡ None) × (wait_in before q ≡ Nobody)
  own_is_free q there is = held_by (end_in before q) (wait_in before q) (state_at s.states q) (own q is) (agree q there)

  not_own : (q : ℕ) → q < length t.instances → wakes t e (wait_in before q) ≡ true → (b : Bool) → is_of q e ≡ b
      → is_of q e ≡ false
  not_own q there woken true is = absurd (woken_waits t e (wait_in before q) woken (own_is_free q there is).1)
  not_own q there woken false is = is

  woken_by_state : (q : ℕ) → q < length t.instances → wakes t e (wait_in before q) ≡ true
      → (end_in before q ≡ None) × (is_ready (state_at s.states q) ≡ false)
  woken_by_state q there woken =
      waiting_by (end_in before q) (wait_in before q) (state_at s.states q)
      (woken_waits t e (wait_in before q) woken)
      (λ how is. ended_waits_for_nobody t network H before run q there how is) (agree q there)

  -- a process that the event wakes exists and is not ready, once the process of the event has moved
  pub woken_may_be_ready : (q : ℕ) → Contains (woken_by t before.waits e) q
      → (q < length (own_part e s).states) × (is_ready (state_at (own_part e s).states q) ≡ false)
  woken_may_be_ready q among =
      let is = among_wakes t network before.waits run.shape.waits e ends q among in
      let there = is.0 in
      let long = own_length e s in (
        omega (arith, long, processes),
        ap is_ready (other_state e s q (not_own q there is.1 (is_of q e) refl)) ∙ (woken_by_state q there is.1).1,
      )

  -- nor is it held
  pub woken_not_held : (q : ℕ) → Contains (woken_by t before.waits e) q
      → (q < length (own_part e s).states) × (is_held (state_at (own_part e s).states q) ≡ false)
  woken_not_held q among =
      let is = among_wakes t network before.waits run.shape.waits e ends q among in
      let there = is.0 in
      let long = own_length e s in (
        omega (arith, long, processes),
        ap is_held (other_state e s q (not_own q there is.1 (is_of q e) refl))
            ∙ not_held_by (end_in before q) (wait_in before q) (state_at s.states q)
            (woken_waits t e (wait_in before q) is.1) (agree q there),
      )

  module _ (after : Machine) (changes : Changes t e before after) where
    by_own : (q : ℕ) → q < length t.instances → is_of q e ≡ true
        → IsStateBy (end_in after q) (wait_in after q) (state_at (schedule_after t before.waits e s).states q)
    by_own q there is =
        let free = own_is_free q there is in
        let not_woken : Contains (woken_by t before.waits e) q → ⊥ = λ among. woken_waits t e (wait_in before q)
        (among_wakes t network before.waits run.shape.waits e ends q among).1 free.1 in
        let end : end_in after q ≡ end_then e q None = changes.ends q there ∙ ap (end_then e q) free.0 in
        let wait : wait_in after q ≡ wait_made e =
        changes.waits q there
        ∙ ap (λ b. cond b (wait_made e) (cond (wakes t e (wait_in before q)) Nobody (wait_in before q))) is in
        subst (λ x. IsStateBy (end_in after q) (wait_in after q) x)
        (sym (are_as_before (woken_by t before.waits e) (own_part e s) q not_woken))
        (subst (λ x. IsStateBy x (wait_in after q) (state_at (own_part e s).states q)) (sym end)
        (subst (λ x. IsStateBy (end_then e q None) x (state_at (own_part e s).states q)) (sym wait)
        (own_state e s q is (omega (arith, processes, there)))))

    by_other : (q : ℕ) → q < length t.instances → is_of q e ≡ false → (b : Bool) → wakes t e (wait_in before q) ≡ b
        → IsStateBy (end_in after q) (wait_in after q) (state_at (schedule_after t before.waits e s).states q)
    by_other q there other true woken =
        let end : end_in after q ≡ None =
        changes.ends q there ∙ same_end e q (end_in before q) other ∙ (woken_by_state q there woken).0 in
        let wait : wait_in after q ≡ Nobody =
        changes.waits q there
        ∙ ap (λ b. cond b (wait_made e) (cond (wakes t e (wait_in before q)) Nobody (wait_in before q))) other
        ∙ ap (λ b. cond b Nobody (wait_in before q)) woken in
        let long = own_length e s in
        subst (λ x. IsStateBy (end_in after q) (wait_in after q) x)
        (sym (are_ready (woken_by t before.waits e) (own_part e s) q
        (wakes_among t network before.waits run.shape.waits e ends q there woken)
        (omega (arith, long, processes, there))))
        (end, wait)
    by_other q there other false woken =
        let end : end_in after q ≡ end_in before q =
        changes.ends q there ∙ same_end e q (end_in before q) other in
        let wait : wait_in after q ≡ wait_in before q =
        changes.waits q there
        ∙ ap (λ b. cond b (wait_made e) (cond (wakes t e (wait_in before q)) Nobody (wait_in before q))) other
        ∙ ap (λ b. cond b Nobody (wait_in before q)) woken in
        let not_among : Contains (woken_by t before.waits e) q → ⊥ = λ among. both_ways
        (wakes t e (wait_in before q)) woken
        (among_wakes t network before.waits run.shape.waits e ends q among).1 in
        subst (λ x. IsStateBy (end_in after q) (wait_in after q) x)
        (sym (are_as_before (woken_by t before.waits e) (own_part e s) q not_among ∙ other_state e s q other))
        (subst (λ x. IsStateBy x (wait_in after q) (state_at s.states q)) (sym end)
        (subst (λ x. IsStateBy (end_in before q) x (state_at s.states q)) (sym wait) (agree q there)))

    by_case : (q : ℕ) → q < length t.instances → (b : Bool) → is_of q e ≡ b
        → IsStateBy (end_in after q) (wait_in after q) (state_at (schedule_after t before.waits e s).states q)
    by_case q there true is = by_own q there is
    by_case q there false is = by_other q there is (wakes t e (wait_in before q)) refl

    pub agree_after : (q : ℕ) → q < length t.instances
        → IsStateBy (end_in after q) (wait_in after q) (state_at (schedule_after t before.waits e s).states q)
    agree_after q there = by_case q there (is_of q e) refl

  pub length_after : length (schedule_after t before.waits e s).states ≡ length t.instances
  length_after = states_length (woken_by t before.waits e) (own_part e s) ∙ own_length e s ∙ processes
