-- How many processes are held after an event: one fewer if the event is of a process.
use Rattle.std.proofs.Common.{◌≡◌, ℕ, ◌+◌, ◌<◌, true, false, cond, List, [], ◌∷◌, length, set, get_or, count_by, eqb, eq-eqb, refl, ap, ◌∙◌, subst, inl, inr, arith}
use Rattle.std.specs.List.{Contains}
use Rattle.kpn_book.proofs.Common.{cases_eq, length-set, get_or-set_same, get_or-set_other, sum_by-set, Contains-first, Contains-later, Event, State, is_of, is_held, Schedule, state_at, made_ready, own_part, all_made_ready}
use Rattle.kpn_history.specs.declared.event.Event.TheVariants as event
use Rattle.kpn_history.specs.declared.state.State.TheVariants.{Ready, Held, WaitsEmpty, WaitsFull, Ended}
use Rattle.kpn_book.specs.Open.{of_process}

-- how many processes of a list are held
abbrev pub held_in : List State → ℕ
held_in xs = count_by is_held xs

held_set : (xs : List State) (p : ℕ) (y : State) → p < length xs
    → held_in (set xs p y) + cond (is_held (get_or xs p Ready)) 1 0 ≡ held_in xs + cond (is_held y) 1 0
held_set xs p y there = sum_by-set (λ x. cond (is_held x) 1 0) xs p y Ready there

-- a process that was not held gets a state that is not held
pub held_same : (xs : List State) (p : ℕ) (y : State) → p < length xs → is_held (get_or xs p Ready) ≡ false
    → is_held y ≡ false → held_in (set xs p y) ≡ held_in xs
held_same xs p y there old new =
    let moved = held_set xs p y there in
    let none : cond {A = ℕ} (is_held (get_or xs p Ready)) 1 0 ≡ 0 = ap (λ b. cond b 1 0) old in
    let no : cond {A = ℕ} (is_held y) 1 0 ≡ 0 = ap (λ b. cond b 1 0) new in
    omega arith

-- a process that was held gets a state that is not held
pub held_less : (xs : List State) (p : ℕ) (y : State) → p < length xs → get_or xs p Ready ≡ Held
    → is_held y ≡ false → held_in (set xs p y) + 1 ≡ held_in xs
held_less xs p y there old new =
    let moved = held_set xs p y there in
    let one : cond {A = ℕ} (is_held (get_or xs p Ready)) 1 0 ≡ 1 = ap (λ x. cond (is_held x) 1 0) old in
    let no : cond {A = ℕ} (is_held y) 1 0 ≡ 0 = ap (λ b. cond b 1 0) new in
    omega arith

-- a process that was not held becomes held
pub held_more : (xs : List State) (p : ℕ) → p < length xs → is_held (get_or xs p Ready) ≡ false
    → held_in (set xs p Held) ≡ held_in xs + 1
held_more xs p there old =
    let moved = held_set xs p Held there in
    let none : cond {A = ℕ} (is_held (get_or xs p Ready)) 1 0 ≡ 0 = ap (λ b. cond b 1 0) old in
    omega arith

not_held_then : (xs : List State) (p q : ℕ) → q < length xs → is_held (get_or xs q Ready) ≡ false
    → is_held (get_or (set xs p Ready) q Ready) ≡ false
not_held_then xs p q there is =
    elim (cases_eq q p) [
      | inl same ↦ subst (λ z. is_held (get_or (set xs z Ready) q Ready) ≡ false) same
          (ap is_held (get_or-set_same xs q Ready Ready there))
      | inr other ↦ ap is_held (get_or-set_other xs p q Ready Ready other) ∙ is
    ]

pub held_as_before : (ps : List ℕ) (s : Schedule)
    → ((q : ℕ) → Contains ps q → (q < length s.states) × (is_held (state_at s.states q) ≡ false))
    → held_in (all_made_ready ps s).states ≡ held_in s.states
held_as_before [] s each = refl
held_as_before (p ∷ ps) s each =
    let first = each p (Contains-first p ps) in
    held_as_before ps (made_ready p s)
    (λ q among.
    let later = each q (Contains-later p ps q among) in
    let there = later.0 in
    (omega (arith, length-set s.states p Ready), not_held_then s.states p q there later.1))
    ∙ held_same s.states p Ready first.0 first.1 refl

eq_self : (p : ℕ) → eqb p p ≡ true
eq_self p = eq-eqb p p refl

pub held_own : (e : Event) (s : Schedule)
    → ((q : ℕ) → is_of q e ≡ true → (q < length s.states) × (state_at s.states q ≡ Held))
    → held_in (own_part e s).states + of_process e ≡ held_in s.states
held_own (event.Get p c v) s own = let h = own p (eq_self p) in held_less s.states p Ready h.0 h.1 refl
held_own (event.Put p c v) s own = let h = own p (eq_self p) in held_less s.states p Ready h.0 h.1 refl
held_own (event.WaitEmpty p c) s own = let h = own p (eq_self p) in held_less s.states p (WaitsEmpty c) h.0 h.1 refl
held_own (event.WaitFull p c) s own = let h = own p (eq_self p) in held_less s.states p (WaitsFull c) h.0 h.1 refl
held_own (event.Ended p how) s own = let h = own p (eq_self p) in held_less s.states p (Ended how) h.0 h.1 refl
held_own e s own = omega arith
