-- A process that is put back is not held, and no other is that was not.
use Rattle.kpn_book.proofs.Common.{◌≡◌, ℕ, ◌<◌, false, cond, List, length, set, get_or, count_by, refl, ap, ◌∙◌, subst, inl, inr, arith, cases_eq, length-set, get_or-set_same, get_or-set_other, get_or_default, sum_by-le, State, Ready, Held, is_held, state_at, Book, IsHeld, held_count, put_back, IsBook, Releases, IsNoneHeldBelow}

-- ---- one process

pub released : (p : ℕ) (before : Book) → IsHeld before p → Releases p before (put_back p before)
released p before held = record {
  alone = refl;
  processes = length-set before.schedule.states p Ready;
  here = λ there. ap is_held (get_or-set_same before.schedule.states p Ready Ready held.there);
  others = λ q there free. elim (cases_eq q p) [
    | inl same ↦ subst (λ z. is_held (get_or (set before.schedule.states z Ready) q Ready) ≡ false) same
        (ap is_held (get_or-set_same before.schedule.states q Ready Ready
        (let long = length-set before.schedule.states p Ready in omega arith)))
    | inr other ↦ ap is_held (get_or-set_other before.schedule.states p q Ready Ready other) ∙ free
  ];
}

free_if : (x : State) → (x ≡ Held → ⊥) → is_held x ≡ false
free_if Held other = absurd (other refl)
free_if state other = refl

pub not_held : (p : ℕ) (before : Book) → (IsHeld before p → ⊥) → Releases p before before
not_held p before other = record {
  alone = refl;
  processes = refl;
  here = λ there. free_if (state_at before.schedule.states p) (λ held. other (record { there = there; held = held }));
  others = λ q there free. free;
}

-- ---- one after the other

none_counted : (xs : List State) → ((q : ℕ) → q < length xs → is_held (get_or xs q Ready) ≡ false)
    → count_by is_held xs ≡ 0
none_counted xs none =
    let most =
    sum_by-le (λ x. cond (is_held x) 1 0) 0 xs
    (λ k d below.
    let same : cond {A = ℕ} (is_held (get_or xs k d)) 1 0 ≡ 0 =
    ap (λ x. cond (is_held x) 1 0) (get_or_default xs k d Ready below) ∙ ap (λ b. cond b 1 0) (none k below) in
    omega arith) in
    omega arith

pub none_left : (b : Book) → IsBook b → IsNoneHeldBelow b (length b.tables.instances) → held_count b ≡ 0
none_left b book none =
    let long = book.kept.in_step.processes in
    none_counted b.schedule.states (λ q there. none q (omega arith) there)
