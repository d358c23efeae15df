-- A schedule after some processes have become ready: these are ready, and all others have the state that they had.
use Rattle.kpn_book.proofs.Common.{◌≡◌, ℕ, ◌<◌, List, [], ◌∷◌, ◌++◌, length, set, get_or, refl, sym, ◌∙◌, subst, inl, inr, arith, cases_eq, cases_lt, length-set, get_or-set_same, get_or-set_other, get_or_past, Contains-first, Contains-later, Contains-cases, Contains-none, State, Ready, Schedule, state_at, made_ready, all_made_ready}
use Rattle.std.specs.List.{Contains}

pub states_length : (ps : List ℕ) (s : Schedule) → length (all_made_ready ps s).states ≡ length s.states
states_length [] s = refl
states_length (p ∷ ps) s = states_length ps (made_ready p s) ∙ length-set s.states p Ready

stays_ready : (xs : List State) (p q : ℕ) → get_or xs q Ready ≡ Ready → get_or (set xs p Ready) q Ready ≡ Ready
stays_ready xs p q is =
    elim (cases_eq q p) [
      | inl same ↦
          elim (cases_lt q (length xs)) [
            | inl below ↦ subst (λ z. get_or (set xs p Ready) z Ready ≡ Ready) (sym same)
                (get_or-set_same xs p Ready Ready (subst (λ z. z < length xs) same below))
            | inr past ↦ get_or_past (set xs p Ready) q Ready (omega (arith, length-set xs p Ready, past))
          ]
      | inr other ↦ get_or-set_other xs p q Ready Ready other ∙ is
    ]

pub keeps_ready : (ps : List ℕ) (s : Schedule) (q : ℕ) → state_at s.states q ≡ Ready
    → state_at (all_made_ready ps s).states q ≡ Ready
keeps_ready [] s q is = is
keeps_ready (p ∷ ps) s q is = keeps_ready ps (made_ready p s) q (stays_ready s.states p q is)

pub are_ready : (ps : List ℕ) (s : Schedule) (q : ℕ) → Contains ps q → q < length s.states
    → state_at (all_made_ready ps s).states q ≡ Ready
are_ready [] s q among there = absurd (Contains-none q among)
are_ready (p ∷ ps) s q among there =
    elim (Contains-cases p ps q among) [
      | inl same ↦ keeps_ready ps (made_ready p s) q
          (subst (λ z. get_or (set s.states p Ready) z Ready ≡ Ready) same
          (get_or-set_same s.states p Ready Ready (subst (λ z. z < length s.states) (sym same) there)))
      | inr later ↦ are_ready ps (made_ready p s) q later (omega (arith, length-set s.states p Ready, there))
    ]

pub are_as_before : (ps : List ℕ) (s : Schedule) (q : ℕ) → (Contains ps q → ⊥)
    → state_at (all_made_ready ps s).states q ≡ state_at s.states q
are_as_before [] s q none = refl
are_as_before (p ∷ ps) s q none =
    are_as_before ps (made_ready p s) q (λ later. none (Contains-later p ps q later))
    ∙ get_or-set_other s.states p q Ready Ready
    (λ same. none (subst (λ z. Contains (p ∷ ps) z) (sym same) (Contains-first p ps)))

-- one more
pub all_made_ready-push : (ps : List ℕ) (q : ℕ) (s : Schedule)
    → all_made_ready (ps ++ q ∷ []) s ≡ made_ready q (all_made_ready ps s)
all_made_ready-push [] q s = refl
all_made_ready-push (p ∷ ps) q s = all_made_ready-push ps q (made_ready p s)
