-- The first element of a list for a channel, when one element is changed after the other.
use Rattle.std.proofs.Common.{◌≡◌, ◌≢◌, ℕ, ◌<◌, ◌≤◌, Bool, false, nat_eq, List, [], ◌∷◌, length, get_or, slice_set, Some, None, sym, ap, ◌∙◌, subst, inl, inr, arith}
use Rattle.kpn_stream_devices.proofs.Common.{position, position_or_len, cases_eq, cases_lt, eq-eqb, eqb-true, false≢true, nat_tests, length-set, get_or_default, get_or-set_same, get_or-set_other, position-Some, fails_before_first}

module _ {X : Type 0} (P : X → Type 0) (xs : List X) (j : ℕ) (o w : X) (below : j < length xs) (at : get_or xs j o ≡ o)
    (stays : P o → P w) where
  -- what held of element k holds still
  pub holds_still : (k : ℕ) (d : X) → k < length xs → P (get_or xs k d) → P (get_or (slice_set xs j w) k d)
  holds_still k d inside holds =
      elim (cases_eq k j) [
        | inl same ↦
            subst (λ (n : ℕ). P (get_or (slice_set xs j w) n d)) (sym same)
            (subst P (sym (get_or-set_same xs j w d below))
            (stays (subst P (ap (λ (n : ℕ). get_or xs n d) same ∙ get_or_default xs j d o below ∙ at) holds)))
        | inr other ↦ subst P (sym (get_or-set_other xs j k w d other)) holds
      ]

-- a search that finds nothing meets nothing
none_there : {X : Type 0} (p : X → Bool) (xs : List X) (i : ℕ) (d : X) → position p xs ≡ None → i < length xs
    → p (get_or xs i d) ≡ false
none_there p xs i d none below =
    let whole : length xs ≤ position_or_len p xs = grind (arith, nat_tests) in
    fails_before_first p xs i d (omega (arith, whole, below))

module _ {X : Type 0} (channel : X → ℕ) (c i : ℕ) where
  -- element i is the first for channel c
  pub record IsFirst (xs : List X) : Type 0 where
    pub within : i < length xs
    pub mine : (d : X) → channel (get_or xs i d) ≡ c
    pub earlier : (k : ℕ) (d : X) → k < i → channel (get_or xs k d) ≢ c

  pub first_found : (xs : List X) → position (λ x. nat_eq (channel x) c) xs ≡ Some i → IsFirst xs
  first_found xs found =
      let at = λ (d : X). position-Some (λ x. nat_eq (channel x) c) xs i d found in
      record {
        within = within xs found;
        mine = λ d. eqb-true _ c (at d).1;
        earlier = λ k d before same. false≢true (sym ((at d).2 k before) ∙ eq-eqb _ c same);
      }
    where
      within : (xs : List X) → position (λ x. nat_eq (channel x) c) xs ≡ Some i → i < length xs
      within [] found = absurd cc
      within (x ∷ xs) found = (position-Some (λ x. nat_eq (channel x) c) (x ∷ xs) i x found).0

  -- it is so still
  pub first_stays : (xs : List X) (j : ℕ) (o w : X) → j < length xs → get_or xs j o ≡ o → channel w ≡ channel o
      → IsFirst xs → IsFirst (slice_set xs j w)
  first_stays xs j o w below at same m = record {
    within = omega (arith, length-set xs j w, m.within);
    mine = λ d. holds_still (λ x. channel x ≡ c) xs j o w below at (λ is. same ∙ is) i d m.within (m.mine d);
    earlier = λ k d before.
        holds_still (λ x. channel x ≢ c) xs j o w below at (λ other is. other (sym same ∙ is)) k d
        (omega (arith, before, m.within)) (m.earlier k d before);
  }

  -- it is what a search for its channel finds, and no search for another
  pub found_mine : (xs : List X) (j : ℕ) (x : X) → IsFirst xs → position (λ x. nat_eq (channel x) c) xs ≡ Some j → i ≡ j
  found_mine xs j x m found =
      let f = position-Some (λ x. nat_eq (channel x) c) xs j x found in
      elim (cases_lt i j) [
        | inl less ↦ absurd (false≢true (sym (f.2 i less) ∙ eq-eqb _ c (m.mine x)))
        | inr least ↦ elim (cases_lt j i) [
          | inl less ↦ absurd (m.earlier j x less (eqb-true _ c f.1))
          | inr more ↦ omega (arith, least, more)
        ]
      ]

  pub found_other : (xs : List X) (s j : ℕ) (x : X) → IsFirst xs → s ≢ c
      → position (λ x. nat_eq (channel x) s) xs ≡ Some j → i ≢ j
  found_other xs s j x m other found same =
      let f = position-Some (λ x. nat_eq (channel x) s) xs j x found in
      other (sym (eqb-true _ s f.1) ∙ ap (λ (n : ℕ). channel (get_or xs n x)) (sym same) ∙ m.mine x)

  pub found_none : (xs : List X) (d : X) → IsFirst xs → position (λ x. nat_eq (channel x) c) xs ≡ None → ⊥
  found_none xs d m found =
      false≢true (sym (none_there (λ x. nat_eq (channel x) c) xs i d found m.within) ∙ eq-eqb _ c (m.mine d))

-- a search finds what is there
pub found_within : {X : Type 0} (channel : X → ℕ) (xs : List X) (s j : ℕ) (d : X)
    → position (λ x. nat_eq (channel x) s) xs ≡ Some j → j < length xs
found_within channel xs s j d found = (position-Some (λ x. nat_eq (channel x) s) xs j d found).0

-- the element that is changed, before and after
pub was_here : {X : Type 0} (xs ys : List X) (i j : ℕ) (o w d : X) → i ≡ j → j < length xs → get_or xs j o ≡ o
    → ys ≡ slice_set xs j w → (get_or xs i d ≡ o) × (get_or ys i d ≡ w)
was_here xs ys i j o w d same below at each = (
  ap (λ (n : ℕ). get_or xs n d) same ∙ get_or_default xs j d o below ∙ at,
  ap (λ zs. get_or zs i d) each ∙ ap (λ (n : ℕ). get_or (slice_set xs j w) n d) same ∙ get_or-set_same xs j w d below,
)

-- another one
pub stays_here : {X : Type 0} (xs ys : List X) (i j : ℕ) (w d : X) → i ≢ j → ys ≡ slice_set xs j w
    → get_or ys i d ≡ get_or xs i d
stays_here xs ys i j w d other each = ap (λ zs. get_or zs i d) each ∙ get_or-set_other xs j i w d other
