-- Steps over the items of a list, from a place on: what the next item makes of them.
use Rattle.kpn_text_names.proofs.Common.{◌≡◌, ℕ, suc, ◌+◌, ◌<◌, ◌≤◌, List, [], ◌∷◌, length, map, drop, get_or, Result, Ok, refl, subst, add-one, drop-cons, drop_all, NameFault}
use Rattle.kpn_text_names.specs.declared.fault.NameFault.TheVariants as fault
use Rattle.kpn_text_names.specs.Fault.{NameError, each, ResolvingFails}
use Rattle.kpn_text_tokens.specs.Results.{and_then}
use Rattle.kpn_text_names.proofs.Chains.{ok_is, went}

-- a step that failed decides
pub fails_first : {A B : Type 0} (e : NameFault) (r : Result A NameError) (f : A → Result B NameError) → ResolvingFails e r
    → ResolvingFails e (and_then r f)
unfolding and_then
fails_first fault.NoMemory r f h = tt
fails_first (fault.UnknownName at) r f h = rw h refl
fails_first (fault.DoubleName at) r f h = rw h refl

module _ {S X Y : Type 0} (step : S → Y → Result S NameError) (view : X → Y) (s : S) (xs : List X) (i : ℕ) where
  pub ends : length xs ≤ i → each step s (map view (drop i xs)) ≡ Ok s
  unfolding each
  ends h = rw (drop_all i xs h) refl

  pub goes : (d x : X) (t : S) → i < length xs → get_or xs i d ≡ x → step s (view x) ≡ Ok t
      → each step s (map view (drop i xs)) ≡ each step t (map view (drop (i + 1) xs))
  unfolding each and_then
  goes d x t h is e = rw (add-one, drop-cons xs i d h, is, e) refl

  pub fails : (d x : X) (e : NameFault) → i < length xs → get_or xs i d ≡ x → ResolvingFails e (step s (view x))
      → ResolvingFails e (each step s (map view (drop i xs)))
  unfolding each
  fails d x e h is w =
      rw (drop-cons xs i d h, is) (fails_first e (step s (view x)) (λ t. each step t (map view (drop (suc i) xs))) w)

-- what each step keeps holds after all of them
pub keeps : {S X : Type 0} (step : S → X → Result S NameError) (P : S → Type 0)
    → ((s t : S) (x : X) → step s x ≡ Ok t → P s → P t)
    → (xs : List X) (s t : S) → each step s xs ≡ Ok t → P s → P t
unfolding each
keeps step P one [] s t e p = subst P (ok_is s t e) p
keeps step P one (x ∷ xs) s t e p =
    let b = went (step s x) (λ u. each step u xs) t e in
    keeps step P one xs b.value t b.rest (one s b.value x b.first p)
