-- Lists that are compared pair by pair.
use Rattle.kpn_lang.proofs.Common.{◌≡◌, ℕ, zero, suc, ◌<◌, Bool, true, false, List, [], ◌∷◌, length, map, refl, arith, ◌↔◌, IsTrue, MatchBool, zip, AllWithin, HoldsAt}

module _ {X Y : Type 0} (f : X → Y) where
  -- a pair of two that look alike
  abbrev pub Alike : X × X → Type 0
  Alike p = f p.0 ≡ f p.1

  abbrev pub Differ : X × X → Type 0
  Differ p = ¬ (f p.0 ≡ f p.1)

  alike_all : (xs ys : List X) → length xs ≡ length ys → AllWithin Alike (zip xs ys) 0 (length (zip xs ys)) →
      map f xs ≡ map f ys
  alike_all [] [] e h = refl
  alike_all [] (y ∷ ys) e h = absurd (omega arith)
  alike_all (x ∷ xs) [] e h = absurd (omega arith)
  alike_all (x ∷ xs) (y ∷ ys) e h =
      let first : f x ≡ f y = h 0 (x, y) (omega arith) (omega arith) in
      let rest = alike_all xs ys (omega arith) (λ k d low high. h (suc k) d (omega arith) (omega arith)) in
      λ i. first i ∷ rest i

  differ_somewhere : (xs ys : List X) (k : ℕ) → k < length (zip xs ys) → HoldsAt Differ (zip xs ys) k →
      map f xs ≡ map f ys → ⊥
  differ_somewhere [] ys k lt h e = absurd (omega arith)
  differ_somewhere (x ∷ xs) [] k lt h e = absurd (omega arith)
  differ_somewhere (x ∷ xs) (y ∷ ys) zero lt h e = h (x, y) (cc)
  differ_somewhere (x ∷ xs) (y ∷ ys) (suc k) lt h e =
      let rest : map f xs ≡ map f ys = (cc) in differ_somewhere xs ys k (omega arith) h rest

  pub same_by_pairs : (xs ys : List X) (r : Bool) → length xs ≡ length ys →
      MatchBool r (AllWithin Alike (zip xs ys) 0 (length (zip xs ys)))
      ((k : ℕ) × (k < length (zip xs ys)) × HoldsAt Differ (zip xs ys) k) →
      IsTrue r ↔ (map f xs ≡ map f ys)
  same_by_pairs xs ys true e h = (λ _. alike_all xs ys e h, λ _. refl)
  same_by_pairs xs ys false e h = (λ t. absurd (cc), λ m. absurd (differ_somewhere xs ys h.0 h.1 h.2 m))
