-- What holds of beginnings of lists. `IsPrefix` computes by recursion on both lists, so the lists are explicit
-- arguments.
use Rattle.kpn_lang.proofs.Common.{◌≡◌, ◌≤◌, ◌⊎◌, List, [], ◌∷◌, ◌++◌, length, refl, sym, ◌∙◌, inl, inr, arith, IsPrefix}

pub IsPrefix-refl : {A : Type 0} (xs : List A) → IsPrefix xs xs
IsPrefix-refl [] = tt
IsPrefix-refl (x ∷ xs) = (refl, IsPrefix-refl xs)

pub IsPrefix-same : {A : Type 0} (xs ys : List A) → xs ≡ ys → IsPrefix xs ys
IsPrefix-same xs ys e = rw (← e) (IsPrefix-refl xs)

pub IsPrefix-trans : {A : Type 0} (xs ys zs : List A) → IsPrefix xs ys → IsPrefix ys zs → IsPrefix xs zs
IsPrefix-trans [] ys zs p q = tt
IsPrefix-trans (x ∷ xs) [] zs p q = absurd p
IsPrefix-trans (x ∷ xs) (y ∷ ys) [] p q = absurd q
IsPrefix-trans (x ∷ xs) (y ∷ ys) (z ∷ zs) p q = (p.0 ∙ q.0, IsPrefix-trans xs ys zs p.1 q.1)

pub IsPrefix-antisym : {A : Type 0} (xs ys : List A) → IsPrefix xs ys → IsPrefix ys xs → xs ≡ ys
IsPrefix-antisym [] [] p q = refl
IsPrefix-antisym [] (y ∷ ys) p q = absurd q
IsPrefix-antisym (x ∷ xs) [] p q = absurd p
IsPrefix-antisym (x ∷ xs) (y ∷ ys) p q = let e = p.0 in let r = IsPrefix-antisym xs ys p.1 q.1 in cc

-- an empty list has no beginning but itself
pub nil_from_prefix : {A : Type 0} (xs : List A) → IsPrefix xs [] → xs ≡ []
nil_from_prefix [] p = refl
nil_from_prefix (x ∷ xs) p = absurd p

pub length_of_prefix : {A : Type 0} (xs ys : List A) → IsPrefix xs ys → length xs ≤ length ys
length_of_prefix [] ys p = omega arith
length_of_prefix (x ∷ xs) [] p = absurd p
length_of_prefix (x ∷ xs) (y ∷ ys) p = let r = length_of_prefix xs ys p.1 in omega arith

pub IsPrefix-append : {A : Type 0} (xs rest : List A) → IsPrefix xs (xs ++ rest)
IsPrefix-append [] rest = tt
IsPrefix-append (x ∷ xs) rest = (refl, IsPrefix-append xs rest)

-- the rest that, after the one, makes the other
pub rest_of_prefix : {A : Type 0} (xs ys : List A) → IsPrefix xs ys → (rest : List A) × (xs ++ rest ≡ ys)
rest_of_prefix [] ys p = (ys, refl)
rest_of_prefix (x ∷ xs) [] p = absurd p
rest_of_prefix (x ∷ xs) (y ∷ ys) p = let r = rest_of_prefix xs ys p.1 in (r.0, let e = p.0 in let f = r.1 in cc)

pub IsPrefix-from_rest : {A : Type 0} (xs rest ys : List A) → xs ++ rest ≡ ys → IsPrefix xs ys
IsPrefix-from_rest xs rest ys e = rw (← e) (IsPrefix-append xs rest)

-- the same items in front of both change nothing
pub IsPrefix-after : {A : Type 0} (front xs ys : List A) → IsPrefix xs ys → IsPrefix (front ++ xs) (front ++ ys)
IsPrefix-after [] xs ys p = p
IsPrefix-after (x ∷ front) xs ys p = (refl, IsPrefix-after front xs ys p)

pub prefix_after : {A : Type 0} (front xs ys : List A) → IsPrefix (front ++ xs) (front ++ ys) → IsPrefix xs ys
prefix_after [] xs ys p = p
prefix_after (x ∷ front) xs ys p = prefix_after front xs ys p.1

-- of two beginnings of one list one begins with the other
pub prefixes_of_one : {A : Type 0} (xs ys zs : List A) → IsPrefix xs zs → IsPrefix ys zs →
    IsPrefix xs ys ⊎ IsPrefix ys xs
prefixes_of_one [] ys zs p q = inl tt
prefixes_of_one (x ∷ xs) [] zs p q = inr tt
prefixes_of_one (x ∷ xs) (y ∷ ys) [] p q = absurd p
prefixes_of_one (x ∷ xs) (y ∷ ys) (z ∷ zs) p q =
    elim (prefixes_of_one xs ys zs p.1 q.1) [
      | inl h ↦ inl (p.0 ∙ sym q.0, h)
      | inr h ↦ inr (q.0 ∙ sym p.0, h)
    ]

-- a beginning that has all the items is the whole
pub same_from_prefix : {A : Type 0} (xs ys : List A) → IsPrefix xs ys → length ys ≤ length xs → xs ≡ ys
same_from_prefix [] [] p h = refl
same_from_prefix [] (y ∷ ys) p h = absurd (omega arith)
same_from_prefix (x ∷ xs) [] p h = absurd p
same_from_prefix (x ∷ xs) (y ∷ ys) p h = let e = p.0 in let r = same_from_prefix xs ys p.1 (omega arith) in cc

-- what begins a list with one more item is that list or begins the list before
pub prefix_of_push : {A : Type 0} (xs ys : List A) (y : A) → IsPrefix xs (ys ++ y ∷ []) →
    IsPrefix xs ys ⊎ (xs ≡ ys ++ y ∷ [])
prefix_of_push [] ys y p = inl tt
prefix_of_push (x ∷ xs) [] y p = let e = p.0 in let r = nil_from_prefix xs p.1 in inr cc
prefix_of_push (x ∷ xs) (z ∷ ys) y p =
    elim (prefix_of_push xs ys y p.1) [
      | inl h ↦ inl (p.0, h)
      | inr h ↦ let e = p.0 in inr cc
    ]
