-- Plain tests of lists, and what follows from a yes of each: beginnings, equal lists, and the smallest channel.
use Rattle.check_histories.proofs.Common.{nat_eq, nat_lt, nat_le, Contains, if◌then◌else◌, list_all, ◌≡◌, ℕ, ◌<◌, ◌≤◌, ◌⊎◌, inl, inr, Bool, true, false, ◌&&◌, ◌||◌, List, [], ◌∷◌, Option, Some, None, refl, subst, and_parts, or_cases, eqb-true, ltb-true, leb-true, IsPrefix, IsSmallest, Contains-none, Contains-cases, member, member-true}

-- ---- beginnings of lists, and equal lists

abbrev pub begins : {A : Type 0} → (A → A → Bool) → List A → List A → Bool
begins same [] ys = true
begins same (x ∷ xs) [] = false
begins same (x ∷ xs) (y ∷ ys) = same x y && begins same xs ys

abbrev pub equals : {A : Type 0} → (A → A → Bool) → List A → List A → Bool
equals same [] [] = true
equals same [] (y ∷ ys) = false
equals same (x ∷ xs) [] = false
equals same (x ∷ xs) (y ∷ ys) = same x y && equals same xs ys

pub begins-true : {A : Type 0} (same : A → A → Bool) → ((x y : A) → same x y ≡ true → x ≡ y) → (xs ys : List A)
    → begins same xs ys ≡ true → IsPrefix xs ys
begins-true same tells [] ys e = tt
begins-true same tells (x ∷ xs) [] e = absurd cc
begins-true same tells (x ∷ xs) (y ∷ ys) e =
    let parts = and_parts _ _ e in (tells x y parts.0, begins-true same tells xs ys parts.1)

pub equals-true : {A : Type 0} (same : A → A → Bool) → ((x y : A) → same x y ≡ true → x ≡ y) → (xs ys : List A)
    → equals same xs ys ≡ true → xs ≡ ys
equals-true same tells [] [] e = refl
equals-true same tells [] (y ∷ ys) e = absurd cc
equals-true same tells (x ∷ xs) [] e = absurd cc
equals-true same tells (x ∷ xs) (y ∷ ys) e =
    let parts = and_parts _ _ e in λ i. tells x y parts.0 i ∷ equals-true same tells xs ys parts.1 i

-- ---- the smallest channel

all_of : (test : ℕ → Bool) (xs : List ℕ) → list_all test xs ≡ true → (x : ℕ) → Contains xs x → test x ≡ true
all_of test [] e x h = absurd (Contains-none x h)
all_of test (y ∷ ys) e x h =
    let parts = and_parts _ _ e in
    elim (Contains-cases y ys x h) [
      | inl same ↦ subst (λ z. test z ≡ true) same parts.0
      | inr later ↦ all_of test ys parts.1 x later
    ]

abbrev before : (ℕ → ℕ) → (c d : ℕ) → Bool
before cap c d = nat_lt (cap c) (cap d) || (nat_eq (cap c) (cap d) && nat_le c d)

abbrev pub is_smallest : (ℕ → ℕ) → List ℕ → ℕ → Bool
is_smallest cap channels c = member c channels && list_all (before cap c) channels

abbrev lesser : (ℕ → ℕ) → ℕ → Option ℕ → ℕ
lesser cap c None = c
lesser cap c (Some d) = if before cap c d then c else d

-- a channel that is to be the smallest; none if there is no channel
abbrev pub smallest : (ℕ → ℕ) → List ℕ → Option ℕ
smallest cap [] = None
smallest cap (c ∷ channels) = Some (lesser cap c (smallest cap channels))

before-true : (cap : ℕ → ℕ) (c d : ℕ) → before cap c d ≡ true → (cap c < cap d) ⊎ ((cap c ≡ cap d) × (c ≤ d))
before-true cap c d e =
    elim (or_cases _ _ e) [
      | inl less ↦ inl (ltb-true _ _ less)
      | inr level ↦ let parts = and_parts _ _ level in inr (eqb-true _ _ parts.0, leb-true _ _ parts.1)
    ]

pub is_smallest-true : (cap : ℕ → ℕ) (channels : List ℕ) (c : ℕ) → is_smallest cap channels c ≡ true
    → IsSmallest cap channels c
is_smallest-true cap channels c e =
    let parts = and_parts _ _ e in
    record {
      among = member-true c channels parts.0;
      least = λ d h. before-true cap c d (all_of (before cap c) channels parts.1 d h);
    }
