-- Beginnings of lists.
use Rattle.std.specs.Prelude.{◌≡◌, ℕ, List, [], ◌∷◌}
use Rattle.kpn_lang.specs.Run.{Lists, list_at}

-- the second list begins with the first
abbrev pub IsPrefix : {A : Type 0} → List A → List A → Type 0
IsPrefix [] ys = Unit {0}
IsPrefix (x ∷ xs) [] = ⊥
IsPrefix (x ∷ xs) (y ∷ ys) = (x ≡ y) × IsPrefix xs ys

-- the same of families of lists, list by list
abbrev pub ArePrefixes : Lists → Lists → Type 0
ArePrefixes lists longer = (port : ℕ) → IsPrefix (list_at lists port) (list_at longer port)
