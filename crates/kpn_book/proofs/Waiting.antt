-- Lists from which the first elements were taken.
use Rattle.kpn_book.proofs.Common.{◌≡◌, ℕ, zero, suc, ◌+◌, Some, List, [], ◌∷◌, drop, slice_get, refl, ap, ◌∙◌, drop_more, slice_get_within, get_or_from_slice_get}

pub first_taken : (xs : List ℕ) (taken p : ℕ) → slice_get xs taken ≡ Some p → drop taken xs ≡ p ∷ drop (taken + 1) xs
first_taken xs taken p e =
    drop_more xs taken p (slice_get_within xs taken p e)
    ∙ ap (λ y. y ∷ drop (taken + 1) xs) (get_or_from_slice_get xs taken p p e)

pub first_waits : (xs : List ℕ) (taken : ℕ) → slice_get (drop taken xs) 0 ≡ slice_get xs taken
first_waits xs zero = refl
first_waits [] (suc taken) = refl
first_waits (x ∷ xs) (suc taken) = first_waits xs taken
