-- A list begins with another if and only if its first items, as many as the other has, are the other.
use Rattle.kpn_book.proofs.Common.{◌≡◌, List, [], ◌∷◌, length, take, refl, ap, ◌∙◌, IsPrefix}

pub prefix_from_take : {A : Type 0} (xs ys : List A) → xs ≡ take (length xs) ys → IsPrefix xs ys
prefix_from_take [] ys is = tt
prefix_from_take (x ∷ xs) [] is = absurd cc
prefix_from_take (x ∷ xs) (y ∷ ys) is =
    let first : x ≡ y = cc in
    let rest : xs ≡ take (length xs) ys = cc in
    (first, prefix_from_take xs ys rest)

pub take_from_prefix : {A : Type 0} (xs ys : List A) → IsPrefix xs ys → xs ≡ take (length xs) ys
take_from_prefix [] ys begins = refl
take_from_prefix (x ∷ xs) [] begins = absurd begins
take_from_prefix (x ∷ xs) (y ∷ ys) begins =
    ap (λ z. z ∷ xs) begins.0 ∙ ap (λ l. y ∷ l) (take_from_prefix xs ys begins.1)
