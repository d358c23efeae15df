-- Lists that are compared item by item.
use Rattle.kpn_net.proofs.Common.{◌≡◌, ◌↔◌, IsTrue, ℕ, ◌<◌, Bool, List, length, sym, ◌∙◌, MatchBool, zip, AllWithin, HoldsAt, map-id, Alike, Differ, same_by_pairs}

pub same_pairs : {X : Type 0} (xs ys : List X) (r : Bool) → length xs ≡ length ys
    → MatchBool r (AllWithin (Alike (λ (x : X). x)) (zip xs ys) 0 (length (zip xs ys)))
    ((k : ℕ) × (k < length (zip xs ys)) × HoldsAt (Differ (λ (x : X). x)) (zip xs ys) k) → IsTrue r ↔ (xs ≡ ys)
same_pairs {X} xs ys r e h =
    let mapped = same_by_pairs (λ (x : X). x) xs ys r e h in
    (λ t. sym (map-id xs) ∙ mapped.0 t ∙ map-id ys, λ s. mapped.1 (map-id xs ∙ s ∙ sym (map-id ys)))
