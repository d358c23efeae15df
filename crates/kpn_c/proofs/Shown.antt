-- One more item is shown.
use Rattle.std.proofs.Common.{◌≡◌, ℕ, ◌+◌, ◌<◌, ℤ, pos, List, [], ◌∷◌, ◌++◌, length, take, set, Some, sym, ap, ◌∙◌, arith}
use Rattle.kpn_c.proofs.Common.{slice_get, take_more, take_more_set, ChannelState, item_after, next_items}
use Rattle.std.proofs.lemmas.Option.{slice_get_within, get_or_from_slice_get}

next_is : (k : ℕ) (ch : ChannelState) → item_after k ch ≡ slice_get (next_items ch) k
next_is k ch = grind (arith)

pub there_is : (k : ℕ) (ch : ChannelState) (v : ℤ) → item_after k ch ≡ Some v → k < length (next_items ch)
there_is k ch v is = slice_get_within (next_items ch) k v (sym (next_is k ch) ∙ is)

pub shown_more : (k : ℕ) (ch : ChannelState) (v : ℤ) (room : List ℤ) → item_after k ch ≡ Some v → k < length room
    → take k room ≡ take k (next_items ch) → take (k + 1) (set room k v) ≡ take (k + 1) (next_items ch)
shown_more k ch v room is there so_far =
    let items = next_items ch in
    let found = get_or_from_slice_get items k v (pos 0) (sym (next_is k ch) ∙ is) in
    take_more_set room k v there ∙ ap (λ xs. xs ++ v ∷ []) so_far ∙ ap (λ x. take k items ++ x ∷ []) (sym found)
    ∙ sym (take_more items k (pos 0) (there_is k ch v is))
