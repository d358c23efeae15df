-- One more item is fed or taken in a call that moves items.
use Rattle.std.proofs.Common.{◌≡◌, ℕ, ◌+◌, ◌<◌, ℤ, pos, List, [], ◌∷◌, ◌++◌, length, map, take, drop, get_or, set, Option, sym, ap, ◌∙◌, subst, arith}
use Rattle.kpn_c.proofs.Common.{take_more, take_more_set, get_or-drop, Book, Happens, AllHappen, Takes, SourceItem, Wanted, feed_of, item_at, wanted_at, filled, TakesForEach, one_take_more}
use Rattle.kpn_c.proofs.OneMore.{one_more}

pub feeds_more : (items : List SourceItem) (count : ℕ) (a b c : Book) → count < length items
    → AllHappen (map feed_of (take count items)) a b → Happens (feed_of (item_at items count)) b c
    → AllHappen (map feed_of (take (count + 1) items)) a c
feeds_more items count a b c below so_far next =
    subst (λ xs. AllHappen (map feed_of xs) a c) (sym (take_more items count _ below))
    (one_more feed_of a b c (take count items) (item_at items count) so_far next)

-- a place that was not served yet is as it was
place_is : (asked places : List Wanted) (count : ℕ) → drop count places ≡ drop count asked
    → wanted_at places count ≡ wanted_at asked count
place_is asked places count rest =
    let d : Wanted = record { channel = 0; item = pos 0; has_item = 0 } in
    let left : get_or (drop count places) 0 d ≡ get_or places (count + 0) d = get_or-drop count places 0 d in
    let right : get_or (drop count asked) 0 d ≡ get_or asked (count + 0) d = get_or-drop count asked 0 d in
    let zero : count + 0 ≡ count = omega arith in
    ap (λ n. get_or places n d) (sym zero) ∙ sym left ∙ ap (λ xs. get_or xs 0 d) rest ∙ right
    ∙ ap (λ n. get_or asked n d) zero

pub wanted_more : (asked places : List Wanted) (count : ℕ) (item : Option ℤ) (got : Wanted) (first b c : Book)
    → count < length asked → length places ≡ length asked → drop count places ≡ drop count asked
    → got ≡ filled item (wanted_at places count) → TakesForEach first (take count asked) (take count places) b
    → Takes (wanted_at places count).channel item b c
    → TakesForEach first (take (count + 1) asked) (take (count + 1) (set places count got)) c
wanted_more asked places count item got first b c below long rest is so_far next =
    let w = wanted_at places count in
    let there = subst (λ n. count < n) (sym long) below in
    subst (λ xs. TakesForEach first xs (take (count + 1) (set places count got)) c)
    (sym (take_more asked count _ below))
    (subst (λ ys. TakesForEach first (take count asked ++ wanted_at asked count ∷ []) ys c)
    (sym (take_more_set places count got there))
    (subst (λ g. TakesForEach first (take count asked ++ wanted_at asked count ∷ []) (take count places ++ g ∷ []) c)
    (sym is)
    (subst (λ v. TakesForEach first (take count asked ++ v ∷ []) (take count places ++ filled item w ∷ []) c)
    (place_is asked places count rest) (one_take_more w item b c so_far next))))
