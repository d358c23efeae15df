-- One more item is fed or taken, and one more list is cut off or joined.
use Rattle.std.proofs.Common.{◌≡◌, ℕ, ◌+◌, ◌<◌, ℤ, pos, List, [], ◌∷◌, ◌++◌, length, map, take, drop, get_or, set, sym, ap, ◌∙◌, subst, inl, inr, arith}
use Rattle.std.proofs.lemmas.Bool.{cases_eq}
use Rattle.kpn_c.proofs.Common.{map-append, take_more, take_more_set, drop-set-lt, drop-drop, Event, Feed, Take, Book, Happens, AllHappen, join, one}

module _ {X : Type 0} (event : X → Event) (a b c : Book) where
  pub one_more : (xs : List X) (v : X) → AllHappen (map event xs) a b → Happens (event v) b c
      → AllHappen (map event (xs ++ v ∷ [])) a c
  one_more xs v so_far next =
      subst (λ es. AllHappen es a c) (sym (map-append event xs (v ∷ [])))
      (join (map event xs) (event v ∷ []) a b c so_far (one (event v) b c next))

pub feeds_more : (source : ℕ) (items : List ℤ) (count : ℕ) (a b c : Book) → count < length items
    → AllHappen (map (Feed source) (take count items)) a b → Happens (Feed source (get_or items count (pos 0))) b c
    → AllHappen (map (Feed source) (take (count + 1) items)) a c
feeds_more source items count a b c below so_far next =
    subst (λ xs. AllHappen (map (Feed source) xs) a c) (sym (take_more items count (pos 0) below))
    (one_more (Feed source) a b c (take count items) (get_or items count (pos 0)) so_far next)

pub takes_more : (sink : ℕ) (kept : List ℤ) (count : ℕ) (v : ℤ) (a b c : Book) → count < length kept
    → AllHappen (map (Take sink) (take count kept)) a b → Happens (Take sink v) b c
    → AllHappen (map (Take sink) (take (count + 1) (set kept count v))) a c
takes_more sink kept count v a b c below so_far next =
    subst (λ xs. AllHappen (map (Take sink) xs) a c) (sym (take_more_set kept count v below))
    (one_more (Take sink) a b c (take count kept) v so_far next)

-- what holds of the first book, if it does once an item has moved, or holds of the last book and none has
pub since_first : (P : Book → Type 0) (event : ℤ → Event) (xs : List ℤ) (count : ℕ) (first now : Book)
    → AllHappen (map event (take count xs)) first now → (0 < count → P first) → P now → P first
since_first P event xs count first now happen moved holds =
    elim (cases_eq count 0) [
      | inl zero ↦
          let same : now ≡ first = subst (λ n. AllHappen (map event (take n xs)) first now) zero happen in
          subst P same holds
      | inr other ↦ moved (omega (arith, other))
    ]

pub rest_then : {X : Type 0} (kept room : List X) (count : ℕ) (v : X) → drop count kept ≡ drop count room
    → drop (count + 1) (set kept count v) ≡ drop (count + 1) room
rest_then kept room count v rest =
    drop-set-lt (count + 1) kept count v (omega arith)
    ∙ sym (drop-drop 1 count kept) ∙ ap (drop 1) rest ∙ drop-drop 1 count room
