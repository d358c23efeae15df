-- What one more event does to the lists of a history.
use Rattle.std.proofs.Common.{◌≡◌, ℕ, cond, Bool, true, false, ◌||◌, List, [], ◌∷◌, ◌++◌, Option, Some, None, refl, sym, ap, ◌∙◌}
use Rattle.kpn_history.proofs.Common.{filter, flat_map, last_or, filter-append, list_any-append, Said, IsPrefix, Event, Get, Put, is_of, last_event, said_in, talk_of, is_end_of, has_ended, written_in, read_in, written_on, read_on, IsPrefix-append}
use Rattle.std.proofs.lemmas.List.{flat_map_more, append-nil}

pub Some-event : (a b : Event) → ◌≡◌ {A = Option Event} (Some a) (Some b) → a ≡ b
Some-event a b e = cc

-- ---- any lists

pub flat_map-push : {X A : Type 0} (f : X → List A) (xs : List X) (x : X)
    → flat_map f (xs ++ x ∷ []) ≡ flat_map f xs ++ f x
flat_map-push f xs x = sym (flat_map_more f [] xs x)

pub flat_map-grows : {X A : Type 0} (f : X → List A) (xs : List X) (x : X)
    → IsPrefix (flat_map f xs) (flat_map f (xs ++ x ∷ []))
flat_map-grows f xs x = rw (flat_map-push f xs x) (IsPrefix-append (flat_map f xs) (f x))

-- if the event adds nothing
pub flat_map-same : {X A : Type 0} (f : X → List A) (xs : List X) (x : X) → f x ≡ []
    → flat_map f (xs ++ x ∷ []) ≡ flat_map f xs
flat_map-same f xs x e = flat_map-push f xs x ∙ ap (λ ys. flat_map f xs ++ ys) e ∙ append-nil (flat_map f xs)

pub last_or-push : {A : Type 0} (o : Option A) (xs : List A) (x : A) → last_or o (xs ++ x ∷ []) ≡ Some x
last_or-push o [] x = refl
last_or-push o (y ∷ xs) x = last_or-push (Some y) xs x

-- ---- the last event of a process

pub last_event-own : (H : List Event) (e : Event) (p : ℕ) → is_of p e ≡ true → last_event (H ++ e ∷ []) p ≡ Some e
last_event-own H e p own =
    ap (last_or None) (filter-append (is_of p) H (e ∷ []) ∙ ap (λ b. filter (is_of p) H ++ cond b (e ∷ []) []) own)
    ∙ last_or-push None (filter (is_of p) H) e

pub last_event-other : (H : List Event) (e : Event) (p : ℕ) → is_of p e ≡ false
    → last_event (H ++ e ∷ []) p ≡ last_event H p
last_event-other H e p other =
    ap (last_or None)
    (filter-append (is_of p) H (e ∷ []) ∙ ap (λ b. filter (is_of p) H ++ cond b (e ∷ []) []) other
    ∙ append-nil (filter (is_of p) H))

-- ---- what processes said

pub talk_of-push : (H : List Event) (e : Event) (p : ℕ) → talk_of (H ++ e ∷ []) p ≡ talk_of H p ++ said_in p e
talk_of-push H e p = flat_map-push (said_in p) H e

pub talk_of-grows : (H : List Event) (e : Event) (p : ℕ) → IsPrefix (talk_of H p) (talk_of (H ++ e ∷ []) p)
talk_of-grows H e p = flat_map-grows (said_in p) H e

said_if : (b : Bool) (said : Said) → b ≡ false → cond b (said ∷ []) [] ≡ []
said_if b said e = ap (λ x. cond x (said ∷ []) []) e

-- an event of another says nothing for a process
pub said_in-other : (p : ℕ) (e : Event) → is_of p e ≡ false → said_in p e ≡ []
said_in-other p (Get q c v) other = said_if _ _ other
said_in-other p (Put q c v) other = said_if _ _ other
said_in-other p event other = refl

pub talk_of-other : (H : List Event) (e : Event) (p : ℕ) → is_of p e ≡ false → talk_of (H ++ e ∷ []) p ≡ talk_of H p
talk_of-other H e p other = flat_map-same (said_in p) H e (said_in-other p e other)

-- ---- ends

pub has_ended-push : (H : List Event) (e : Event) (p : ℕ)
    → has_ended (H ++ e ∷ []) p ≡ (has_ended H p || (is_end_of p e || false))
has_ended-push H e p = list_any-append (is_end_of p) H (e ∷ [])

-- ---- items

pub written_on-push : (H : List Event) (e : Event) (c : ℕ)
    → written_on (H ++ e ∷ []) c ≡ written_on H c ++ written_in c e
written_on-push H e c = flat_map-push (written_in c) H e

pub written_on-grows : (H : List Event) (e : Event) (c : ℕ) → IsPrefix (written_on H c) (written_on (H ++ e ∷ []) c)
written_on-grows H e c = flat_map-grows (written_in c) H e

pub written_on-same : (H : List Event) (e : Event) (c : ℕ) → written_in c e ≡ []
    → written_on (H ++ e ∷ []) c ≡ written_on H c
written_on-same H e c none = flat_map-same (written_in c) H e none

pub read_on-push : (H : List Event) (e : Event) (c : ℕ) → read_on (H ++ e ∷ []) c ≡ read_on H c ++ read_in c e
read_on-push H e c = flat_map-push (read_in c) H e

pub read_on-grows : (H : List Event) (e : Event) (c : ℕ) → IsPrefix (read_on H c) (read_on (H ++ e ∷ []) c)
read_on-grows H e c = flat_map-grows (read_in c) H e

pub read_on-same : (H : List Event) (e : Event) (c : ℕ) → read_in c e ≡ [] → read_on (H ++ e ∷ []) c ≡ read_on H c
read_on-same H e c none = flat_map-same (read_in c) H e none
