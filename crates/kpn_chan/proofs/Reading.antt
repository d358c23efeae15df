-- What a read returns, and when it returns nothing.
use Rattle.std.specs.Prelude.{◌≡◌, ℕ, suc, ◌+◌, ◌<◌, ℤ, Bool, true, false, ◌⊎◌, ◌↔◌, IsTrue, if◌then◌else◌, List, [], ◌∷◌, ◌++◌, length, take, drop, get_or, Option, Some, None, slice_get, refl}
use Rattle.kpn_chan.proofs.Common.{arith, sym, ap, ◌∙◌, inl, inr, length-drop, drop-cons, take-suc, get_or-drop, slice_get_within, get_or_from_slice_get}
use Rattle.std.proofs.Math.Numerals.{suc-eq-add-one}

-- if a read returns an item, the reader is there
pub given : (gone : Bool) (found : Option ℤ) (item : ℤ) → (if gone then None else found) ≡ Some item → found ≡ Some item
given true found item e = absurd cc
given false found item e = e

-- the first item past a place is the item at that place
pub first_past : (items : List ℤ) (place : ℕ) (item : ℤ) → slice_get (drop place items) 0 ≡ Some item
    → (place < length items) × (get_or items place item ≡ item)
first_past items place item e =
    let within : 0 < length (drop place items) = slice_get_within (drop place items) 0 item e in
    let value : get_or (drop place items) 0 item ≡ item = get_or_from_slice_get (drop place items) 0 item item e in
    let at : get_or (drop place items) 0 item ≡ get_or items (place + 0) item = get_or-drop place items 0 item in
    let here : place + 0 ≡ place = omega arith in
    (omega (arith, within, length-drop place items), sym (ap (λ n. get_or items n item) here) ∙ sym at ∙ value)

pub drop-given : (items : List ℤ) (place : ℕ) (item : ℤ) → slice_get (drop place items) 0 ≡ Some item
    → drop place items ≡ item ∷ drop (place + 1) items
drop-given items place item e =
    let here = first_past items place item e in
    drop-cons items place item here.0
    ∙ ap (λ first. first ∷ drop (suc place) items) here.1
    ∙ ap (λ n. item ∷ drop n items) (suc-eq-add-one place)

pub take-given : (items : List ℤ) (place : ℕ) (item : ℤ) → slice_get (drop place items) 0 ≡ Some item
    → take (place + 1) items ≡ take place items ++ item ∷ []
take-given items place item e =
    let here = first_past items place item e in
    ap (λ n. take n items) (sym (suc-eq-add-one place))
    ∙ take-suc items place item here.0
    ∙ ap (λ last. take place items ++ last ∷ []) here.1

-- a list without a first item is empty
pub lacks_a_first : (items : List ℤ) → slice_get items 0 ≡ None → items ≡ []
lacks_a_first [] e = refl
lacks_a_first (item ∷ rest) e = absurd cc

pub none_is_given : (gone : Bool) (items : List ℤ)
    → ((if gone then None else slice_get items 0) ≡ None) ↔ (IsTrue gone ⊎ (items ≡ []))
none_is_given true items = (λ e. inl refl, λ h. refl)
none_is_given false items =
    (λ e. inr (lacks_a_first items e), λ h. elim h [ inl gone ↦ cc | inr empty ↦ ap (λ xs. slice_get xs 0) empty ])
