-- What remains of lists at places, and how a read moves a place on.
use Rattle.kpn_lang.proofs.Common.{◌≡◌, ℕ, zero, suc, ◌+◌, ◌≤◌, ◌<◌, ℤ, List, [], ◌∷◌, length, replicate, set, get_or, drop, Some, None, refl, sym, ap, ◌∙◌, arith, drop-drop, drop_all, set-get_or, get_or_read, slice_get_past, slice_get_read, Said, Lists, list_at, remaining, next_at, without_next, Standing}
use Rattle.std.specs.Prelude.{slice_get}

pub length-remaining : (lists : Lists) (places : List ℕ) → length places ≡ length lists →
    length (remaining lists places) ≡ length lists
length-remaining [] places e = refl
length-remaining (items ∷ lists) [] e = e
length-remaining (items ∷ lists) (place ∷ places) e =
    let r = length-remaining lists places (omega arith) in omega arith

pub list_at-remaining : (lists : Lists) (places : List ℕ) (port : ℕ) → length places ≡ length lists →
    list_at (remaining lists places) port ≡ drop (get_or places port 0) (list_at lists port)
list_at-remaining [] [] port e = refl
list_at-remaining [] (place ∷ places) port e = absurd (omega arith)
list_at-remaining (items ∷ lists) [] port e = absurd (omega arith)
list_at-remaining (items ∷ lists) (place ∷ places) zero e = refl
list_at-remaining (items ∷ lists) (place ∷ places) (suc port) e = list_at-remaining lists places port (omega arith)

pub remaining-set : (lists : Lists) (places : List ℕ) (port : ℕ) → length places ≡ length lists →
    without_next (remaining lists places) port ≡ remaining lists (set places port (get_or places port 0 + 1))
remaining-set [] [] port e = refl
remaining-set [] (place ∷ places) port e = absurd (omega arith)
remaining-set (items ∷ lists) [] port e = absurd (omega arith)
remaining-set (items ∷ lists) (place ∷ places) zero e =
    ap (λ xs. xs ∷ remaining lists places) (drop-drop 1 place items)
remaining-set (items ∷ lists) (place ∷ places) (suc port) e =
    ap (λ rest. drop place items ∷ rest) (remaining-set lists places port (omega arith))

pub slice_get-drop : {A : Type 0} (xs : List A) (place : ℕ) → slice_get (drop place xs) 0 ≡ slice_get xs place
slice_get-drop [] zero = refl
slice_get-drop [] (suc place) = refl
slice_get-drop (x ∷ xs) zero = refl
slice_get-drop (x ∷ xs) (suc place) = slice_get-drop xs place

-- the list of a port as it was read, at its place
module _ (lists : Lists) (places : List ℕ) (port : ℕ) (items : List ℤ) (even : length places ≡ length lists)
    (there : port < length lists) (read : items ≡ get_or lists port items) where
  left_there : list_at (remaining lists places) port ≡ drop (get_or places port 0) items
  left_there =
      list_at-remaining lists places port even
      ∙ ap (λ xs. drop (get_or places port 0) xs) (sym (get_or_read lists port items there read []))

  first_there : next_at (remaining lists places) port ≡ slice_get items (get_or places port 0)
  first_there = ap (λ xs. slice_get xs 0) left_there ∙ slice_get-drop items (get_or places port 0)

  -- at the end of a list nothing is read
  pub no_next : length items ≤ get_or places port 0 → None ≡ next_at (remaining lists places) port
  no_next past = sym (first_there ∙ slice_get_past items (get_or places port 0) past)

  pub without_none : length items ≤ get_or places port 0 →
      remaining lists places ≡ without_next (remaining lists places) port
  without_none past =
      let nothing : list_at (remaining lists places) port ≡ [] =
      left_there ∙ drop_all (get_or places port 0) items past in
      sym (ap (λ xs. set (remaining lists places) port (drop 1 xs)) nothing
      ∙ ap (λ xs. set (remaining lists places) port xs) (sym nothing)
      ∙ set-get_or (remaining lists places) port [])

  -- before the end the item there is read
  pub next_is : (v : ℤ) → get_or places port 0 < length items → v ≡ get_or items (get_or places port 0) v →
      Some v ≡ next_at (remaining lists places) port
  next_is v within at = sym (first_there ∙ slice_get_read items (length items) (get_or places port 0) v refl within at)

-- a port of what remains is a port of the lists
pub port_of_remaining : (here : Standing) (lists : Lists) (places : List ℕ) (port : ℕ) → length places ≡ length lists →
    remaining lists places ≡ here.lists → port < length here.lists → port < length lists
port_of_remaining here lists places port even e h =
    let r = length-remaining lists places even in
    let k : length (remaining lists places) ≡ length here.lists = ap length e in
    omega arith

-- at the start all of the lists remains
pub remaining-start : (lists : Lists) → remaining lists (replicate (length lists) 0) ≡ lists
remaining-start [] = refl
remaining-start (items ∷ lists) = ap (λ rest. items ∷ rest) (remaining-start lists)

-- two places in a run are the same if their parts are
pub Standing-same : (variables variables' : List ℤ) (lists lists' : Lists) (talk talk' : List Said) →
    variables ≡ variables' → lists ≡ lists' → talk ≡ talk' →
    ◌≡◌ {A = Standing} (record { variables = variables; lists = lists; talk = talk })
    (record { variables = variables'; lists = lists'; talk = talk' })
Standing-same variables variables' lists lists' talk talk' p q r =
    λ i. record { variables = p i; lists = q i; talk = r i }
