-- Reading a file line by line: what the lines so far spell, and which line is bad.
use Rattle.kpn_text_items.proofs.Common.{◌≡◌, ℕ, ◌+◌, List, [], ◌∷◌, ◌++◌, length, sym, ap, ◌∙◌, arith, append_assoc, AllZip, lines, AllZip-long, SpellsItem, IsFirstBad}
use lib.IntN.{ℤ}

-- the lines of the bytes are some that spell the items so far, and then those of the rest
pub record HasTaken (bytes rest : List ℕ) (items : List ℤ) : Type 0 where
  pub taken : List (List ℕ)
  pub whole : lines bytes ≡ taken ++ lines rest
  pub spelled : AllZip SpellsItem taken items

-- what holds of two lists, place by place, holds of them with one more item each
pub AllZip-push : {A B : Type 0} (R : A → B → Type 0) (xs : List A) (ys : List B) (x : A) (y : B) → AllZip R xs ys
    → R x y → AllZip R (xs ++ x ∷ []) (ys ++ y ∷ [])
AllZip-push R [] [] x y h k = (k, tt)
AllZip-push R [] (b ∷ ys) x y h k = absurd h
AllZip-push R (a ∷ xs) [] x y h k = absurd h
AllZip-push R (a ∷ xs) (b ∷ ys) x y h k = (h.0, AllZip-push R xs ys x y h.1 k)

-- one line more
pub HasTaken-more : (bytes rest line after : List ℕ) (items : List ℤ) (item : ℤ) → HasTaken bytes rest items
    → lines rest ≡ line ∷ lines after → SpellsItem line item → HasTaken bytes after (items ++ item ∷ [])
HasTaken-more bytes rest line after items item h first spells = record {
  taken = h.taken ++ line ∷ [];
  whole = h.whole ∙ ap (λ ls. h.taken ++ ls) first ∙ sym (append_assoc h.taken (line ∷ []) (lines after));
  spelled = AllZip-push SpellsItem h.taken items line item h.spelled spells;
}

-- at a line that spells no item
pub IsFirstBad-from_taken : (bytes rest line after : List ℕ) (items : List ℤ) (n : ℕ) → HasTaken bytes rest items
    → lines rest ≡ line ∷ lines after → ((item : ℤ) → SpellsItem line item → ⊥) → n ≡ length items
    → IsFirstBad bytes (n + 1)
IsFirstBad-from_taken bytes rest line after items n h first none count = record {
  before = h.taken;
  items = items;
  bad = line;
  after = lines after;
  whole = h.whole ∙ ap (λ ls. h.taken ++ ls) first;
  spelled = h.spelled;
  spells_none = none;
  counted = omega (arith, AllZip-long SpellsItem h.taken items h.spelled);
}
