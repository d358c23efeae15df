-- A text has no more lines than bytes, so it spells no more items than it has bytes.
use Rattle.std.proofs.Common.{ℕ, suc, ◌≤◌, Bool, true, false, cond, eqb, List, [], ◌∷◌, length, arith, ℤ}
use Rattle.kpn_text_items.proofs.Common.{slice_split, onto_first, lines, lines_of_parts, AllZip-long, SpellsItem, Spells}

-- one byte more makes at most one line more
lines-fed : (parts : List (List ℕ)) → length (lines_of_parts ([] ∷ parts)) ≤ suc (length (lines_of_parts parts))
lines-fed [] = omega arith
lines-fed (x ∷ more) = omega arith

one_line : (empty : Bool) (x : List ℕ) → length (cond empty [] (x ∷ [])) ≤ 1
one_line true x = omega arith
one_line false x = omega arith

lines-onto : (b : ℕ) (parts : List (List ℕ)) → length (lines_of_parts (onto_first b parts)) ≤ suc
    (length (lines_of_parts parts))
lines-onto b [] = omega arith
lines-onto b (x ∷ []) = omega (arith, one_line (eqb (length (b ∷ x)) 0) (b ∷ x))
lines-onto b (x ∷ y ∷ more) = omega arith

by_byte : (fed : Bool) (b : ℕ) (parts : List (List ℕ)) → length
    (lines_of_parts (cond fed ([] ∷ parts) (onto_first b parts))) ≤ suc (length (lines_of_parts parts))
by_byte true b parts = lines-fed parts
by_byte false b parts = lines-onto b parts

length-lines : (bytes : List ℕ) → length (lines bytes) ≤ length bytes
length-lines [] = omega arith
length-lines (b ∷ bytes) = omega (
  arith,
  by_byte (eqb b 10) b (slice_split (λ byte. eqb byte 10) bytes),
  length-lines
      bytes,
)

pub Spells-few : (bytes : List ℕ) (items : List ℤ) → Spells bytes items → length items ≤ length bytes
Spells-few bytes items spelled = omega (arith, AllZip-long SpellsItem (lines bytes) items spelled, length-lines bytes)
