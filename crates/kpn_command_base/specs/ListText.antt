-- How a list of items stands in a text: one space before each item, so that an empty list adds nothing to its line.
-- And how things that have numbers, as channels have, stand in one: each on lines of its own.
use Rattle.std.specs.Prelude.{ℕ, suc, ℤ, List, [], ◌∷◌, ◌++◌, codes}
use Rattle.std.specs.List.{flat_map}
use Rattle.std.specs.Fmt.{signed_decimal}

-- an item after a space
abbrev pub spaced_item : ℤ → List ℕ
spaced_item item = codes " " ++ signed_decimal item

-- one space before each item
abbrev pub spaced_items : List ℤ → List ℕ
spaced_items items = flat_map spaced_item items

-- `:`, the items, and a line feed
abbrev pub items_text : List ℤ → List ℕ
items_text items = codes ":" ++ spaced_items items ++ codes "\n"

-- `NAME:`, the items, and a line feed
abbrev pub list_line : (name : List ℕ) → List ℤ → List ℕ
list_line name items = name ++ items_text items

-- what is written of each of these in order, of which the first has the number n
abbrev pub lines_from : {A : Type 0} → (line : (number : ℕ) → A → List ℕ) (n : ℕ) → List A → List ℕ
lines_from line n [] = []
lines_from line n (a ∷ more) = line n a ++ lines_from line (suc n) more
