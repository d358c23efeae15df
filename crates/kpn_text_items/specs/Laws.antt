-- The laws of item files.
use Rattle.std.specs.Prelude.{◌≡◌, ℕ, List, ℤ, FitsSigned}
use Rattle.std.specs.Int.{w64}
use Rattle.std.specs.List.{All}
use Rattle.kpn_text_items.specs.ItemFile.{Spells, IsFirstBad, item_text}

-- the text of items from -2^63 to 2^63-1 spells those items
abbrev pub ReadsBack : Type 0
ReadsBack = (items : List ℤ) → All (FitsSigned w64) items → Spells (item_text items) items

-- bytes spell at most one list of items
abbrev pub IsUnambiguous : Type 0
IsUnambiguous = (bytes : List ℕ) (xs ys : List ℤ) → Spells bytes xs → Spells bytes ys → xs ≡ ys

-- bytes with a first bad line spell no items, and have no other first bad line
abbrev pub ExcludesSpelling : Type 0
ExcludesSpelling = (bytes : List ℕ) (m : ℕ) → IsFirstBad bytes m
    → ((items : List ℤ) → ¬ Spells bytes items) × ((n : ℕ) → IsFirstBad bytes n → n ≡ m)
