-- Lists in one flat list.
use Rattle.std.specs.Prelude.{◌≡◌, ◌≢◌, ℕ, ℤ, List, length, map, take, sum, Option, Some, None}
use Rattle.std.specs.List.{flat_map}
use Rattle.kpn_c.specs.declared.lists.CutFault.{CutFault}
use Rattle.kpn_c.specs.declared.lists.CutFault.TheVariants.{Lengths, NoMemory}

-- all items of these lists, list by list
abbrev pub flat_of : List (List ℤ) → List ℤ
flat_of lists = flat_map (λ list. list) lists

-- the flat list has the items of these lists, list by list, and the lists have these lengths
pub record AreLists (items : List ℤ) (lengths : List ℕ) (lists : List (List ℤ)) : Type 0 where
  pub one_by_one : flat_of lists ≡ items
  pub long : map length lists ≡ lengths

-- why a flat list is not cut: the lengths do not sum up to the number of items, or memory ran out
abbrev pub RefusesCut : (items : List ℤ) (lengths : List ℕ) → CutFault → Type 0
RefusesCut items lengths Lengths = sum lengths ≢ length items
RefusesCut items lengths NoMemory = Unit {0}

-- the first items of a list, as many as are wanted at most, or all
abbrev pub first_wanted : (wanted : Option ℕ) → List ℤ → List ℤ
first_wanted None items = items
first_wanted (Some most) items = take most items
