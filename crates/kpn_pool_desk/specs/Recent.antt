-- What a seat of the outside remembers of its items.
use Rattle.std.specs.Prelude.{ℕ, ℤ, Bool, List, [], ◌∷◌, ◌++◌, length}

-- all items, in order; how many of them, from the first one on, are forgotten; and whether there is room for one more
pub record Recent : Type 0 where
  pub items : List ℤ
  pub forgotten : ℕ
  pub has_room : Bool

-- no items yet
abbrev pub none_yet : Bool → Recent
none_yet has_room = record { items = []; forgotten = 0; has_room = has_room }

abbrev pub with_spare_room : Bool → Recent → Recent
with_spare_room has_room r = record r { has_room = has_room }

-- one item more
abbrev pub with_newest : ℤ → Bool → Recent → Recent
with_newest item has_room r = record r { items = r.items ++ item ∷ []; has_room = has_room }

-- all items are forgotten
abbrev pub forgetful : Bool → Recent → Recent
forgetful has_room r = record r { forgotten = length r.items; has_room = has_room }
