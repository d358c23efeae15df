-- Lists from which items are read one by one: each has a place, before which all is read.
use Rattle.std.specs.Prelude.{ℕ, ℤ, List, [], ◌∷◌, Option, drop, slice_get, slice_set}
use Rattle.kpn_lang.specs.Run.{Lists, list_at}

-- what remains of each list after its place
abbrev pub remaining : Lists → (places : List ℕ) → Lists
remaining [] places = []
remaining (items ∷ lists) [] = []
remaining (items ∷ lists) (place ∷ places) = drop place items ∷ remaining lists places

-- the item that is read next at a port, if there is one
abbrev pub next_at : Lists → (port : ℕ) → Option ℤ
next_at lists port = slice_get (list_at lists port) 0

-- the lists once it is read; the same lists if there is none
abbrev pub without_next : Lists → (port : ℕ) → Lists
without_next lists port = slice_set lists port (drop 1 (list_at lists port))
