-- Scaffolding: what the code's tests of the rules have counted on their way. Only contracts of private functions use
-- it. To read what the language is, nobody needs it.
use Rattle.std.specs.Prelude.{ℕ, ◌+◌, ◌-◌, nat_le, nat_eq, if◌then◌else◌, List, [], ◌∷◌, Option, Some, None}

-- what remains of a budget after this many nodes; nothing if there are more
abbrev pub budget_after : (budget nodes : ℕ) → Option ℕ
budget_after budget nodes = if nat_le nodes budget then Some (budget - nodes) else None

-- the number after a list, if the list counts up from a number
abbrev pub count_through : List ℕ → ℕ → Option ℕ
count_through [] next = Some next
count_through (b ∷ bs) next = if nat_eq b next then count_through bs (next + 1) else None
