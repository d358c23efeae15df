-- Tables of names. The number of a name is its place in its table, from 0.
use Rattle.std.specs.Prelude.{ℕ, Bool, if◌then◌else◌, List, [], ◌∷◌, ◌++◌, Option, Some, None, Result, Ok, Err, position, slice_index_or}
use Rattle.std.specs.List.{list_any}
use Rattle.std.specs.Str.{bytes_eq}
use Rattle.kpn_text_grammar.specs.Syntax.{NameBytes}
use Rattle.kpn_text_names.specs.Fault.{NameError, unknown, double, each}
use Rattle.kpn_text_tokens.specs.Results.{◌>>=◌}

-- the name with a number; no bytes if there is none
abbrev pub name_at : List NameBytes → ℕ → NameBytes
name_at table k = slice_index_or table k []

-- the name is in the table
abbrev pub has : List NameBytes → NameBytes → Bool
has table x = list_any (bytes_eq x) table

-- the number of a name, if the table has it
abbrev pub number_of : List NameBytes → NameBytes → Option ℕ
number_of table x = position (bytes_eq x) table

abbrev pub or_unknown : Option ℕ → Result ℕ NameError
or_unknown (Some k) = Ok k
or_unknown None = Err unknown

-- the number of a name that must be known
abbrev pub known : List NameBytes → NameBytes → Result ℕ NameError
known table x = or_unknown (number_of table x)

-- the numbers so far and that of one more such name
abbrev pub with_number : List NameBytes → List ℕ → NameBytes → Result (List ℕ) NameError
with_number table numbers x = known table x >>= λ k. Ok (numbers ++ k ∷ [])

-- the numbers of several such names
abbrev pub all_known : List NameBytes → List NameBytes → Result (List ℕ) NameError
all_known table xs = each (with_number table) [] xs

-- the table with a name that must be new
abbrev pub declared : List NameBytes → NameBytes → Result (List NameBytes) NameError
declared table x = if has table x then Err double else Ok (table ++ x ∷ [])

-- the table with a name, which may be there already
abbrev pub with_name : List NameBytes → NameBytes → List NameBytes
with_name table x = if has table x then table else table ++ x ∷ []
