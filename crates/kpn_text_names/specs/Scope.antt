-- The names that a process knows.
use Rattle.std.specs.Prelude.{ℕ, ◌+◌, ℤ, Bool, true, not, ◌&&◌, ◌||◌, if◌then◌else◌, List, [], ◌∷◌, ◌++◌, length, map, Option, Some, None, Result, Ok, Err}
use Rattle.std.specs.List.{position_or_len}
use Rattle.std.specs.Str.{bytes_eq}
use Rattle.kpn_limits.specs.declared.TheConstants.{MAX_VARIABLES}
use Rattle.kpn_text_grammar.specs.Syntax.{NameBytes, literal_value, Table, Declaration, array, table, ProcessNode}
use Rattle.kpn_text_tokens.specs.Results.{◌>>=◌}
use Rattle.kpn_text_names.specs.Fault.{NameError, double}
use Rattle.kpn_text_names.specs.Names.{has, known, number_of, with_name}
use Rattle.kpn_text_names.specs.Rows.{rows_from, within_64_bits, with_row, row_at}
use Rattle.kpn_text_names.specs.declared.rows.Row.{Row}
use Rattle.kpn_text_names.specs.declared.tables.KnownTables.{KnownTables}
use Rattle.kpn_text_names.specs.declared.scope.NameScope.{NameScope}

-- each of these names is new beside those before it
abbrev pub are_new : (before : List NameBytes) → List NameBytes → Bool
are_new before [] = true
are_new before (x ∷ xs) = not (has before x) && are_new (before ++ x ∷ []) xs

-- no tables yet
abbrev pub no_tables : KnownTables
no_tables = record { rows = rows_from 0; values = []; used = [] }

-- These names and no arrays and tables. The cells of arrays have numbers from 64 on, and those of tables numbers behind
-- them, so that the rows of tables have places from 0 on.
abbrev pub scope_with : (ins outs vars : List NameBytes) → NameScope
scope_with ins outs vars =
    record { ins = ins; outs = outs; vars = vars; arrays = rows_from MAX_VARIABLES; tables = no_tables }

-- the names of the head of a process: its ports and parameters, which are distinct and none of the shared tables. The
-- parameters are the first variables
abbrev pub head_scope : (shared : List NameBytes) → ProcessNode → Result NameScope NameError
head_scope shared p =
    if are_new shared (p.ins ++ p.outs ++ p.pars) then Ok (scope_with p.ins p.outs p.pars) else Err double

abbrev pub is_port : NameScope → NameBytes → Bool
is_port s x = has s.ins x || has s.outs x

-- an array or a table of the process, or a shared table, has this name
abbrev pub is_row : (shared : List NameBytes) → NameScope → NameBytes → Bool
is_row shared s x = has shared x || (has s.arrays.names x || has s.tables.rows.names x)

-- the name is not new
abbrev pub is_taken : (shared : List NameBytes) → NameScope → NameBytes → Bool
is_taken shared s x = is_row shared s x || (is_port s x || has s.vars x)

-- ---- arrays and tables

abbrev pub table_values : Table → List ℤ
table_values t = map literal_value t.values

-- with a table more of the process, behind the others
abbrev pub with_table : KnownTables → Table → KnownTables
with_table ts t = record ts {
  rows = with_row ts.rows t.name (length t.values);
  values = ts.values ++ table_values t;
}

abbrev pub with_declaration : NameScope → Declaration → NameScope
with_declaration s (array x n) = record s { arrays = with_row s.arrays x n }
with_declaration s (table t) = record s { tables = with_table s.tables t }

abbrev pub declared_name : Declaration → NameBytes
declared_name (array x n) = x
declared_name (table t) = t.name

-- an array or a table, whose name must be new
abbrev pub declare : (shared : List NameBytes) → NameScope → Declaration → Result NameScope NameError
declare shared s d = if is_taken shared s (declared_name d) then Err double else Ok (with_declaration s d)

-- ---- uses of names

-- a name that is set: a variable and nothing else; a new name makes a new one. The names from there on, and its number
abbrev pub target : (shared : List NameBytes) → NameScope → NameBytes → Result (NameScope × ℕ) NameError
target shared s x =
    if is_port s x || is_row shared s x then Err double else
    Ok (record s { vars = with_name s.vars x }, position_or_len (bytes_eq x) s.vars)

-- the same before the body is read: a port, an array or a table makes no variable
abbrev pub with_target : (shared : List NameBytes) → NameScope → NameBytes → NameScope
with_target shared s x = if is_port s x || is_row shared s x then s else record s { vars = with_name s.vars x }

-- the cells of an array
abbrev pub array_row : NameScope → NameBytes → Result Row NameError
array_row s x = known s.arrays.names x >>= λ k. Ok (row_at s.arrays.rows k)

-- a row behind the arrays
abbrev pub behind_arrays : NameScope → Row → Row
behind_arrays s r = record { base = within_64_bits (s.arrays.end + r.base); size = r.size }

-- the cells of a table
abbrev pub table_row : NameScope → NameBytes → Result Row NameError
table_row s x = known s.tables.rows.names x >>= λ k. Ok (behind_arrays s (row_at s.tables.rows.rows k))

-- the cells of an array or a table
abbrev pub row_or : NameScope → NameBytes → Option ℕ → Result Row NameError
row_or s x (Some k) = Ok (row_at s.arrays.rows k)
row_or s x None = table_row s x

abbrev pub row_of : NameScope → NameBytes → Result Row NameError
row_of s x = row_or s x (number_of s.arrays.names x)
