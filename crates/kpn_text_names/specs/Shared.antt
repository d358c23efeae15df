-- The tables that stand before the processes, and which of them a process names.
use Rattle.std.specs.Prelude.{ℕ, ℤ, if◌then◌else◌, List, [], ◌∷◌, ◌++◌, length, Option, Some, None, Result, Ok, slice_index_or}
use Rattle.kpn_text_grammar.specs.Syntax.{NameBytes, ExpressionNode, numeral, variable, element, minus, negation, complement, binary, conditional, StatementNode, assign, store, receive, send, choice, loop, Statements, no_statements, statement, Table}
use Rattle.kpn_text_tokens.specs.Results.{◌>>=◌}
use Rattle.kpn_text_names.specs.Fault.{NameError, each}
use Rattle.kpn_text_names.specs.Names.{has, declared, number_of}
use Rattle.kpn_text_names.specs.Rows.{with_row}
use Rattle.kpn_text_names.specs.Scope.{table_values}
use Rattle.kpn_text_names.specs.declared.tables.SharedTables.{SharedTables}
use Rattle.kpn_text_names.specs.declared.tables.KnownTables.{KnownTables}

abbrev pub no_shared : SharedTables
no_shared = record { names = []; values = [] }

-- with a table more, whose name must be new
abbrev pub with_shared : SharedTables → Table → Result SharedTables NameError
with_shared s t =
    declared s.names t.name >>= λ names. Ok (record { names = names; values = s.values ++ table_values t ∷ [] })

-- the tables in the order of the text
abbrev pub shared_of : List Table → Result SharedTables NameError
shared_of tables = each with_shared no_shared tables

-- the values of the table with a number
abbrev pub values_at : SharedTables → ℕ → List ℤ
values_at s k = slice_index_or s.values k []

-- ---- those that a process names, behind its own tables, each where it is named first

-- with the shared table of this number
abbrev pub with_use : SharedTables → KnownTables → NameBytes → ℕ → KnownTables
with_use s ts x k =
    record ts { rows = with_row ts.rows x (length (values_at s k)); used = ts.used ++ k ∷ [] }

abbrev pub with_use_if : SharedTables → KnownTables → NameBytes → Option ℕ → KnownTables
with_use_if s ts x (Some k) = if has ts.rows.names x then ts else with_use s ts x k
with_use_if s ts x None = ts

-- with the shared table of this name, if there is one and it is not there yet
abbrev pub with_name_used : SharedTables → KnownTables → NameBytes → KnownTables
with_name_used s ts x = with_use_if s ts x (number_of s.names x)

-- with those that an expression names
abbrev pub used_in_term : SharedTables → KnownTables → ExpressionNode → KnownTables
used_in_term s ts (numeral n) = ts
used_in_term s ts (variable x) = ts
used_in_term s ts (element x e) = used_in_term s (with_name_used s ts x) e
used_in_term s ts (minus e) = used_in_term s ts e
used_in_term s ts (negation e) = used_in_term s ts e
used_in_term s ts (complement e) = used_in_term s ts e
used_in_term s ts (binary o a b) = used_in_term s (used_in_term s ts a) b
used_in_term s ts (conditional c a b) = used_in_term s (used_in_term s (used_in_term s ts c) a) b

abbrev mutual
  -- with those that a statement names
  pub used_in_statement : SharedTables → KnownTables → StatementNode → KnownTables
  used_in_statement s ts (assign x e) = used_in_term s ts e
  used_in_statement s ts (store x i e) = used_in_term s (used_in_term s ts i) e
  used_in_statement s ts (receive i x) = ts
  used_in_statement s ts (send o e) = used_in_term s ts e
  used_in_statement s ts (choice e a b) = used_in s (used_in s (used_in_term s ts e) a) b
  used_in_statement s ts (loop e b) = used_in s (used_in_term s ts e) b

  -- and several
  pub used_in : SharedTables → KnownTables → Statements → KnownTables
  used_in s ts no_statements = ts
  used_in s ts (statement x xs) = used_in s (used_in_statement s ts x) xs
