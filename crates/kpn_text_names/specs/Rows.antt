-- Cells in rows: the cells of arrays, and the values of tables. The rows stand one behind another.
use Rattle.std.specs.Prelude.{ℕ, ◌+◌, min, List, [], ◌∷◌, ◌++◌, slice_index_or}
use Rattle.kpn_text_grammar.specs.Syntax.{NameBytes}
use Rattle.kpn_text_names.specs.Names.{with_name}
use Rattle.kpn_text_names.specs.declared.rows.Row.{Row}
use Rattle.kpn_text_names.specs.declared.rows.Rows.{Rows}

-- no rows yet, of which the first will begin at this place
abbrev pub rows_from : ℕ → Rows
rows_from place = record { names = []; rows = []; end = place }

-- a place as far as 64 bits can hold it: a program has not so many cells
abbrev pub within_64_bits : ℕ → ℕ
within_64_bits n = min n 18446744073709551615

-- with a row of a new name more, behind the others
abbrev pub with_row : Rows → NameBytes → ℕ → Rows
with_row r x size = record {
  names = with_name r.names x;
  rows = r.rows ++ record { base = r.end; size = size } ∷ [];
  end = within_64_bits (r.end + size);
}

-- the row with a number
abbrev pub row_at : List Row → ℕ → Row
row_at rows k = slice_index_or rows k (record { base = 0; size = 0 })
