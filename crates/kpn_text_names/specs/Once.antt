-- Tables in which no name is twice.
use Rattle.std.specs.Prelude.{◌≡◌, ℕ, ◌<◌, List, ◌++◌, length, map, Some}
use Rattle.std.specs.List.{All}
use Rattle.kpn_text_grammar.specs.Syntax.{NameBytes}
use Rattle.kpn_text_names.specs.declared.network_names.NetworkNames.{NetworkNames}
use Rattle.kpn_text_names.specs.declared.network_names.ProcessNames.{ProcessNames}
use Rattle.kpn_text_names.specs.declared.network_names.NamedRow.{NamedRow}
use Rattle.kpn_text_names.specs.declared.network_names.NamedTable.{NamedTable}
use Rattle.kpn_text_names.specs.Names.{name_at, number_of}
use Rattle.kpn_text_names.specs.NetworkNames.{process_names}

-- no name is twice in the table: a search finds each at its own number
abbrev pub StandOnce : List NameBytes → Type 0
StandOnce table = (k : ℕ) → k < length table → number_of table (name_at table k) ≡ Some k

-- the names in a process: its ports and its variables
abbrev pub names_inside : ProcessNames → List NameBytes
names_inside p = p.ins ++ p.outs ++ p.vars

abbrev pub row_names : List NamedRow → List NameBytes
row_names rows = map (λ r. r.name) rows

abbrev pub table_names : List NamedTable → List NameBytes
table_names tables = map (λ t. t.name) tables

-- no name is twice among the ports and variables of a process, its arrays, or the tables that it knows
pub record InsideOnce (p : ProcessNames) : Type 0 where
  pub names : StandOnce (names_inside p)
  pub arrays : StandOnce (row_names p.arrays)
  pub tables : StandOnce (row_names p.tables)

-- no name is twice among the shared tables, the processes, the instances, the channels, or inside a process
pub record EachStandsOnce (names : NetworkNames) : Type 0 where
  pub tables : StandOnce (table_names names.tables)
  pub processes : StandOnce (process_names names)
  pub instances : StandOnce names.instances
  pub channels : StandOnce names.channels
  pub inside : All InsideOnce names.processes
