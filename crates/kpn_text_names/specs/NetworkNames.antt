-- The names of a network by number.
use Rattle.std.specs.Prelude.{◌≡◌, ℤ, ◌-◌, List, [], ◌∷◌, length, map}
use Rattle.kpn_net.specs.Tables.{Tables}
use Rattle.kpn_text_grammar.specs.Syntax.{NameBytes}
use Rattle.kpn_text_names.specs.declared.network_names.NetworkNames.{NetworkNames}
use Rattle.kpn_text_names.specs.declared.network_names.ProcessNames.{ProcessNames}
use Rattle.kpn_text_names.specs.declared.network_names.NamedRow.{NamedRow}
use Rattle.kpn_text_names.specs.declared.network_names.NamedTable.{NamedTable}
use Rattle.kpn_text_names.specs.declared.rows.Row.{Row}
use Rattle.kpn_text_names.specs.declared.scope.NameScope.{NameScope}
use Rattle.kpn_text_names.specs.Named.{Named}
use Rattle.kpn_text_names.specs.Scope.{behind_arrays}

-- the names of the processes
abbrev pub process_names : NetworkNames → List NameBytes
process_names names = map (λ p. p.name) names.processes

-- the items of two lists, each with the one at its place in the other
abbrev pub paired : {A B C : Type 0} → (A → B → C) → List A → List B → List C
paired f [] bs = []
paired f (a ∷ rest) [] = []
paired f (a ∷ rest) (b ∷ bs) = f a b ∷ paired f rest bs

-- a row with its name, a shared table with its name
abbrev pub named_row : NameBytes → Row → NamedRow
named_row x r = record { name = x; base = r.base; size = r.size }

abbrev pub named_table : NameBytes → List ℤ → NamedTable
named_table x values = record { name = x; values = values }

-- a process with the names in it
abbrev pub process_names_in : NameBytes → NameScope → ProcessNames
process_names_in x s = record {
  name = x;
  ins = s.ins;
  outs = s.outs;
  vars = s.vars;
  arrays = paired named_row s.arrays.names s.arrays.rows;
  tables = paired named_row s.tables.rows.names (map (behind_arrays s) s.tables.rows.rows);
  own = length s.tables.rows.names - length s.tables.used;
}

-- the names of a description
abbrev pub names_in : Named → NetworkNames
names_in n = record {
  tables = paired named_table n.shared.names n.shared.values;
  processes = paired process_names_in n.processes n.scopes;
  instances = n.instances;
  channels = n.channels;
}

-- there are as many names as processes, instances and channels
pub record AreNamed (names : NetworkNames) (t : Tables) : Type 0 where
  pub processes : length names.processes ≡ length t.programs
  pub instances : length names.instances ≡ length t.instances
  pub channels : length names.channels ≡ length t.channels
