-- What a description names: the tables of a network, and the names of their parts by number.
use Rattle.std.specs.Prelude.{◌≡◌, ℕ, ◌+◌, ◌-◌, ℤ, List, [], ◌∷◌, ◌++◌, length, map, Result, Ok}
use Rattle.std.specs.List.{flat_map}
use Rattle.kpn_limits.specs.declared.TheConstants.{MAX_VARIABLES}
use Rattle.kpn_lang.specs.View.{vars_with}
use Rattle.kpn_lang.specs.Parts.{Parts}
use Rattle.kpn_net.specs.Tables.{Tables}
use Rattle.kpn_text_grammar.specs.Syntax.{NameBytes, Statements, ProcessNode, Description}
use Rattle.kpn_text_tokens.specs.declared.tokens.Language.{Language}
use Rattle.kpn_text_names.specs.declared.scope.NameScope.{NameScope}
use Rattle.kpn_text_names.specs.Fault.{NameError, each}
use Rattle.kpn_text_tokens.specs.Results.{◌>>=◌}
use Rattle.kpn_text_names.specs.Names.{declared}
use Rattle.kpn_text_names.specs.declared.tables.SharedTables.{SharedTables}
use Rattle.kpn_text_names.specs.Scope.{head_scope, declare}
use Rattle.kpn_text_names.specs.Shared.{shared_of, values_at, used_in}
use Rattle.kpn_text_names.specs.Targets.{known_before}
use Rattle.kpn_text_names.specs.Blocks.{WrittenBody, body_of}
use Rattle.kpn_text_names.specs.Network.{Wiring, Settings, settings_of, wiring}

-- the parts of a program, and the names of its ports and variables, arrays and tables
pub record NamedProgram : Type 0 where
  pub names : NameScope
  pub parts : Parts

-- how many cells the arrays have
abbrev pub free_of : NameScope → ℕ
free_of s = s.arrays.end - MAX_VARIABLES

-- the values of the tables: those of the process, and those of the shared ones that it names
abbrev pub values_of : SharedTables → NameScope → List ℤ
values_of shared s = s.tables.values ++ flat_map (values_at shared) s.tables.used

-- the program of a head and a body, if these are the shared tables
abbrev pub program_with : SharedTables → NameScope → WrittenBody → NamedProgram
program_with shared s body =
    let free : ℕ = free_of body.scope in
    let values : List ℤ = values_of shared body.scope in
    record {
      names = body.scope;
      parts =
          record {
            ins = length body.scope.ins;
            outs = length body.scope.outs;
            pars = length s.vars;
            vars = vars_with (length body.scope.vars) (free + length values);
            free = free;
            tables = values;
            blocks = body.blocks;
          };
    }

-- with the shared tables that a body names
abbrev pub with_uses : SharedTables → NameScope → Statements → NameScope
with_uses shared s b = record s { tables = used_in shared s.tables b }

-- the names that are known at the first statement of a body
abbrev pub at_body : Language → SharedTables → NameScope → Statements → NameScope
at_body l shared s b = known_before l shared.names (with_uses shared s b) b

-- a process: its head, its arrays and tables, and its body with the locals that it makes
abbrev pub named_program : Language → SharedTables → ProcessNode → Result NamedProgram NameError
named_program l shared p = do
  h ← head_scope shared.names p
  s ← each (declare shared.names) h p.declarations
  body ← body_of shared.names (at_body l shared s p.body) p.body
  Ok (program_with shared s body)

-- the processes so far, with their names
pub record Programs : Type 0 where
  pub names : List NameBytes
  pub programs : List NamedProgram

abbrev pub with_named_process : Language → SharedTables → Programs → ProcessNode → Result Programs NameError
with_named_process l shared so_far p = do
  names ← declared so_far.names p.name
  made ← named_program l shared p
  Ok (record { names = names; programs = so_far.programs ++ made ∷ [] })

-- the processes in the order of the text
abbrev pub programs_of : Language → SharedTables → List ProcessNode → Result Programs NameError
programs_of l shared processes = each (with_named_process l shared) (record { names = []; programs = [] }) processes

-- a description with numbers for names: the tables of a network, the shared tables, and the names by number
pub record Named : Type 0 where
  pub tables : Tables
  pub shared : SharedTables
  pub processes : List NameBytes
  pub scopes : List NameScope
  pub instances : List NameBytes
  pub channels : List NameBytes

-- what the tables of the processes and of the network come to, under these settings
abbrev pub named_with : SharedTables → Settings → Programs → Wiring → Named
named_with shared s p w = record {
  tables =
      record {
        programs = map (λ q. q.parts) p.programs;
        instances = w.instances;
        channels = w.channels;
        limit = s.limit;
        policy = s.policy;
        growth = s.growth;
      };
  shared = shared;
  processes = p.names;
  scopes = map (λ q. q.names) p.programs;
  instances = w.instance_names;
  channels = w.channel_names;
}

-- what the description of this language names, or what is first wrong with a name in the order of the text
abbrev pub resolve : Language → Description → Result Named NameError
resolve l d = do
  shared ← shared_of d.tables
  p ← programs_of l shared d.processes
  w ← wiring p.names d.network.items
  Ok (named_with shared (settings_of d.network) p w)

-- there are as many names as processes, instances and channels
pub record EachIsNamed (n : Named) : Type 0 where
  pub processes : length n.processes ≡ length n.tables.programs
  pub scopes : length n.scopes ≡ length n.tables.programs
  pub instances : length n.instances ≡ length n.tables.instances
  pub channels : length n.channels ≡ length n.tables.channels
