-- What the code returns for a description: its programs with their names, and the tables of its network.
use Rattle.std.specs.Prelude.{ℕ, ◌+◌, ℤ, List, length, map}
use Rattle.kpn_lang.specs.View.{blocks_of, parts_with_cells, vars_with}
use Rattle.kpn_net.specs.View.{tables_with}
use Rattle.kpn_text_names.specs.declared.writer.Writer.{Writer}
use Rattle.kpn_text_names.specs.declared.tables.SharedTables.{SharedTables}
use Rattle.kpn_text_names.specs.declared.process.ProgramParts.{ProgramParts}
use Rattle.kpn_text_names.specs.declared.process.Processes.{Processes}
use Rattle.kpn_text_names.specs.declared.network.Wiring.{Wiring as WiringCode}
use Rattle.kpn_text_names.specs.declared.document.Named.{Named as NamedCode}
use Rattle.kpn_text_names.specs.Blocks.{WrittenBody}
use Rattle.kpn_text_names.specs.Network.{Wiring}
use Rattle.kpn_text_names.specs.Named.{NamedProgram, Programs, Named, free_of, values_of}

-- the parts are those that `Program::with_cells` gets, if these are the shared tables
abbrev pub program_seen : SharedTables → ProgramParts → NamedProgram
program_seen shared p =
    let free : ℕ = free_of p.scope in
    let values : List ℤ = values_of shared p.scope in
    record {
      names = p.scope;
      parts =
          parts_with_cells (length p.scope.ins) (length p.scope.outs) p.pars
          (vars_with (p.pars + p.locals) (free + length values)) free values p.blocks.items;
    }

-- the tables are those that `Network::new` gets
abbrev pub named_seen : NamedCode → Named
named_seen n = record {
  tables =
      tables_with (map (λ q. q.parts) (map (program_seen n.shared) n.programs.items)) n.instances.items
      n.channels.items n.limit n.policy n.growth;
  shared = n.shared;
  processes = n.processes;
  scopes = map (λ q. q.names) (map (program_seen n.shared) n.programs.items);
  instances = n.instance_names;
  channels = n.channel_names;
}

-- ---- scaffolding: what the code's values stand for while it reads a description

abbrev pub body_written : Writer → WrittenBody
body_written w = record { scope = w.scope; blocks = blocks_of w.blocks.items }

abbrev pub programs_seen : SharedTables → Processes → Programs
programs_seen shared p = record { names = p.names; programs = map (program_seen shared) p.programs.items }

abbrev pub wiring_seen : WiringCode → Wiring
wiring_seen w =
    record {
      channel_names = w.channel_names;
      channels = w.channels.items;
      instance_names = w.instance_names;
      instances = w.instances.items;
    }
