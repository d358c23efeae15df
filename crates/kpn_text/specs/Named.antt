-- The description that the tables of a network stand for, with a name in place of each number.
use Rattle.std.specs.Prelude.{ℕ, suc, ℤ, pos, negsuc, nat_eq, nat_lt, if◌then◌else◌, List, [], ◌∷◌, ◌++◌, drop, map, take, Option, Some, None}
use Rattle.kpn_lang.specs.Parts.{Parts}
use Rattle.kpn_limits.specs.declared.TheConstants.{MAX_CAPACITY}
use Rattle.kpn_lang.specs.Syntax as lang
use Rattle.kpn_lang.specs.Tree.{Tree, End, Assign, Read, Write, If, While, Set, tree_of}
use Rattle.kpn_net.specs.declared.tables.ChannelSpec.{ChannelSpec}
use Rattle.kpn_net.specs.declared.tables.ChannelSpec.TheVariants.{Inner, Source, Sink}
use Rattle.kpn_net.specs.declared.tables.Growth.{Growth}
use Rattle.kpn_net.specs.declared.tables.Growth.TheVariants as growth
use Rattle.kpn_net.specs.declared.tables.Policy.{Policy}
use Rattle.kpn_net.specs.declared.tables.Policy.TheVariants as policy
use Rattle.kpn_net.specs.declared.tables.Instance as net
use Rattle.kpn_net.specs.Tables.{Tables}
use Rattle.kpn_text_grammar.specs.Syntax.{NameBytes, ExpressionNode, numeral, variable, element, minus, negation, complement, binary, conditional, assign, store, receive, send, choice, loop, Statements, no_statements, statement, Literal, plain, negated, Table, Declaration, array, table, ProcessNode, InstanceNode, Item, channel, source, sink, instance, NetworkNode, Description}
use Rattle.kpn_text_names.specs.declared.network_names.NamedRow.{NamedRow}
use Rattle.kpn_text_names.specs.declared.network_names.NamedTable.{NamedTable}
use Rattle.kpn_text_names.specs.declared.network_names.NetworkNames.{NetworkNames}
use Rattle.kpn_text_names.specs.declared.network_names.ProcessNames.{ProcessNames}
use Rattle.kpn_text_names.specs.Names.{name_at}
use Rattle.kpn_text_names.specs.NetworkNames.{paired, process_names}

-- a whole number; one below 0 is written after a minus
abbrev pub number_named : ℤ → ExpressionNode
number_named (pos n) = numeral n
number_named (negsuc n) = minus (numeral (suc n))

-- the name of the row that begins at a place, of these rows, or else another name
abbrev pub row_name_or : List NamedRow → ℕ → NameBytes → NameBytes
row_name_or [] base x = x
row_name_or (r ∷ rs) base x = if nat_eq r.base base then r.name else row_name_or rs base x

-- the name of the array or the table that begins at a place
abbrev pub row_name : ProcessNames → ℕ → NameBytes
row_name names base = row_name_or names.arrays base (row_name_or names.tables base [])

-- an expression over these variables, arrays and tables
abbrev pub term_named : ProcessNames → lang.Term → ExpressionNode
term_named names (lang.Num z) = number_named z
term_named names (lang.Var k) = variable (name_at names.vars k)
term_named names (lang.Cell base size e) = element (row_name names base) (term_named names e)
term_named names (lang.Neg e) = minus (term_named names e)
term_named names (lang.Not e) = negation (term_named names e)
term_named names (lang.BitNot e) = complement (term_named names e)
term_named names (lang.Bin o a b) = binary o (term_named names a) (term_named names b)
term_named names (lang.Choice e a b) = conditional (term_named names e) (term_named names a) (term_named names b)

-- statements over these ports, variables, arrays and tables
abbrev pub statements_named : ProcessNames → Tree → Statements
statements_named names End = no_statements
statements_named names (Assign x e rest) =
    statement (assign (name_at names.vars x) (term_named names e)) (statements_named names rest)
statements_named names (Set base size i e rest) =
    statement (store (row_name names base) (term_named names i) (term_named names e)) (statements_named names rest)
statements_named names (Read i x rest) =
    statement (receive (name_at names.ins i) (name_at names.vars x)) (statements_named names rest)
statements_named names (Write o e rest) =
    statement (send (name_at names.outs o) (term_named names e)) (statements_named names rest)
statements_named names (If e a b rest) =
    statement (choice (term_named names e) (statements_named names a) (statements_named names b))
    (statements_named names rest)
statements_named names (While e a rest) =
    statement (loop (term_named names e) (statements_named names a)) (statements_named names rest)

abbrev pub literal_named : ℤ → Literal
literal_named (pos n) = plain n
literal_named (negsuc n) = negated (suc n)

abbrev pub array_named : NamedRow → Declaration
array_named r = array r.name r.size

-- the tables of a process, of which these are the values one after another
abbrev pub tables_named : List NamedRow → List ℤ → List Declaration
tables_named [] values = []
tables_named (r ∷ rs) values =
    table (record { name = r.name; values = map literal_named (take r.size values) })
    ∷ tables_named rs (drop r.size values)

-- the arrays of a process, and then its tables
abbrev pub declarations_named : ProcessNames → List ℤ → List Declaration
declarations_named names values = map array_named names.arrays ++ tables_named (take names.own names.tables) values

-- a process: the first of its variables are its parameters
abbrev pub process_named : ProcessNames → Parts → ProcessNode
process_named names parts = record {
  name = names.name;
  ins = names.ins;
  outs = names.outs;
  pars = take parts.pars names.vars;
  declarations = declarations_named names parts.tables;
  body = statements_named names (tree_of parts.blocks 0);
}

abbrev pub channel_named : NameBytes → ChannelSpec → Item
channel_named x (Inner cap) = channel x cap
channel_named x Source = source x
channel_named x (Sink cap) = sink x cap

-- an instance of one of these processes, at these channels
abbrev pub call_named : NetworkNames → NameBytes → net.Instance → InstanceNode
call_named names x i = record {
  name = x;
  program = name_at (process_names names) i.program;
  ins = map (name_at names.channels) i.ins;
  outs = map (name_at names.channels) i.outs;
  values = map literal_named i.pars;
}

abbrev pub instance_named : NetworkNames → NameBytes → net.Instance → Item
instance_named names x i = instance (call_named names x i)

-- the limit is written if it is below the one that holds without a line
abbrev pub limit_named : ℕ → Option ℕ
limit_named n = if nat_lt n MAX_CAPACITY then Some n else None

-- the policy is written if it is another than the one that holds without a line
abbrev pub policy_named : Policy → Option Policy
policy_named policy.Cycles = None
policy_named policy.All = Some policy.All

-- the growth is written if it is another than the one that holds without a line
abbrev pub growth_named : Growth → Option Growth
growth_named growth.One = None
growth_named growth.Double = Some growth.Double

-- the settings, the channels in order, and the instances in order
abbrev pub network_named : NetworkNames → Tables → NetworkNode
network_named names t = record {
  limit = limit_named t.limit;
  policy = policy_named t.policy;
  growth = growth_named t.growth;
  items = paired channel_named names.channels t.channels ++ paired (instance_named names) names.instances t.instances;
}

-- a table before the processes
abbrev pub table_named : NamedTable → Table
table_named t = record { name = t.name; values = map literal_named t.values }

-- the shared tables and the processes in order, and the network
abbrev pub description_named : NetworkNames → Tables → Description
description_named names t = record {
  tables = map table_named names.tables;
  processes = paired process_named names.processes t.programs;
  network = network_named names t;
}
