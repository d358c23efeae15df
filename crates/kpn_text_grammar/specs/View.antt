-- The trees that the code's trees stand for, without the places of names in the text and in memory.
use Rattle.std.specs.Prelude.{◌≡◌, ◌≤◌, ℕ, List, map, drop, Result}
use Rattle.kpn_text_tokens.specs.declared.tokens.Lexeme.{Lexeme}
use Rattle.kpn_text_grammar.specs.declared.parser.Source.{Source}
use Rattle.kpn_text_grammar.specs.declared.expressions.Subtree.{Subtree}
use Rattle.kpn_text_grammar.specs.declared.tree.Declaration.{Declaration as DeclarationCode}
use Rattle.kpn_text_grammar.specs.declared.tree.Declaration.TheVariants as declaration
use Rattle.kpn_text_grammar.specs.declared.tree.Description.{Description as DescriptionCode}
use Rattle.kpn_text_grammar.specs.declared.tree.Expression.{Expression, fold-Expression}
use Rattle.kpn_text_grammar.specs.declared.tree.Expression.TheOpen.{Expression-F}
use Rattle.kpn_text_grammar.specs.declared.tree.Identifier.{Identifier}
use Rattle.kpn_text_grammar.specs.declared.tree.InstanceNode.{InstanceNode as InstanceCode}
use Rattle.kpn_text_grammar.specs.declared.tree.Item.{Item as ItemCode}
use Rattle.kpn_text_grammar.specs.declared.tree.Item.TheVariants as item
use Rattle.kpn_text_grammar.specs.declared.tree.Literal.{Literal as LiteralCode}
use Rattle.kpn_text_grammar.specs.declared.tree.Literal.TheVariants as literal
use Rattle.kpn_text_grammar.specs.declared.tree.NetworkNode.{NetworkNode as NetworkCode}
use Rattle.kpn_text_grammar.specs.declared.tree.HeadParts.{HeadParts as HeadPartsCode}
use Rattle.kpn_text_grammar.specs.declared.tree.ProcessNode.{ProcessNode as ProcessCode}
use Rattle.kpn_text_grammar.specs.declared.tree.StatementNode.{StatementNode as StatementCode, fold-StatementNode}
use Rattle.kpn_text_grammar.specs.declared.tree.StatementNode.TheOpen.{StatementNode-F}
use Rattle.kpn_text_grammar.specs.declared.tree.Table.{Table as TableCode}
use Rattle.kpn_text_grammar.specs.declared.fault.GrammarFault.{GrammarFault}
use Rattle.kpn_text_grammar.specs.declared.parser.Scope.{Scope}
use Rattle.kpn_text_grammar.specs.Reading.{HeadParts, Read, ReadingGives}
use Rattle.kpn_text_grammar.specs.Spelling.{term_level}
use Rattle.kpn_text_grammar.specs.Syntax.{NameBytes, ExpressionNode, numeral, variable, element, minus, negation, complement, binary, conditional, StatementNode, assign, store, receive, send, choice, loop, Statements, as_statements, Literal, plain, negated, Table, Declaration, array, table, ProcessNode, InstanceNode, Item, channel, source, sink, instance, NetworkNode, Description}

-- names as written
abbrev pub names_seen : List Identifier → List NameBytes
names_seen xs = map (λ x. x.bytes.now) xs

-- one level, with each expression inside already seen as its term
abbrev pub term_step : Expression-F ExpressionNode → ExpressionNode
term_step (Expression-F.Number n) = numeral n
term_step (Expression-F.Name x) = variable x.bytes.now
term_step (Expression-F.Element x e) = element x.bytes.now e.value
term_step (Expression-F.Negative e) = minus e.value
term_step (Expression-F.Not e) = negation e.value
term_step (Expression-F.BitNot e) = complement e.value
term_step (Expression-F.Binary op a b) = binary op a.value b.value
term_step (Expression-F.Choice c a b) = conditional c.value a.value b.value

-- the term of an expression
abbrev pub term : Expression → ExpressionNode
term = fold-Expression ExpressionNode term_step

-- an expression and its levels, which are at most so many
pub record HasLevels (most : ℕ) (tree : Subtree) : Type 0 where
  pub counted : tree.levels ≡ term_level (term tree.root.value)
  pub few : tree.levels ≤ most

-- one level, with each statement inside already seen
abbrev pub statement_step : StatementNode-F StatementNode → StatementNode
statement_step (StatementNode-F.Assign x e) = assign x.bytes.now (term e)
statement_step (StatementNode-F.Store x i e) = store x.bytes.now (term i) (term e)
statement_step (StatementNode-F.Read i x) = receive i.bytes.now x.bytes.now
statement_step (StatementNode-F.Write o e) = send o.bytes.now (term e)
statement_step (StatementNode-F.If e a b) = choice (term e) (as_statements a.items) (as_statements b.items)
statement_step (StatementNode-F.While e b) = loop (term e) (as_statements b.items)

-- the statement that the code's statement stands for
abbrev pub statement_seen : StatementCode → StatementNode
statement_seen = fold-StatementNode StatementNode statement_step

-- the same of several statements, and of a block
abbrev pub statements_seen : List StatementCode → List StatementNode
statements_seen ss = map statement_seen ss

abbrev pub block_seen : List StatementCode → Statements
block_seen ss = as_statements (statements_seen ss)

-- a value as written
abbrev pub literal_seen : LiteralCode → Literal
literal_seen (literal.Plain n) = plain n
literal_seen (literal.Negated n) = negated n

abbrev pub values_seen : List LiteralCode → List Literal
values_seen vs = map literal_seen vs

abbrev pub table_seen : TableCode → Table
table_seen t = record { name = t.name.bytes.now; values = values_seen t.values.items }

abbrev pub tables_seen : List TableCode → List Table
tables_seen ts = map table_seen ts

abbrev pub declaration_seen : DeclarationCode → Declaration
declaration_seen (declaration.Array x n) = array x.bytes.now n
declaration_seen (declaration.Table t) = table (table_seen t)

abbrev pub declarations_seen : List DeclarationCode → List Declaration
declarations_seen ds = map declaration_seen ds

-- the process that the code's process stands for
abbrev pub process_seen : ProcessCode → ProcessNode
process_seen p = record {
  name = p.name.bytes.now;
  ins = names_seen p.parts.ins.items;
  outs = names_seen p.parts.outs.items;
  pars = names_seen p.parts.pars.items;
  declarations = declarations_seen p.declarations.items;
  body = block_seen p.body.items;
}

abbrev pub processes_seen : List ProcessCode → List ProcessNode
processes_seen ps = map process_seen ps

-- the instance, the item, the network and the description that the code's stand for
abbrev pub instance_seen : InstanceCode → InstanceNode
instance_seen i = record {
  name = i.name.bytes.now;
  program = i.program.bytes.now;
  ins = names_seen i.ins.items;
  outs = names_seen i.outs.items;
  values = values_seen i.values.items;
}

abbrev pub item_seen : ItemCode → Item
item_seen (item.Channel c n) = channel c.bytes.now n
item_seen (item.Source c) = source c.bytes.now
item_seen (item.Sink c n) = sink c.bytes.now n
item_seen (item.Instance i) = instance (instance_seen i)

abbrev pub items_seen : List ItemCode → List Item
items_seen is = map item_seen is

abbrev pub network_seen : NetworkCode → NetworkNode
network_seen n = record { limit = n.limit; policy = n.policy; growth = n.growth; items = items_seen n.items.items }

abbrev pub document : DescriptionCode → Description
document d = record {
  tables = tables_seen d.tables.items;
  processes = processes_seen d.processes.items;
  network = network_seen d.network;
}

-- ---- scaffolding: what the parsers return; all of them but `description` are private

abbrev pub parts_seen : HeadPartsCode → HeadParts
parts_seen p = record { ins = names_seen p.ins.items; outs = names_seen p.outs.items; pars = names_seen p.pars.items }

-- the tokens from a place on
abbrev pub tokens_from : Source → ℕ → List Lexeme
tokens_from s at = drop at s.tokens.now

-- What a parser returned at a place is what the rule returns for the tokens from there on. It is the same, seen by a
-- view, with the tokens after it; or the same fault; or memory ran out.
abbrev pub Parses : {A B : Type 0} → (A → B) → (Scope → List Lexeme → Read B) → Source → ℕ
    → Result (A × ℕ) GrammarFault → Type 0
Parses view rule from at result =
    ReadingGives (λ x. (view x.0, tokens_from from x.1)) result (rule from.scope (tokens_from from at))

-- The same of a parser that returns nothing but the place after it.
abbrev pub Passes : (Scope → List Lexeme → Result (List Lexeme) GrammarFault) → Source → ℕ
    → Result ℕ GrammarFault → Type 0
Passes rule from at result = ReadingGives (λ after. tokens_from from after) result (rule from.scope (tokens_from from at))
