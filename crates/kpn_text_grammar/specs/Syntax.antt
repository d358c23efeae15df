-- The tree of a description, without the places of its parts in the text and in memory. Names are as they are written:
-- what they mean is a matter for the layer above.
use Rattle.std.specs.Prelude.{ℕ, ℤ, pos, neg_ℤ, List, [], ◌∷◌, Option}
use Rattle.kpn_lang.specs.declared.syntax.Op.{Op}
use Rattle.kpn_net.specs.declared.tables.Growth.{Growth}
use Rattle.kpn_net.specs.declared.tables.Policy.{Policy}

-- a name, by its bytes
abbrev pub NameBytes : Type 0
NameBytes = List ℕ

pub data ExpressionNode : Type 0 where
  numeral : ℕ → ExpressionNode
  variable : NameBytes → ExpressionNode
  element : NameBytes → ExpressionNode → ExpressionNode
  minus : ExpressionNode → ExpressionNode
  negation : ExpressionNode → ExpressionNode
  complement : ExpressionNode → ExpressionNode
  binary : Op → ExpressionNode → ExpressionNode → ExpressionNode
  conditional : ExpressionNode → ExpressionNode → ExpressionNode → ExpressionNode

mutual
  -- a statement: x = e;  x[i] = e;  read i x;  write o e;  if e { .. } else { .. }  while e { .. }
  pub data StatementNode : Type 0 where
    assign : NameBytes → ExpressionNode → StatementNode
    store : NameBytes → ExpressionNode → ExpressionNode → StatementNode
    receive : NameBytes → NameBytes → StatementNode
    send : NameBytes → ExpressionNode → StatementNode
    choice : ExpressionNode → Statements → Statements → StatementNode
    loop : ExpressionNode → Statements → StatementNode

  -- the statements of a block, in order
  pub data Statements : Type 0 where
    no_statements : Statements
    statement : StatementNode → Statements → Statements

-- a list of statements as a block
abbrev pub as_statements : List StatementNode → Statements
as_statements [] = no_statements
as_statements (s ∷ ss) = statement s (as_statements ss)

-- a value as it is written: a number, or a number behind a minus; so 0 and -0 are two spellings of one value
pub data Literal : Type 0 where
  plain : ℕ → Literal
  negated : ℕ → Literal

-- the whole number that it stands for
abbrev pub literal_value : Literal → ℤ
literal_value (plain n) = pos n
literal_value (negated n) = neg_ℤ (pos n)

-- a table: its name and its values
pub record Table : Type 0 where
  pub name : NameBytes
  pub values : List Literal

-- what stands at the head of the body of a process: an array with its size, a table
pub data Declaration : Type 0 where
  array : NameBytes → ℕ → Declaration
  table : Table → Declaration

-- a process: its name, its in ports, out ports and parameters, its arrays and tables in order, and its body
pub record ProcessNode : Type 0 where
  pub name : NameBytes
  pub ins : List NameBytes
  pub outs : List NameBytes
  pub pars : List NameBytes
  pub declarations : List Declaration
  pub body : Statements

-- an instance: its name and that of its program, the channels at its in ports and at its out ports, and the values of
-- its parameters
pub record InstanceNode : Type 0 where
  pub name : NameBytes
  pub program : NameBytes
  pub ins : List NameBytes
  pub outs : List NameBytes
  pub values : List Literal

-- an item of a network: a channel or a sink with its capacity, a source, an instance
pub data Item : Type 0 where
  channel : NameBytes → ℕ → Item
  source : NameBytes → Item
  sink : NameBytes → ℕ → Item
  instance : InstanceNode → Item

-- a network: its limit, its policy and its growth, each if it is written, and its items in order
pub record NetworkNode : Type 0 where
  pub limit : Option ℕ
  pub policy : Option Policy
  pub growth : Option Growth
  pub items : List Item

-- a description: the tables that its processes share and its processes, each in order, and its network
pub record Description : Type 0 where
  pub tables : List Table
  pub processes : List ProcessNode
  pub network : NetworkNode
