-- Which trees can be printed and read again in a language: each name is a name of it, each mark is one of it, and each
-- number is in range.
use Rattle.std.specs.Prelude.{◌≡◌, ℕ, ◌<◌, ◌^◌, true, List, Option, Some, None}
use Rattle.std.specs.List.{AllByRecursion}
use Rattle.kpn_lang.specs.declared.syntax.Op.{Op}
use Rattle.kpn_text_tokens.specs.declared.tokens.Language.{Language}
use Rattle.kpn_text_tokens.specs.declared.tokens.Language.TheVariants as language
use Rattle.kpn_text_tokens.specs.declared.tokens.Keyword.TheVariants as keyword
use Rattle.kpn_text_tokens.specs.declared.tokens.Mark.TheVariants as mark
use Rattle.kpn_text_tokens.specs.Spelling.{has_keyword, has_mark}
use Rattle.kpn_text_tokens.specs.Rules.{IsName}
use Rattle.kpn_text_grammar.specs.Operators.{operator_mark, operator_name}
use Rattle.kpn_text_grammar.specs.Syntax.{NameBytes, ExpressionNode, numeral, variable, element, minus, negation, complement, binary, conditional, StatementNode, assign, store, receive, send, choice, loop, Statements, no_statements, statement, Literal, plain, negated, Table, Declaration, array, table, ProcessNode, InstanceNode, Item, channel, source, sink, instance, NetworkNode, Description}

-- the language has `[` and `]`
pub record HasBrackets (l : Language) : Type 0 where
  pub left : has_mark l mark.LeftBracket ≡ true
  pub right : has_mark l mark.RightBracket ≡ true

-- the language has an operator, between its sides or by the name that calls it
pub data HasOperator (l : Language) (op : Op) : Type 0 where
  stands_between : operator_name op ≡ None → has_mark l (operator_mark op) ≡ true → HasOperator l op
  is_called : {x : NameBytes} → l ≡ language.Two → operator_name op ≡ Some x → IsName l x → HasOperator l op

-- each name is a name, each number is below 2 ^ 63, and the language has each operator
abbrev pub IsProperTerm : Language → ExpressionNode → Type 0
IsProperTerm l (numeral n) = n < 2 ^ 63
IsProperTerm l (variable x) = IsName l x
IsProperTerm l (element x e) = IsName l x × HasBrackets l × IsProperTerm l e
IsProperTerm l (minus e) = IsProperTerm l e
IsProperTerm l (negation e) = IsProperTerm l e
IsProperTerm l (complement e) = (has_mark l mark.BitNot ≡ true) × IsProperTerm l e
IsProperTerm l (binary op a b) = HasOperator l op × IsProperTerm l a × IsProperTerm l b
IsProperTerm l (conditional e a b) =
    (has_mark l mark.Question ≡ true) × (has_mark l mark.Colon ≡ true) × IsProperTerm l e × IsProperTerm l a
    × IsProperTerm l b

abbrev mutual
  -- the same of a statement
  pub IsProperStatement : Language → StatementNode → Type 0
  IsProperStatement l (assign x e) = IsName l x × IsProperTerm l e
  IsProperStatement l (store x i e) = IsName l x × HasBrackets l × IsProperTerm l i × IsProperTerm l e
  IsProperStatement l (receive i x) = IsName l i × IsName l x
  IsProperStatement l (send o e) = IsName l o × IsProperTerm l e
  IsProperStatement l (choice e a b) = IsProperTerm l e × AreProper l a × AreProper l b
  IsProperStatement l (loop e b) = IsProperTerm l e × AreProper l b

  -- and of several
  pub AreProper : Language → Statements → Type 0
  AreProper l no_statements = Unit {0}
  AreProper l (statement s ss) = IsProperStatement l s × AreProper l ss

-- the same of each of several names
abbrev pub AreNames : Language → List NameBytes → Type 0
AreNames l = AllByRecursion (IsName l)

abbrev pub IsProperLiteral : Literal → Type 0
IsProperLiteral (plain n) = n < 2 ^ 63
IsProperLiteral (negated n) = n < 2 ^ 63

-- and of a table, of an array
pub record IsProperTable (l : Language) (t : Table) : Type 0 where
  pub word : has_keyword l keyword.Table ≡ true
  pub name : IsName l t.name
  pub values : AllByRecursion IsProperLiteral t.values

abbrev pub IsProperDeclaration : Language → Declaration → Type 0
IsProperDeclaration l (array x n) = (has_keyword l keyword.Array ≡ true) × IsName l x × HasBrackets l × (n < 2 ^ 63)
IsProperDeclaration l (table t) = IsProperTable l t

-- and of a process
pub record IsProperProcess (l : Language) (p : ProcessNode) : Type 0 where
  pub name : IsName l p.name
  pub ins : AreNames l p.ins
  pub outs : AreNames l p.outs
  pub pars : AreNames l p.pars
  pub declarations : AllByRecursion (IsProperDeclaration l) p.declarations
  pub body : AreProper l p.body

pub record IsProperInstance (l : Language) (i : InstanceNode) : Type 0 where
  pub name : IsName l i.name
  pub program : IsName l i.program
  pub ins : AreNames l i.ins
  pub outs : AreNames l i.outs
  pub values : AllByRecursion IsProperLiteral i.values

abbrev pub IsProperItem : Language → Item → Type 0
IsProperItem l (channel c cap) = IsName l c × (cap < 2 ^ 63)
IsProperItem l (source c) = IsName l c
IsProperItem l (sink c cap) = IsName l c × (cap < 2 ^ 63)
IsProperItem l (instance i) = IsProperInstance l i

abbrev pub IsProperLimit : Option ℕ → Type 0
IsProperLimit None = Unit {0}
IsProperLimit (Some n) = n < 2 ^ 63

pub record IsProperNetwork (l : Language) (n : NetworkNode) : Type 0 where
  pub limit : IsProperLimit n.limit
  pub items : AllByRecursion (IsProperItem l) n.items

-- In a description each name is a name of the language, it has each operator, and each number is below 2 ^ 63.
pub record IsProper (l : Language) (d : Description) : Type 0 where
  pub tables : AllByRecursion (IsProperTable l) d.tables
  pub processes : AllByRecursion (IsProperProcess l) d.processes
  pub network : IsProperNetwork l d.network
