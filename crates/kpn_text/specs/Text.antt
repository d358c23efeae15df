-- The canonical text of a description, as bytes: two spaces for each level, one statement or item on each line, a line
-- feed after each line, numbers without leading zeros. Each text comes in front of the text that follows it.
use Rattle.std.specs.Prelude.{ℕ, zero, suc, Bool, true, false, nat_le, List, [], ◌∷◌, ◌++◌, codes, Option, Some, None}
use Rattle.std.specs.Fmt.{decimal}
use Rattle.kpn_lang.specs.declared.syntax.Op.{Op}
use Rattle.kpn_net.specs.declared.tables.Growth.{Growth}
use Rattle.kpn_net.specs.declared.tables.Policy.{Policy}
use Rattle.kpn_text_tokens.specs.declared.tokens.Keyword.{Keyword}
use Rattle.kpn_text_tokens.specs.declared.tokens.Keyword.TheVariants as keyword
use Rattle.kpn_text_tokens.specs.declared.tokens.Language.{Language}
use Rattle.kpn_text_tokens.specs.declared.tokens.Language.TheVariants as language
use Rattle.kpn_text_tokens.specs.Spelling.{keyword_bytes, mark_bytes}
use Rattle.kpn_text_grammar.specs.Syntax.{NameBytes, ExpressionNode, numeral, variable, element, minus, negation, complement, binary, conditional, StatementNode, assign, store, receive, send, choice, loop, Statements, no_statements, statement, Literal, plain, negated, Table, Declaration, array, table, ProcessNode, InstanceNode, Item, channel, source, sink, instance, NetworkNode, Description}
use Rattle.kpn_text_grammar.specs.Operators.{operator_mark, operator_name, tightness, left_side, right_side, LOOSEST, OPERAND}
use Rattle.kpn_text_grammar.specs.Spelling.{by_name}
use Rattle.kpn_text_grammar.specs.Words.{growth_word, policy_word}

-- ---- expressions and statements

-- two spaces for each level
abbrev pub indented : (level : ℕ) → List ℕ → List ℕ
indented zero more = more
indented (suc level) more = codes "  " ++ indented level more

-- whether an operator needs no parentheses where an expression has to bind as tight as this; in language 1 it always
-- has them
abbrev pub needs_no_parentheses : Language → ℕ → Op → Bool
needs_no_parentheses language.One n op = false
needs_no_parentheses language.Two n op = nat_le n (tightness op)

-- the parentheses around an operator, unless it needs none
abbrev pub open_text : Bool → List ℕ → List ℕ
open_text true more = more
open_text false more = codes "(" ++ more

abbrev pub close_text : Bool → List ℕ → List ℕ
close_text true more = more
close_text false more = codes ")" ++ more

-- where an expression has to bind as tight as this: a number, a name, x[e], -e, !e, ~e, min(a, b), a op b, (a op b),
-- (e ? a : b)
abbrev pub term_text : Language → ℕ → ExpressionNode → List ℕ → List ℕ
term_text l n (numeral k) more = decimal k ++ more
term_text l n (variable x) more = x ++ more
term_text l n (element x e) more = x ++ (codes "[" ++ term_text l LOOSEST e (codes "]" ++ more))
term_text l n (minus e) more = codes "-" ++ term_text l OPERAND e more
term_text l n (negation e) more = codes "!" ++ term_text l OPERAND e more
term_text l n (complement e) more = codes "~" ++ term_text l OPERAND e more
term_text l n (binary op a b) more =
    by_name (operator_name op)
    (λ x. x ++ (codes "(" ++ term_text l LOOSEST a (codes ", " ++ term_text l LOOSEST b (codes ")" ++ more))))
    (open_text (needs_no_parentheses l n op)
    (term_text l (left_side op) a
    (codes " "
    ++ (mark_bytes (operator_mark op)
    ++ (codes " " ++ term_text l (right_side op) b (close_text (needs_no_parentheses l n op) more))))))
term_text l n (conditional e a b) more =
    codes "("
    ++ term_text l LOOSEST e
    (codes " ? " ++ term_text l LOOSEST a (codes " : " ++ term_text l LOOSEST b (codes ")" ++ more)))

-- an expression of a statement
abbrev pub whole_text : Language → ExpressionNode → List ℕ → List ℕ
whole_text l e more = term_text l LOOSEST e more

-- From the end of the first block of an `if` on: } else { .. }, where `inside` is the second block, one level in. In
-- language 2 there is no `else` if the block is empty, and } else if .. if it is an `if` and nothing else, which is
-- `branch` then.
abbrev pub otherwise_text : Language → (level : ℕ) → Statements → (inside branch : List ℕ → List ℕ) → List ℕ → List ℕ
otherwise_text language.Two level no_statements inside branch more = indented level (codes "}\n" ++ more)
otherwise_text language.Two level (statement (choice e a b) no_statements) inside branch more =
    indented level (codes "} else " ++ branch more)
otherwise_text l level b inside branch more =
    indented level (codes "} else {\n" ++ inside (indented level (codes "}\n" ++ more)))

abbrev mutual
  -- a statement from its first word on, up to the end of its last line
  pub statement_text : Language → (level : ℕ) → StatementNode → List ℕ → List ℕ
  statement_text l level (assign x e) more = x ++ (codes " = " ++ whole_text l e (codes ";\n" ++ more))
  statement_text l level (store x i e) more =
      x ++ (codes "[" ++ whole_text l i (codes "] = " ++ whole_text l e (codes ";\n" ++ more)))
  statement_text l level (receive i x) more = codes "read " ++ (i ++ (codes " " ++ (x ++ (codes ";\n" ++ more))))
  statement_text l level (send o e) more =
      codes "write " ++ (o ++ (codes " " ++ whole_text l e (codes ";\n" ++ more)))
  statement_text l level (choice e a b) more =
      codes "if "
      ++ whole_text l e
      (codes " {\n"
      ++ statements_text l (suc level) a
      (otherwise_text l level b (statements_text l (suc level) b) (unindented_text l level b) more))
  statement_text l level (loop e b) more =
      codes "while "
      ++ whole_text l e (codes " {\n" ++ statements_text l (suc level) b (indented level (codes "}\n" ++ more)))

  -- one after the other, each on lines of its own
  pub statements_text : Language → (level : ℕ) → Statements → List ℕ → List ℕ
  statements_text l level no_statements more = more
  statements_text l level (statement s ss) more =
      indented level (statement_text l level s (statements_text l level ss more))

  -- the same from the first word on
  pub unindented_text : Language → (level : ℕ) → Statements → List ℕ → List ℕ
  unindented_text l level no_statements more = more
  unindented_text l level (statement s ss) more = statement_text l level s (statements_text l level ss more)

-- from the end of the first block of an `if` on, up to the end of its last line
abbrev pub else_text : Language → (level : ℕ) → Statements → List ℕ → List ℕ
else_text l level b more =
    otherwise_text l level b (statements_text l (suc level) b) (unindented_text l level b) more

-- ---- lists

-- one after the other
abbrev pub all_text : {A : Type 0} → (A → List ℕ → List ℕ) → List A → List ℕ → List ℕ
all_text text [] more = more
all_text text (x ∷ xs) more = text x (all_text text xs more)

-- after a comma
abbrev pub further_text : {A : Type 0} → (A → List ℕ → List ℕ) → A → List ℕ → List ℕ
further_text text x more = codes ", " ++ text x more

-- joined by commas
abbrev pub list_text : {A : Type 0} → (A → List ℕ → List ℕ) → List A → List ℕ → List ℕ
list_text text [] more = more
list_text text (x ∷ xs) more = text x (all_text (further_text text) xs more)

abbrev pub name_text : NameBytes → List ℕ → List ℕ
name_text x more = x ++ more

-- names joined by commas
abbrev pub names_text : List NameBytes → List ℕ → List ℕ
names_text = list_text name_text

-- ---- tables and arrays

-- 3, -3
abbrev pub literal_text : Literal → List ℕ → List ℕ
literal_text (plain n) more = decimal n ++ more
literal_text (negated n) more = codes "-" ++ (decimal n ++ more)

-- table t = 3, -3;  up to the end of its line
abbrev pub table_text : Table → List ℕ → List ℕ
table_text t more = codes "table " ++ (t.name ++ (codes " = " ++ list_text literal_text t.values (codes ";\n" ++ more)))

-- array a[3];  table t = 3, -3;  on a line of its own, one level in
abbrev pub declaration_text : Declaration → List ℕ → List ℕ
declaration_text (array x n) more = codes "  array " ++ (x ++ (codes "[" ++ (decimal n ++ (codes "];\n" ++ more))))
declaration_text (table t) more = codes "  " ++ table_text t more

-- ---- processes

-- a part of a head after some bytes; nothing if it has no names
abbrev pub part_text : (before : List ℕ) → Keyword → List NameBytes → List ℕ → List ℕ
part_text before word [] more = more
part_text before word (x ∷ xs) more = before ++ (keyword_bytes word ++ (codes " " ++ names_text (x ∷ xs) more))

-- in a, b; out c; par k, l; a part without names is left out
abbrev pub parts_text : (ins outs pars : List NameBytes) → List ℕ → List ℕ
parts_text (x ∷ xs) outs pars more =
    part_text [] keyword.In (x ∷ xs)
    (part_text (codes "; ") keyword.Out outs (part_text (codes "; ") keyword.Par pars more))
parts_text [] (x ∷ xs) pars more = part_text [] keyword.Out (x ∷ xs) (part_text (codes "; ") keyword.Par pars more)
parts_text [] [] pars more = part_text [] keyword.Par pars more

-- process p(..) {  its arrays, its tables and its body, one level in, and  }
abbrev pub process_text : Language → ProcessNode → List ℕ → List ℕ
process_text l p more =
    codes "process "
    ++ (p.name
    ++ (codes "("
    ++ parts_text p.ins p.outs p.pars
    (codes ") {\n"
    ++ all_text declaration_text p.declarations (statements_text l 1 p.body (codes "}\n" ++ more)))))

-- ---- networks

-- the out channels of an instance, after a space; nothing if there are none
abbrev pub outs_text : List NameBytes → List ℕ → List ℕ
outs_text [] more = more
outs_text (x ∷ xs) more = codes " " ++ names_text (x ∷ xs) more

-- the values of an instance, after its second semicolon; nothing if there are none
abbrev pub values_text : List Literal → List ℕ → List ℕ
values_text [] more = more
values_text (v ∷ vs) more = codes "; " ++ list_text literal_text (v ∷ vs) more

-- f(a, b; c; 1, -2)
abbrev pub call_text : InstanceNode → List ℕ → List ℕ
call_text i more =
    i.program
    ++ (codes "(" ++ names_text i.ins (codes ";" ++ outs_text i.outs (values_text i.values (codes ")" ++ more))))

-- an item on a line of its own, one level in
abbrev pub network_item_text : Item → List ℕ → List ℕ
network_item_text (channel c cap) more =
    codes "  channel " ++ (c ++ (codes " cap " ++ (decimal cap ++ (codes ";\n" ++ more))))
network_item_text (source c) more = codes "  source " ++ (c ++ (codes ";\n" ++ more))
network_item_text (sink c cap) more = codes "  sink " ++ (c ++ (codes " cap " ++ (decimal cap ++ (codes ";\n" ++ more))))
network_item_text (instance i) more = codes "  " ++ (i.name ++ (codes " = " ++ call_text i (codes ";\n" ++ more)))

-- the limit on a line of its own, if there is one
abbrev pub limit_text : Option ℕ → List ℕ → List ℕ
limit_text None more = more
limit_text (Some n) more = codes "  limit " ++ (decimal n ++ (codes ";\n" ++ more))

-- the policy on a line of its own, if there is one
abbrev pub policy_text : Option Policy → List ℕ → List ℕ
policy_text None more = more
policy_text (Some q) more = codes "  policy " ++ (policy_word q ++ (codes ";\n" ++ more))

-- the growth on a line of its own, if there is one
abbrev pub growth_text : Option Growth → List ℕ → List ℕ
growth_text None more = more
growth_text (Some g) more = codes "  grow " ++ (growth_word g ++ (codes ";\n" ++ more))

-- network {  its settings and its items, and  }
abbrev pub network_text : NetworkNode → List ℕ → List ℕ
network_text n more =
    codes "network {\n"
    ++ limit_text n.limit
    (policy_text n.policy (growth_text n.growth (all_text network_item_text n.items (codes "}\n" ++ more))))

-- ---- the whole

-- the line that a text of language 2 begins with
abbrev pub language_text : Language → List ℕ → List ℕ
language_text language.One more = more
language_text language.Two more = codes "language 2;\n" ++ more

-- the line of the language, the shared tables, the processes and then the network
abbrev pub description_text : Language → Description → List ℕ
description_text l d =
    language_text l (all_text table_text d.tables (all_text (process_text l) d.processes (network_text d.network [])))
