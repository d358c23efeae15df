-- How a tree is spelled, token by token, how deep it nests, and what it is for tokens to be a description. Each
-- spelling has behind it the tokens that follow. The rules leave one spelling to a tree of language 1, and many to one
-- of language 2, where the canonical one has no parentheses and no `else` that can be left out.
use Rattle.std.specs.Prelude.{◌≡◌, ◌<◌, ◌≤◌, ℕ, suc, max, Bool, false, nat_le, if◌then◌else◌, List, [], ◌∷◌, length, map, Option, Some, None}
use Rattle.std.specs.List.{AllByRecursion}
use Rattle.kpn_limits.specs.declared.TheConstants.{MAX_LEVELS}
use Rattle.kpn_text_tokens.specs.declared.tokens.Language.{Language}
use Rattle.kpn_text_tokens.specs.declared.tokens.Language.TheVariants as language
use Rattle.kpn_text_tokens.specs.declared.tokens.Lexeme.{Lexeme}
use Rattle.kpn_text_tokens.specs.declared.tokens.Token.{Token}
use Rattle.kpn_text_tokens.specs.declared.tokens.Token.TheVariants as token
use Rattle.kpn_text_tokens.specs.declared.tokens.Mark.TheVariants as mark
use Rattle.kpn_text_tokens.specs.declared.tokens.Keyword.{Keyword}
use Rattle.kpn_text_tokens.specs.declared.tokens.Keyword.TheVariants as keyword
use Rattle.kpn_lang.specs.declared.syntax.Op.{Op}
use Rattle.kpn_net.specs.declared.tables.Growth.{Growth}
use Rattle.kpn_net.specs.declared.tables.Policy.{Policy}
use Rattle.kpn_text_grammar.specs.Operators.{operator_mark, operator_name, tightness, left_side, right_side, LOOSEST, OPERAND, loosest}
use Rattle.kpn_text_grammar.specs.TokenTests.{is_keyword}
use Rattle.kpn_text_grammar.specs.Words.{growth_word, policy_word}
use Rattle.kpn_text_grammar.specs.Syntax.{NameBytes, ExpressionNode, numeral, variable, element, minus, negation, complement, binary, conditional, StatementNode, assign, store, receive, send, choice, loop, Statements, no_statements, statement, Literal, plain, negated, Table, Declaration, array, table, ProcessNode, InstanceNode, Item, channel, source, sink, instance, NetworkNode, Description}

-- the tokens of a text without their places
abbrev pub kinds : List Lexeme → List Token
kinds ls = map (λ l. l.token) ls

-- ---- expressions

-- in language 1: a number, a name, x[e], -e, !e, ~e, (a op b), (c ? a : b)
abbrev pub spell_term : ExpressionNode → List Token → List Token
spell_term (numeral n) more = token.Number n ∷ more
spell_term (variable x) more = token.Name x ∷ more
spell_term (element x e) more =
    token.Name x ∷ token.Mark mark.LeftBracket ∷ spell_term e (token.Mark mark.RightBracket ∷ more)
spell_term (minus e) more = token.Mark mark.Minus ∷ spell_term e more
spell_term (negation e) more = token.Mark mark.Not ∷ spell_term e more
spell_term (complement e) more = token.Mark mark.BitNot ∷ spell_term e more
spell_term (binary op a b) more =
    token.Mark mark.LeftParen ∷ spell_term a (token.Mark (operator_mark op)
    ∷ spell_term b (token.Mark mark.RightParen ∷ more))
spell_term (conditional c a b) more =
    token.Mark mark.LeftParen ∷ spell_term c (token.Mark mark.Question
    ∷ spell_term a (token.Mark mark.Colon ∷ spell_term b (token.Mark mark.RightParen ∷ more)))

-- by the name of an operator, if it is called, or else another way
abbrev pub by_name : {A : Type 0} → Option NameBytes → (NameBytes → A) → A → A
by_name (Some x) called between = called x
by_name None called between = between

-- In language 2, where an expression has to bind as tight as this: the same, with parentheses around an operator only
-- if it binds looser, and behind its name if it is called.
abbrev pub spell_tight : ℕ → ExpressionNode → List Token → List Token
spell_tight n (numeral k) more = token.Number k ∷ more
spell_tight n (variable x) more = token.Name x ∷ more
spell_tight n (element x e) more =
    token.Name x ∷ token.Mark mark.LeftBracket ∷ spell_tight LOOSEST e (token.Mark mark.RightBracket ∷ more)
spell_tight n (minus e) more = token.Mark mark.Minus ∷ spell_tight OPERAND e more
spell_tight n (negation e) more = token.Mark mark.Not ∷ spell_tight OPERAND e more
spell_tight n (complement e) more = token.Mark mark.BitNot ∷ spell_tight OPERAND e more
spell_tight n (binary op a b) more =
    by_name (operator_name op) (λ x. token.Name x ∷ token.Mark mark.LeftParen
    ∷ spell_tight LOOSEST a (token.Mark mark.Comma ∷ spell_tight LOOSEST b (token.Mark mark.RightParen ∷ more)))
    (if nat_le n (tightness op)
    then spell_tight (left_side op) a (token.Mark (operator_mark op) ∷ spell_tight (right_side op) b more)
    else (token.Mark mark.LeftParen ∷ spell_tight (left_side op) a (token.Mark (operator_mark op)
    ∷ spell_tight (right_side op) b (token.Mark mark.RightParen ∷ more))))
spell_tight n (conditional c a b) more =
    token.Mark mark.LeftParen ∷ spell_tight LOOSEST c (token.Mark mark.Question
    ∷ spell_tight LOOSEST a (token.Mark mark.Colon ∷ spell_tight LOOSEST b (token.Mark mark.RightParen ∷ more)))

-- the canonical spelling of an expression
abbrev pub spell_expression : Language → ExpressionNode → List Token → List Token
spell_expression language.One e more = spell_term e more
spell_expression language.Two e more = spell_tight LOOSEST e more

-- The rules of expressions in a language, a rule for each form: tokens up to those that follow spell a term that binds
-- as tight as this, or tighter. `depth` is how many operands, signs, `(` and `[` may stand in each other. In language 1
-- parentheses stand around each operator, and around nothing else but a choice.
pub data SpellsTight (l : Language) : (depth n : ℕ) → ExpressionNode → List Token → List Token → Type 0 where
  as_number : {depth n k : ℕ} {more : List Token} → SpellsTight l (suc depth) n (numeral k) (token.Number k ∷ more) more
  as_name : {depth n : ℕ} {x : NameBytes} {more : List Token}
      → SpellsTight l (suc depth) n (variable x) (token.Name x ∷ more) more
  as_element : {depth n : ℕ} {x : NameBytes} {e : ExpressionNode} {tokens more : List Token}
      → SpellsTight l depth (loosest l) e tokens (token.Mark mark.RightBracket ∷ more)
      → SpellsTight l (suc depth) n (element x e) (token.Name x ∷ token.Mark mark.LeftBracket ∷ tokens) more
  as_minus : {depth n : ℕ} {e : ExpressionNode} {tokens more : List Token} → SpellsTight l depth OPERAND e tokens more
      → SpellsTight l (suc depth) n (minus e) (token.Mark mark.Minus ∷ tokens) more
  as_negation : {depth n : ℕ} {e : ExpressionNode} {tokens more : List Token} → SpellsTight l depth OPERAND e tokens more
      → SpellsTight l (suc depth) n (negation e) (token.Mark mark.Not ∷ tokens) more
  as_complement : {depth n : ℕ} {e : ExpressionNode} {tokens more : List Token}
      → SpellsTight l depth OPERAND e tokens more
      → SpellsTight l (suc depth) n (complement e) (token.Mark mark.BitNot ∷ tokens) more
  in_parentheses : {depth n : ℕ} {e : ExpressionNode} {tokens more : List Token} → l ≡ language.Two
      → SpellsTight l depth LOOSEST e tokens (token.Mark mark.RightParen ∷ more)
      → SpellsTight l (suc depth) n e (token.Mark mark.LeftParen ∷ tokens) more
  as_call : {depth n : ℕ} {op : Op} {x : NameBytes} {a b : ExpressionNode} {at_a at_b more : List Token}
      → l ≡ language.Two → operator_name op ≡ Some x
      → SpellsTight l depth (loosest l) a at_a (token.Mark mark.Comma ∷ at_b)
      → SpellsTight l depth (loosest l) b at_b (token.Mark mark.RightParen ∷ more)
      → SpellsTight l (suc depth) n (binary op a b) (token.Name x ∷ token.Mark mark.LeftParen ∷ at_a) more
  as_sides : {depth n : ℕ} {op : Op} {a b : ExpressionNode} {at_a at_b more : List Token} → l ≡ language.One
      → operator_name op ≡ None → SpellsTight l depth OPERAND a at_a (token.Mark (operator_mark op) ∷ at_b)
      → SpellsTight l depth OPERAND b at_b (token.Mark mark.RightParen ∷ more)
      → SpellsTight l (suc depth) n (binary op a b) (token.Mark mark.LeftParen ∷ at_a) more
  as_conditional : {depth n : ℕ} {c a b : ExpressionNode} {at_c at_a at_b more : List Token}
      → SpellsTight l depth (loosest l) c at_c (token.Mark mark.Question ∷ at_a)
      → SpellsTight l depth (loosest l) a at_a (token.Mark mark.Colon ∷ at_b)
      → SpellsTight l depth (loosest l) b at_b (token.Mark mark.RightParen ∷ more)
      → SpellsTight l (suc depth) n (conditional c a b) (token.Mark mark.LeftParen ∷ at_c) more
  as_binary : {depth n : ℕ} {op : Op} {a b : ExpressionNode} {at_a at_b more : List Token} → n ≤ tightness op
      → operator_name op ≡ None → SpellsTight l depth (left_side op) a at_a (token.Mark (operator_mark op) ∷ at_b)
      → SpellsTight l depth (right_side op) b at_b more
      → SpellsTight l depth n (binary op a b) at_a more

-- the tokens up to those that follow spell an expression of a statement
abbrev pub SpellsTerm : (levels : ℕ) → Language → ExpressionNode → List Token → List Token → Type 0
SpellsTerm levels l = SpellsTight l levels (loosest l)

-- a number or a name has one level, and an index, a sign, an operator or a choice one more than its deepest part
abbrev pub term_level : ExpressionNode → ℕ
term_level (numeral n) = 1
term_level (variable x) = 1
term_level (element x e) = suc (term_level e)
term_level (minus e) = suc (term_level e)
term_level (negation e) = suc (term_level e)
term_level (complement e) = suc (term_level e)
term_level (binary op a b) = suc (max (term_level a) (term_level b))
term_level (conditional c a b) = suc (max (term_level c) (max (term_level a) (term_level b)))

-- ---- statements

-- The second block of an `if`, of which this is the inside: else { .. }. In language 2 nothing if it is empty, and
-- else if .. if it is an `if` and nothing else.
abbrev pub spell_else : Language → Statements → (List Token → List Token) → List Token → List Token
spell_else language.Two no_statements inside more = more
spell_else language.Two (statement (choice e a b) no_statements) inside more = token.Keyword keyword.Else ∷ inside more
spell_else l b inside more =
    token.Keyword keyword.Else ∷ token.Mark mark.LeftBrace ∷ inside (token.Mark mark.RightBrace ∷ more)

abbrev mutual
  -- x = e;  x[i] = e;  read i x;  write o e;  if e { .. } else { .. }  while e { .. }
  pub spell_statement : Language → StatementNode → List Token → List Token
  spell_statement l (assign x e) more = token.Name x ∷ token.Mark mark.Assign
      ∷ spell_expression l e (token.Mark mark.Semicolon ∷ more)
  spell_statement l (store x i e) more = token.Name x ∷ token.Mark mark.LeftBracket
      ∷ spell_expression l i (token.Mark mark.RightBracket ∷ token.Mark mark.Assign
      ∷ spell_expression l e (token.Mark mark.Semicolon ∷ more))
  spell_statement l (receive i x) more =
      token.Keyword keyword.Read ∷ token.Name i ∷ token.Name x ∷ token.Mark mark.Semicolon ∷ more
  spell_statement l (send o e) more =
      token.Keyword keyword.Write ∷ token.Name o ∷ spell_expression l e (token.Mark mark.Semicolon ∷ more)
  spell_statement l (choice e a b) more =
      token.Keyword keyword.If ∷ spell_expression l e (token.Mark mark.LeftBrace
      ∷ spell_statements l a (token.Mark mark.RightBrace ∷ spell_else l b (spell_statements l b) more))
  spell_statement l (loop e b) more =
      token.Keyword keyword.While ∷ spell_expression l e (token.Mark mark.LeftBrace
      ∷ spell_statements l b (token.Mark mark.RightBrace ∷ more))

  -- one after the other
  pub spell_statements : Language → Statements → List Token → List Token
  spell_statements l no_statements more = more
  spell_statements l (statement s ss) more = spell_statement l s (spell_statements l ss more)

-- `else` is the first of the tokens
abbrev pub begins_else : List Token → Bool
begins_else [] = false
begins_else (t ∷ ts) = is_keyword keyword.Else t

mutual
  -- The rules of statements, whose expressions have at most so many levels: the tokens up to those that follow spell
  -- the statement in a language.
  pub data SpellsStatement (levels : ℕ) (l : Language) : StatementNode → List Token → List Token → Type 0 where
    as_assignment : {x : NameBytes} {e : ExpressionNode} {tokens more : List Token}
        → SpellsTerm levels l e tokens (token.Mark mark.Semicolon ∷ more)
        → SpellsStatement levels l (assign x e) (token.Name x ∷ token.Mark mark.Assign ∷ tokens) more
    as_store : {x : NameBytes} {i e : ExpressionNode} {at_i more : List Token} (at_e : List Token)
        → SpellsTerm levels l i at_i (token.Mark mark.RightBracket ∷ token.Mark mark.Assign ∷ at_e)
        → SpellsTerm levels l e at_e (token.Mark mark.Semicolon ∷ more)
        → SpellsStatement levels l (store x i e) (token.Name x ∷ token.Mark mark.LeftBracket ∷ at_i) more
    as_read : {i x : NameBytes} {more : List Token}
        → SpellsStatement levels l (receive i x)
        (token.Keyword keyword.Read ∷ token.Name i ∷ token.Name x ∷ token.Mark mark.Semicolon ∷ more) more
    as_write : {o : NameBytes} {e : ExpressionNode} {tokens more : List Token}
        → SpellsTerm levels l e tokens (token.Mark mark.Semicolon ∷ more)
        → SpellsStatement levels l (send o e) (token.Keyword keyword.Write ∷ token.Name o ∷ tokens) more
    as_if : {e : ExpressionNode} {a b : Statements} {at_e at_a at_else more : List Token}
        → SpellsTerm levels l e at_e (token.Mark mark.LeftBrace ∷ at_a)
        → SpellsStatements levels l a at_a (token.Mark mark.RightBrace ∷ at_else) → SpellsElse levels l b at_else more
        → SpellsStatement levels l (choice e a b) (token.Keyword keyword.If ∷ at_e) more
    as_while : {e : ExpressionNode} {b : Statements} {at_e at_b more : List Token}
        → SpellsTerm levels l e at_e (token.Mark mark.LeftBrace ∷ at_b)
        → SpellsStatements levels l b at_b (token.Mark mark.RightBrace ∷ more)
        → SpellsStatement levels l (loop e b) (token.Keyword keyword.While ∷ at_e) more

  -- one after the other
  pub data SpellsStatements (levels : ℕ) (l : Language) : Statements → List Token → List Token → Type 0 where
    nothing : {more : List Token} → SpellsStatements levels l no_statements more more
    one_more : {s : StatementNode} {ss : Statements} {tokens others more : List Token}
        → SpellsStatement levels l s tokens others → SpellsStatements levels l ss others more
        → SpellsStatements levels l (statement s ss) tokens more

  -- The second block of an `if`. In language 2 an empty one may be left out, where no `else` follows.
  pub data SpellsElse (levels : ℕ) (l : Language) : Statements → List Token → List Token → Type 0 where
    left_out : {more : List Token} → l ≡ language.Two → begins_else more ≡ false
        → SpellsElse levels l no_statements more more
    behind_else : {b : Statements} {tokens more : List Token} → SpellsSecond levels l b tokens more
        → SpellsElse levels l b (token.Keyword keyword.Else ∷ tokens) more

  -- The same behind `else`. In language 2 a block that is an `if` needs no braces.
  pub data SpellsSecond (levels : ℕ) (l : Language) : Statements → List Token → List Token → Type 0 where
    with_braces : {b : Statements} {tokens more : List Token}
        → SpellsStatements levels l b tokens (token.Mark mark.RightBrace ∷ more)
        → SpellsSecond levels l b (token.Mark mark.LeftBrace ∷ tokens) more
    as_branch : {e : ExpressionNode} {a b : Statements} {tokens more : List Token} → l ≡ language.Two
        → SpellsStatement levels l (choice e a b) tokens more
        → SpellsSecond levels l (statement (choice e a b) no_statements) tokens more

abbrev mutual
  -- how many levels of blocks are inside a statement
  pub inner_levels : StatementNode → ℕ
  inner_levels (assign x e) = 0
  inner_levels (store x i e) = 0
  inner_levels (receive i x) = 0
  inner_levels (send o e) = 0
  inner_levels (choice e a b) = suc (max (levels_within a) (levels_within b))
  inner_levels (loop e b) = suc (levels_within b)

  pub levels_within : Statements → ℕ
  levels_within no_statements = 0
  levels_within (statement s ss) = max (inner_levels s) (levels_within ss)

abbrev mutual
  -- the most levels of an expression in a statement
  pub deepest_term : StatementNode → ℕ
  deepest_term (assign x e) = term_level e
  deepest_term (store x i e) = max (term_level i) (term_level e)
  deepest_term (receive i x) = 0
  deepest_term (send o e) = term_level e
  deepest_term (choice e a b) = max (term_level e) (max (deepest_term_of_all a) (deepest_term_of_all b))
  deepest_term (loop e b) = max (term_level e) (deepest_term_of_all b)

  pub deepest_term_of_all : Statements → ℕ
  deepest_term_of_all no_statements = 0
  deepest_term_of_all (statement s ss) = max (deepest_term s) (deepest_term_of_all ss)

-- a block within the limits of depth: it has at most so many levels of blocks, itself among them, and its expressions
-- at most so many
pub record BlockIsWithin (levels depth : ℕ) (b : Statements) : Type 0 where
  pub blocks : suc (levels_within b) ≤ depth
  pub terms : deepest_term_of_all b ≤ levels

-- ---- lists

-- one after the other
abbrev pub spell_all : {A : Type 0} → (A → List Token → List Token) → List A → List Token → List Token
spell_all spell [] more = more
spell_all spell (x ∷ xs) more = spell x (spell_all spell xs more)

-- the tokens up to those that follow spell one after the other
abbrev pub SpellsAll : {A : Type 0} → (A → List Token → List Token → Type 0) → List A → List Token → List Token
    → Type 0
SpellsAll Spells [] tokens more = tokens ≡ more
SpellsAll Spells (x ∷ xs) tokens more =
    (others : List Token) × Spells x tokens others × SpellsAll Spells xs others more

-- behind a comma
abbrev pub spell_further : {A : Type 0} → (A → List Token → List Token) → A → List Token → List Token
spell_further spell x more = token.Mark mark.Comma ∷ spell x more

-- with commas between them
abbrev pub spell_list : {A : Type 0} → (A → List Token → List Token) → List A → List Token → List Token
spell_list spell [] more = more
spell_list spell (x ∷ xs) more = spell x (spell_all (spell_further spell) xs more)

abbrev pub spell_name : NameBytes → List Token → List Token
spell_name x more = token.Name x ∷ more

-- names, with commas between them
abbrev pub spell_names : List NameBytes → List Token → List Token
spell_names = spell_list spell_name

-- ---- tables and arrays

-- 3, -3
abbrev pub spell_literal : Literal → List Token → List Token
spell_literal (plain n) more = token.Number n ∷ more
spell_literal (negated n) more = token.Mark mark.Minus ∷ token.Number n ∷ more

-- table t = 3, -3;
abbrev pub spell_table : Table → List Token → List Token
spell_table t more = token.Keyword keyword.Table ∷ token.Name t.name ∷ token.Mark mark.Assign
    ∷ spell_list spell_literal t.values (token.Mark mark.Semicolon ∷ more)

-- array a[3];  table t = 3, -3;
abbrev pub spell_declaration : Declaration → List Token → List Token
spell_declaration (array x n) more =
    token.Keyword keyword.Array ∷ token.Name x ∷ token.Mark mark.LeftBracket ∷ token.Number n
    ∷ token.Mark mark.RightBracket ∷ token.Mark mark.Semicolon ∷ more
spell_declaration (table t) more = spell_table t more

-- a table has a value, an array a cell
abbrev pub TableIsWithin : Table → Type 0
TableIsWithin t = 0 < length t.values

abbrev pub DeclarationIsWithin : Declaration → Type 0
DeclarationIsWithin (array x n) = 0 < n
DeclarationIsWithin (table t) = TableIsWithin t

-- ---- processes

-- a part of a head; nothing if it has no names
abbrev pub spell_part : Keyword → List NameBytes → List Token → List Token
spell_part word [] more = more
spell_part word (x ∷ xs) more = token.Keyword word ∷ spell_names (x ∷ xs) more

-- the same behind another part
abbrev pub spell_later_part : Keyword → List NameBytes → List Token → List Token
spell_later_part word [] more = more
spell_later_part word (x ∷ xs) more = token.Mark mark.Semicolon ∷ token.Keyword word ∷ spell_names (x ∷ xs) more

-- in a, b; out c; par k, l; a part without names is left out
abbrev pub spell_parts : (ins outs pars : List NameBytes) → List Token → List Token
spell_parts (x ∷ xs) outs pars more = spell_part keyword.In (x ∷ xs)
    (spell_later_part keyword.Out outs (spell_later_part keyword.Par pars more))
spell_parts [] (x ∷ xs) pars more = spell_part keyword.Out (x ∷ xs) (spell_later_part keyword.Par pars more)
spell_parts [] [] pars more = spell_part keyword.Par pars more

-- process p(..) { and its arrays and tables, in front of its statements
abbrev pub spell_head : ProcessNode → List Token → List Token
spell_head p more =
    token.Keyword keyword.Process ∷ token.Name p.name ∷ token.Mark mark.LeftParen
    ∷ spell_parts p.ins p.outs p.pars (token.Mark mark.RightParen ∷ token.Mark mark.LeftBrace
    ∷ spell_all spell_declaration p.declarations more)

-- process p(..) { .. }
abbrev pub spell_process : Language → ProcessNode → List Token → List Token
spell_process l p more = spell_head p (spell_statements l p.body (token.Mark mark.RightBrace ∷ more))

-- The tokens up to those that follow spell the process in a language: those of its head, and then of its statements.
pub record SpellsProcess (levels : ℕ) (l : Language) (p : ProcessNode) (tokens more : List Token) : Type 0 where
  pub inside : List Token
  pub head : tokens ≡ spell_head p inside
  pub body : SpellsStatements levels l p.body inside (token.Mark mark.RightBrace ∷ more)

-- ---- networks

-- the values of an instance, behind its second semicolon; nothing if there are none
abbrev pub spell_values : List Literal → List Token → List Token
spell_values [] more = more
spell_values (v ∷ vs) more = token.Mark mark.Semicolon ∷ spell_list spell_literal (v ∷ vs) more

-- f(a, b; c; 1, -2)
abbrev pub spell_call : InstanceNode → List Token → List Token
spell_call i more =
    token.Name i.program ∷ token.Mark mark.LeftParen ∷ spell_names i.ins
    (token.Mark mark.Semicolon ∷ spell_names i.outs (spell_values i.values (token.Mark mark.RightParen ∷ more)))

-- channel c cap 1;  source s;  sink z cap 1;  p = f(..);
abbrev pub spell_item : Item → List Token → List Token
spell_item (channel c cap) more =
    token.Keyword keyword.Channel ∷ token.Name c ∷ token.Keyword keyword.Cap ∷ token.Number cap
    ∷ token.Mark mark.Semicolon ∷ more
spell_item (source c) more = token.Keyword keyword.Source ∷ token.Name c ∷ token.Mark mark.Semicolon ∷ more
spell_item (sink c cap) more =
    token.Keyword keyword.Sink ∷ token.Name c ∷ token.Keyword keyword.Cap ∷ token.Number cap ∷ token.Mark mark.Semicolon
    ∷ more
spell_item (instance i) more = token.Name i.name ∷ token.Mark mark.Assign
    ∷ spell_call i (token.Mark mark.Semicolon ∷ more)

-- a setting behind its reserved word, up to the semicolon, if it is written
abbrev pub spell_setting : {A : Type 0} → Keyword → (A → Token) → Option A → List Token → List Token
spell_setting word spelled None more = more
spell_setting word spelled (Some x) more = token.Keyword word ∷ spelled x ∷ token.Mark mark.Semicolon ∷ more

-- limit 3;
abbrev pub spell_limit : Option ℕ → List Token → List Token
spell_limit = spell_setting keyword.Limit token.Number

-- policy all;
abbrev pub spell_policy : Option Policy → List Token → List Token
spell_policy = spell_setting keyword.Policy (λ q. token.Name (policy_word q))

-- grow double;
abbrev pub spell_growth : Option Growth → List Token → List Token
spell_growth = spell_setting keyword.Grow (λ g. token.Name (growth_word g))

-- network { .. }
abbrev pub spell_network : NetworkNode → List Token → List Token
spell_network n more =
    token.Keyword keyword.Network ∷ token.Mark mark.LeftBrace
    ∷ spell_limit n.limit
    (spell_policy n.policy
    (spell_growth n.growth (spell_all spell_item n.items (token.Mark mark.RightBrace ∷ more))))

-- `language 2;` in language 2
abbrev pub spell_language : Language → List Token → List Token
spell_language language.One more = more
spell_language language.Two more =
    token.Keyword keyword.Language ∷ token.Number 2 ∷ token.Mark mark.Semicolon ∷ more

-- the language, the shared tables, the processes and the network, and nothing after it
abbrev pub spell_description : Language → Description → List Token
spell_description l d = spell_language l (spell_all spell_table d.tables
    (spell_all (spell_process l) d.processes (spell_network d.network [])))

-- the tokens spell the same, in one way or another
pub record SpellsDescription (levels : ℕ) (l : Language) (d : Description) (tokens : List Token) : Type 0 where
  pub inside : List Token
  pub opening : tokens ≡ spell_language l (spell_all spell_table d.tables inside)
  pub processes : SpellsAll (SpellsProcess levels l) d.processes inside (spell_network d.network [])

-- its arrays and tables are within the limits, and its blocks, with its body among them
pub record ProcessIsWithin (levels depth : ℕ) (p : ProcessNode) : Type 0 where
  pub declarations : AllByRecursion DeclarationIsWithin p.declarations
  pub body : BlockIsWithin levels depth p.body

-- a description within the limits of the grammar: its blocks and its expressions nest at most so many levels
pub record IsWithinLimits (levels : ℕ) (d : Description) : Type 0 where
  pub tables : AllByRecursion TableIsWithin d.tables
  pub processes : AllByRecursion (ProcessIsWithin levels levels) d.processes

-- The tokens are those of the description in a language, and it is within the limits of the grammar.
pub record IsDescriptionWithin (levels : ℕ) (l : Language) (tokens : List Token) (d : Description) : Type 0 where
  pub spelled : SpellsDescription levels l d tokens
  pub within : IsWithinLimits levels d

-- the same with the 32 levels that there may be
abbrev pub IsDescription : Language → List Token → Description → Type 0
IsDescription = IsDescriptionWithin MAX_LEVELS
