-- What reading returns: the tree at the front of the tokens and the tokens after it, or the first fault. A token that
-- may not be there is a fault at its first byte. If the text ends too early, the fault is at its length. A token that
-- may be there and opens a level too many is a fault of its process.
use Rattle.std.specs.Prelude.{◌≡◌, ℕ, zero, suc, ◌+◌, ◌-◌, ◌==◌, Bool, true, false, not, ◌&&◌, nat_le, if◌then◌else◌, List, [], ◌∷◌, length, Option, Some, None, Result, Ok, Err}
use Rattle.kpn_limits.specs.declared.TheConstants.{MAX_LEVELS}
use Rattle.kpn_lang.specs.declared.syntax.Op.{Op}
use Rattle.kpn_text_tokens.specs.declared.tokens.Language.{Language}
use Rattle.kpn_text_tokens.specs.declared.tokens.Language.TheVariants as language
use Rattle.kpn_text_tokens.specs.declared.tokens.Lexeme.{Lexeme}
use Rattle.kpn_text_tokens.specs.declared.tokens.Token.{Token}
use Rattle.kpn_text_tokens.specs.declared.tokens.Token.TheVariants as token
use Rattle.kpn_text_tokens.specs.declared.tokens.Mark.{Mark}
use Rattle.kpn_text_tokens.specs.declared.tokens.Mark.TheVariants as mark_
use Rattle.kpn_text_tokens.specs.declared.tokens.Keyword.{Keyword}
use Rattle.kpn_text_tokens.specs.declared.tokens.Keyword.TheVariants as keyword_
use Rattle.kpn_text_tokens.specs.Results.{◌>>=◌}
use Rattle.kpn_text_grammar.specs.declared.fault.GrammarFault.{GrammarFault}
use Rattle.kpn_text_grammar.specs.declared.fault.GrammarFault.TheVariants as fault
use Rattle.kpn_text_grammar.specs.declared.parser.Scope.{Scope}
use Rattle.kpn_text_grammar.specs.TokenTests.{is_mark, is_keyword, is_number_two, is_name}
use Rattle.kpn_text_grammar.specs.Operators.{operator_called, operator_of, tightness, left_side, right_side, OPERAND, loosest}
use Rattle.kpn_text_grammar.specs.Spelling.{term_level}
use Rattle.kpn_text_grammar.specs.Words.{growth_spelled, policy_spelled}
use Rattle.kpn_text_grammar.specs.Syntax.{NameBytes, ExpressionNode, numeral, variable, element, minus, negation, complement, binary, conditional, StatementNode, assign, store, receive, send, choice, loop, Statements, no_statements, statement, as_statements, Literal, plain, negated, Table, Declaration, array, table, ProcessNode, InstanceNode, Item, channel, source, sink, instance, NetworkNode, Description}

-- what was read and the tokens after it, or the first fault
abbrev pub Read : Type 0 → Type 0
Read A = Result (A × List Lexeme) GrammarFault

-- a call failed as reading does, or memory ran out
abbrev pub ReadingFails : {B : Type 0} → GrammarFault → Result B GrammarFault → Type 0
ReadingFails fault.NoMemory read = Unit {0}
ReadingFails (fault.Grammar at) read = read ≡ Err (fault.Grammar at)
ReadingFails (fault.TooDeep process) read = read ≡ Err (fault.TooDeep process)

-- What a call returned, seen by a view, is what reading returns, unless memory ran out.
abbrev pub ReadingGives : {A B : Type 0} → (A → B) → Result A GrammarFault → Result B GrammarFault → Type 0
ReadingGives view (Ok x) read = read ≡ Ok (view x)
ReadingGives view (Err e) read = ReadingFails e read

-- the token at the front
unfoldable pub next : Scope → List Lexeme → Read Lexeme
next s [] = Err (fault.Grammar s.end)
next s (l ∷ ls) = Ok (l, ls)

-- there is a token at the front, and it passes this test
abbrev pub first_is : (Token → Bool) → List Lexeme → Bool
first_is goes [] = false
first_is goes (l ∷ ls) = goes l.token

unfoldable pub mark : Scope → Mark → List Lexeme → Result (List Lexeme) GrammarFault
mark s m ls = do
  x ← next s ls
  if is_mark m x.0.token then Ok x.1 else Err (fault.Grammar x.0.start)

unfoldable pub keyword : Scope → Keyword → List Lexeme → Result (List Lexeme) GrammarFault
keyword s k ls = do
  x ← next s ls
  if is_keyword k x.0.token then Ok x.1 else Err (fault.Grammar x.0.start)

abbrev pub or_fault_at : {A : Type 0} → ℕ → List Lexeme → Option A → Read A
or_fault_at start rest (Some x) = Ok (x, rest)
or_fault_at start rest None = Err (fault.Grammar start)

-- what the token at the front stands for, if it stands for something
unfoldable pub read_as : {A : Type 0} → (Token → Option A) → Scope → List Lexeme → Read A
read_as stands_for s ls = next s ls >>= λ x. or_fault_at x.0.start x.1 (stands_for x.0.token)

abbrev pub token_name : Token → Option NameBytes
token_name (token.Name x) = Some x
token_name _ = None

unfoldable pub name : Scope → List Lexeme → Read NameBytes
name = read_as token_name

abbrev pub token_number : Token → Option ℕ
token_number (token.Number n) = Some n
token_number _ = None

unfoldable pub number : Scope → List Lexeme → Read ℕ
number = read_as token_number

-- the operator of a token, if it has one
abbrev pub token_operator : Token → Option Op
token_operator (token.Mark m) = operator_of m
token_operator _ = None

unfoldable pub operator : Scope → List Lexeme → Read Op
operator = read_as token_operator

-- what a name stands for, if it stands for something
abbrev pub token_word : {A : Type 0} → (NameBytes → Option A) → Token → Option A
token_word meant (token.Name x) = meant x
token_word meant _ = None

-- ---- repetition

-- One after another, each with its number, from i on, as long as the token at the front passes the test. n is at least
-- how many there are.
unfoldable pub many : {A : Type 0} → (Token → Bool) → (ℕ → List Lexeme → Read A) → ℕ → ℕ → List Lexeme → Read (List A)
many goes one i zero ls = Ok ([], ls)
many goes one i (suc n) ls =
    if first_is goes ls
    then (one i ls >>= λ x. many goes one (i + 1) n x.1 >>= λ xs. Ok (x.0 ∷ xs.0, xs.1))
    else Ok ([], ls)

-- all of them
unfoldable pub all_of : {A : Type 0} → (Token → Bool) → (List Lexeme → Read A) → List Lexeme → Read (List A)
all_of goes one ls = many goes (λ i. one) 0 (length ls) ls

-- one more behind a comma
unfoldable pub further : {A : Type 0} → Scope → (List Lexeme → Read A) → List Lexeme → Read A
further s one ls = mark s mark_.Comma ls >>= one

-- one or more, with commas between them, numbered from 0
unfoldable pub separated : {A : Type 0} → Scope → (List Lexeme → Read A) → List Lexeme → Read (List A)
separated s one ls = do
  x ← one ls
  xs ← many (is_mark mark_.Comma) (λ i. further s one) 1 (length x.1) x.1
  Ok (x.0 ∷ xs.0, xs.1)

-- names, or none if no name is at the front
unfoldable pub optional_names : Scope → List Lexeme → Read (List NameBytes)
optional_names s ls = if first_is is_name ls then separated s (name s) ls else Ok ([], ls)

-- `(`, the two sides with a comma between them, and `)`, behind the name of an operator
unfoldable pub call_behind : Scope → (List Lexeme → Read ExpressionNode) → Op → List Lexeme → Read ExpressionNode
call_behind s inner op ls = do
  inside ← mark s mark_.LeftParen ls
  a ← inner inside
  other ← mark s mark_.Comma a.1
  b ← inner other
  rest ← mark s mark_.RightParen b.1
  Ok (binary op a.0 b.0, rest)

-- a name, or the operator that it calls if `(` is behind it
unfoldable pub call_or_name : Scope → (List Lexeme → Read ExpressionNode) → NameBytes → Option Op → List Lexeme
    → Read ExpressionNode
call_or_name s inner x None ls = Ok (variable x, ls)
call_or_name s inner x (Some op) ls =
    if first_is (is_mark mark_.LeftParen) ls then call_behind s inner op ls else Ok (variable x, ls)

-- a name, a call or an element, by a parser of what stands inside
unfoldable pub behind_name : Scope → (List Lexeme → Read ExpressionNode) → NameBytes → List Lexeme → Read ExpressionNode
behind_name s inner x ls =
    if first_is (is_mark mark_.LeftBracket) ls
    then (do
      inside ← mark s mark_.LeftBracket ls
      e ← inner inside
      rest ← mark s mark_.RightBracket e.1
      Ok (element x e.0, rest))
    else call_or_name s inner x (operator_called s.language x) ls

-- ---- expressions, by parsers of those inside

abbrev pub begins_expression : Token → Bool
begins_expression (token.Number n) = true
begins_expression (token.Name x) = true
begins_expression (token.Mark mark_.Minus) = true
begins_expression (token.Mark mark_.Not) = true
begins_expression (token.Mark mark_.BitNot) = true
begins_expression (token.Mark mark_.LeftParen) = true
begins_expression _ = false

-- the fault of a token if no level is left: it opens one too many, if an expression can begin with it
abbrev pub level_fault : Scope → Lexeme → GrammarFault
level_fault s l = if begins_expression l.token then fault.TooDeep s.process else fault.Grammar l.start

-- an operator and the right side, behind the left one
unfoldable pub binary_behind : Scope → (List Lexeme → Read ExpressionNode) → ExpressionNode → List Lexeme → Read ExpressionNode
binary_behind s inner left ls = do
  op ← operator s ls
  right ← inner op.1
  rest ← mark s mark_.RightParen right.1
  Ok (binary op.0 left right.0, rest)

-- `?` and the two values, behind what decides between them
unfoldable pub conditional_behind : Scope → (List Lexeme → Read ExpressionNode) → ExpressionNode → List Lexeme → Read ExpressionNode
conditional_behind s inner c ls = do
  after ← mark s mark_.Question ls
  a ← inner after
  other ← mark s mark_.Colon a.1
  b ← inner other
  rest ← mark s mark_.RightParen b.1
  Ok (conditional c a.0 b.0, rest)

-- the operator binds as tight as n, and may stand behind a left side that binds as tight as `left`
abbrev pub operator_fits : (n left : ℕ) → Option Op → Bool
operator_fits n left (Some op) = nat_le n (tightness op) && nat_le (left_side op) left
operator_fits n left None = false

abbrev pub goes_further : (n left : ℕ) → Token → Bool
goes_further n left t = operator_fits n left (token_operator t)

-- what is read behind a left side, if that has fewer levels than there are
abbrev pub unless_full : Scope → (levels : ℕ) → ExpressionNode → Read ExpressionNode → Read ExpressionNode
unless_full s levels left read = if nat_le levels (term_level left) then Err (fault.TooDeep s.process) else read

-- Operators that bind as tight as n, each with its right side, behind a left side that binds as tight as `bound`. The
-- whole has at most so many levels. Each operator takes one, so `steps` that are as many suffice.
unfoldable pub sides_behind : Scope → (side : ℕ → List Lexeme → Read ExpressionNode) → (levels n steps bound : ℕ) → ExpressionNode
    → List Lexeme → Read ExpressionNode
sides_behind s side levels n zero bound left ls =
    if first_is (goes_further n bound) ls then Err (fault.TooDeep s.process) else Ok (left, ls)
sides_behind s side levels n (suc steps) bound left ls =
    if first_is (goes_further n bound) ls
    then unless_full s levels left
    (operator s ls >>= λ op. side (right_side op.0) op.1
    >>= λ right. sides_behind s side levels n steps (tightness op.0) (binary op.0 left right.0) right.1)
    else Ok (left, ls)

abbrev pub is_second : Language → Bool
is_second language.One = false
is_second language.Two = true

-- What stands between parentheses, by parsers of one that has so many levels and of one that has one less. In language 1
-- an operator has to be there.
unfoldable pub inside_behind : Scope → (levels : ℕ) → (inner deeper : List Lexeme → Read ExpressionNode) → List Lexeme → Read ExpressionNode
inside_behind s levels inner deeper ls =
    inner ls >>= λ first. if first_is (is_mark mark_.Question) first.1
    then unless_full s levels first.0 (conditional_behind s deeper first.0 first.1)
    else (if is_second s.language
    then (mark s mark_.RightParen first.1 >>= λ rest. Ok (first.0, rest))
    else unless_full s levels first.0 (binary_behind s deeper first.0 first.1))

-- An operand of at most one level more than these, from its first token on, which begins at this byte. `inner` parses
-- what stands behind a sign, `(` or `[`, by its levels and by how tight it has to bind.
unfoldable pub tight_operand : Scope → (inner : ℕ → ℕ → List Lexeme → Read ExpressionNode) → (levels : ℕ) → Token → ℕ
    → List Lexeme → Read ExpressionNode
tight_operand s inner levels (token.Number k) start rest = Ok (numeral k, rest)
tight_operand s inner levels (token.Name x) start rest = behind_name s (inner levels (loosest s.language)) x rest
tight_operand s inner levels (token.Mark mark_.Minus) start rest =
    inner levels OPERAND rest >>= λ e. Ok (minus e.0, e.1)
tight_operand s inner levels (token.Mark mark_.Not) start rest =
    inner levels OPERAND rest >>= λ e. Ok (negation e.0, e.1)
tight_operand s inner levels (token.Mark mark_.BitNot) start rest =
    inner levels OPERAND rest >>= λ e. Ok (complement e.0, e.1)
tight_operand s inner levels (token.Mark mark_.LeftParen) start rest =
    inside_behind s (suc levels) (inner (suc levels) (loosest s.language)) (inner levels (loosest s.language)) rest
tight_operand s inner levels _ start rest = Err (fault.Grammar start)

-- an expression of at most so many levels that binds as tight as n
unfoldable pub tight_over : Scope → (inner : ℕ → ℕ → List Lexeme → Read ExpressionNode) → (levels n : ℕ) → List Lexeme → Read ExpressionNode
tight_over s inner zero n ls = next s ls >>= λ x. Err (level_fault s x.0)
tight_over s inner (suc levels) n ls = do
  x ← next s ls
  left ← tight_operand s inner levels x.0.token x.0.start x.1
  sides_behind s (tight_over s inner levels) (suc levels) n (suc levels) OPERAND left.0 left.1

-- The same. At most so many operands, signs, `(` and `[` stand in each other.
unfoldable pub tight : Scope → (depth levels n : ℕ) → List Lexeme → Read ExpressionNode
tight s zero levels n ls = next s ls >>= λ x. Err (level_fault s x.0)
tight s (suc depth) levels n ls = tight_over s (tight s depth) levels n ls

-- an expression of a statement
unfoldable pub whole : Scope → List Lexeme → Read ExpressionNode
whole s ls = tight s s.levels s.levels (loosest s.language) ls

-- ---- statements, by a parser of the blocks one level deeper

-- behind the name of a variable
unfoldable pub assignment_behind : Scope → NameBytes → List Lexeme → Read StatementNode
assignment_behind s x ls = do
  after ← mark s mark_.Assign ls
  e ← whole s after
  rest ← mark s mark_.Semicolon e.1
  Ok (assign x e.0, rest)

-- behind the name of an array
unfoldable pub store_behind : Scope → NameBytes → List Lexeme → Read StatementNode
store_behind s x ls = do
  inside ← mark s mark_.LeftBracket ls
  i ← whole s inside
  after ← mark s mark_.RightBracket i.1
  item ← mark s mark_.Assign after
  e ← whole s item
  rest ← mark s mark_.Semicolon e.1
  Ok (store x i.0 e.0, rest)

-- behind the name of what is set
unfoldable pub target_behind : Scope → NameBytes → List Lexeme → Read StatementNode
target_behind s x ls =
    if first_is (is_mark mark_.LeftBracket) ls then store_behind s x ls else assignment_behind s x ls

unfoldable pub receive_behind : Scope → List Lexeme → Read StatementNode
receive_behind s ls = do
  i ← name s ls
  x ← name s i.1
  rest ← mark s mark_.Semicolon x.1
  Ok (receive i.0 x.0, rest)

unfoldable pub send_behind : Scope → List Lexeme → Read StatementNode
send_behind s ls = do
  o ← name s ls
  e ← whole s o.1
  rest ← mark s mark_.Semicolon e.1
  Ok (send o.0 e.0, rest)

-- The second block of an `if`, by a parser of it. In language 2 it may be missing.
unfoldable pub else_behind : Scope → (List Lexeme → Read Statements) → List Lexeme → Read Statements
else_behind s second ls =
    if is_second s.language && not (first_is (is_keyword keyword_.Else) ls)
    then Ok (no_statements, ls)
    else (keyword s keyword_.Else ls >>= second)

-- behind `if`, by a parser of what stands behind `else` too
unfoldable pub choice_behind : Scope → (inner second : List Lexeme → Read Statements) → List Lexeme → Read StatementNode
choice_behind s inner second ls = do
  e ← whole s ls
  a ← inner e.1
  b ← else_behind s second a.1
  Ok (choice e.0 a.0 b.0, b.1)

unfoldable pub loop_behind : Scope → (List Lexeme → Read Statements) → List Lexeme → Read StatementNode
loop_behind s inner ls = do
  e ← whole s ls
  b ← inner e.1
  Ok (loop e.0 b.0, b.1)

-- behind its first token, which begins at this byte
unfoldable pub statement_behind : Scope → (inner second : List Lexeme → Read Statements) → Token → ℕ → List Lexeme
    → Read StatementNode
statement_behind s inner second (token.Name x) start rest = target_behind s x rest
statement_behind s inner second (token.Keyword keyword_.Read) start rest = receive_behind s rest
statement_behind s inner second (token.Keyword keyword_.Write) start rest = send_behind s rest
statement_behind s inner second (token.Keyword keyword_.If) start rest = choice_behind s inner second rest
statement_behind s inner second (token.Keyword keyword_.While) start rest = loop_behind s inner rest
statement_behind s inner second _ start rest = Err (fault.Grammar start)

unfoldable pub one_statement : Scope → (inner second : List Lexeme → Read Statements) → List Lexeme → Read StatementNode
one_statement s inner second ls = next s ls >>= λ x. statement_behind s inner second x.0.token x.0.start x.1

-- anything but the brace that ends a block or the network
abbrev pub stands_in_block : Token → Bool
stands_in_block t = not (is_mark mark_.RightBrace t)

-- the statements of a block and its closing brace
unfoldable pub block_behind : Scope → (inner second : List Lexeme → Read Statements) → List Lexeme → Read Statements
block_behind s inner second ls = do
  found ← all_of stands_in_block (one_statement s inner second) ls
  rest ← mark s mark_.RightBrace found.1
  Ok (as_statements found.0, rest)

-- the braces of a block and what is in it
unfoldable pub opened : Scope → (inner second : List Lexeme → Read Statements) → List Lexeme → Read Statements
opened s inner second ls = mark s mark_.LeftBrace ls >>= block_behind s inner second

-- a block that has no level left
unfoldable pub too_deep : Scope → List Lexeme → Read Statements
too_deep s ls = mark s mark_.LeftBrace ls >>= λ rest. Err (fault.TooDeep s.process)

-- in language 2 an `if` may stand behind `else`
abbrev pub is_branch : Scope → List Lexeme → Bool
is_branch s ls = is_second s.language && first_is (is_keyword keyword_.If) ls

-- this `if`, as the one statement of a block
unfoldable pub branch : Scope → (inner second : List Lexeme → Read Statements) → List Lexeme → Read Statements
branch s inner second ls = do
  word ← keyword s keyword_.If ls
  c ← choice_behind s inner second word
  Ok (statement c.0 no_statements, c.1)

unfoldable mutual
  -- a block of at most so many levels
  pub block : Scope → ℕ → List Lexeme → Read Statements
  block s zero ls = too_deep s ls
  block s (suc d) ls = opened s (block s d) (second_block s d) ls

  -- the same behind `else`
  pub second_block : Scope → ℕ → List Lexeme → Read Statements
  second_block s zero ls = if is_branch s ls then Err (fault.TooDeep s.process) else too_deep s ls
  second_block s (suc d) ls =
      if is_branch s ls
      then branch s (block s d) (second_block s d) ls
      else opened s (block s d) (second_block s d) ls

-- ---- tables and arrays

-- a number or a number behind a minus, from its first token on, which begins at this byte
unfoldable pub literal_behind : Scope → Token → ℕ → List Lexeme → Read Literal
literal_behind s (token.Number n) start rest = Ok (plain n, rest)
literal_behind s (token.Mark mark_.Minus) start rest = number s rest >>= λ n. Ok (negated n.0, n.1)
literal_behind s _ start rest = Err (fault.Grammar start)

unfoldable pub literal : Scope → List Lexeme → Read Literal
literal s ls = next s ls >>= λ x. literal_behind s x.0.token x.0.start x.1

-- the size of an array, which is a number above 0
abbrev pub token_size : Token → Option ℕ
token_size (token.Number n) = if n == 0 then None else Some n
token_size _ = None

unfoldable pub array_behind : Scope → List Lexeme → Read Declaration
array_behind s ls = do
  x ← name s ls
  inside ← mark s mark_.LeftBracket x.1
  n ← read_as token_size s inside
  after ← mark s mark_.RightBracket n.1
  rest ← mark s mark_.Semicolon after
  Ok (array x.0 n.0, rest)

unfoldable pub table_behind : Scope → List Lexeme → Read Table
table_behind s ls = do
  x ← name s ls
  inside ← mark s mark_.Assign x.1
  vs ← separated s (literal s) inside
  rest ← mark s mark_.Semicolon vs.1
  Ok (record { name = x.0; values = vs.0 }, rest)

-- behind its first token, which begins at this byte
unfoldable pub declaration_behind : Scope → Token → ℕ → List Lexeme → Read Declaration
declaration_behind s (token.Keyword keyword_.Array) start rest = array_behind s rest
declaration_behind s (token.Keyword keyword_.Table) start rest = table_behind s rest >>= λ t. Ok (table t.0, t.1)
declaration_behind s _ start rest = Err (fault.Grammar start)

unfoldable pub declaration : Scope → List Lexeme → Read Declaration
declaration s ls = next s ls >>= λ x. declaration_behind s x.0.token x.0.start x.1

abbrev pub declares : Token → Bool
declares (token.Keyword keyword_.Array) = true
declares (token.Keyword keyword_.Table) = true
declares _ = false

unfoldable pub shared_table : Scope → List Lexeme → Read Table
shared_table s ls = keyword s keyword_.Table ls >>= table_behind s

-- ---- processes

-- the ports and parameters of a process
pub record HeadParts : Type 0 where
  pub ins : List NameBytes
  pub outs : List NameBytes
  pub pars : List NameBytes

-- [ ";" "par" names ] behind the ports
unfoldable pub after_outs : Scope → List NameBytes → List NameBytes → List Lexeme → Read HeadParts
after_outs s ins outs ls =
    if first_is (is_mark mark_.Semicolon) ls
    then (do
      after ← mark s mark_.Semicolon ls
      word ← keyword s keyword_.Par after
      pars ← separated s (name s) word
      Ok (record { ins = ins; outs = outs; pars = pars.0 }, pars.1))
    else Ok (record { ins = ins; outs = outs; pars = [] }, ls)

-- "out" names [ ";" "par" names ] or "par" names behind the in ports, from its first token on, which begins at this
-- byte
unfoldable pub outs_or_pars : Scope → List NameBytes → Token → ℕ → List Lexeme → Read HeadParts
outs_or_pars s ins (token.Keyword keyword_.Out) start rest = separated s (name s) rest >>= λ outs. after_outs s ins outs.0 outs.1
outs_or_pars s ins (token.Keyword keyword_.Par) start rest =
    separated s (name s) rest >>= λ pars. Ok (record { ins = ins; outs = []; pars = pars.0 }, pars.1)
outs_or_pars s ins _ start rest = Err (fault.Grammar start)

-- the same behind a semicolon, if one is at the front
unfoldable pub after_ins : Scope → List NameBytes → List Lexeme → Read HeadParts
after_ins s ins ls =
    if first_is (is_mark mark_.Semicolon) ls
    then (do
      after ← mark s mark_.Semicolon ls
      x ← next s after
      outs_or_pars s ins x.0.token x.0.start x.1)
    else Ok (record { ins = ins; outs = []; pars = [] }, ls)

-- from its first token on, which begins at this byte
unfoldable pub parts_behind : Scope → Token → ℕ → List Lexeme → Read HeadParts
parts_behind s (token.Keyword keyword_.In) start rest = separated s (name s) rest >>= λ ins. after_ins s ins.0 ins.1
parts_behind s t start rest = outs_or_pars s [] t start rest

-- ports and parameters up to the closing parenthesis
unfoldable pub parts : Scope → List Lexeme → Read HeadParts
parts s ls =
    if first_is (is_mark mark_.RightParen) ls
    then Ok (record { ins = []; outs = []; pars = [] }, ls)
    else (next s ls >>= λ x. parts_behind s x.0.token x.0.start x.1)

unfoldable pub process : Scope → List Lexeme → Read ProcessNode
process s ls = do
  word ← keyword s keyword_.Process ls
  x ← name s word
  inside ← mark s mark_.LeftParen x.1
  p ← parts s inside
  after ← mark s mark_.RightParen p.1
  opened ← mark s mark_.LeftBrace after
  ds ← all_of declares (declaration s) opened
  body ← block_behind s (block s (s.levels - 1)) (second_block s (s.levels - 1)) ds.1
  Ok (
    record {
      name = x.0;
      ins = p.0.ins;
      outs = p.0.outs;
      pars = p.0.pars;
      declarations = ds.0;
      body = body.0;
    },
    body.1,
  )

unfoldable pub numbered_process : Scope → ℕ → List Lexeme → Read ProcessNode
numbered_process s i ls = process (record { end = s.end; process = i; language = s.language; levels = s.levels }) ls

unfoldable pub processes : Scope → List Lexeme → Read (List ProcessNode)
processes s ls = many (is_keyword keyword_.Process) (numbered_process s) 0 (length ls) ls

-- ---- networks

-- what a name and a capacity make, with "cap" and the semicolon
unfoldable pub with_capacity : (NameBytes → ℕ → Item) → Scope → List Lexeme → Read Item
with_capacity made s ls = do
  x ← name s ls
  word ← keyword s keyword_.Cap x.1
  n ← number s word
  rest ← mark s mark_.Semicolon n.1
  Ok (made x.0 n.0, rest)

-- values behind a semicolon, or none if no semicolon is at the front
unfoldable pub optional_values : Scope → List Lexeme → Read (List Literal)
optional_values s ls =
    if first_is (is_mark mark_.Semicolon) ls
    then (mark s mark_.Semicolon ls >>= separated s (literal s))
    else Ok ([], ls)

-- the program of the instance of this name, its channels and values
unfoldable pub call : Scope → NameBytes → List Lexeme → Read InstanceNode
call s x ls = do
  f ← name s ls
  inside ← mark s mark_.LeftParen f.1
  ins ← optional_names s inside
  after ← mark s mark_.Semicolon ins.1
  outs ← optional_names s after
  vs ← optional_values s outs.1
  rest ← mark s mark_.RightParen vs.1
  Ok (record { name = x; program = f.0; ins = ins.0; outs = outs.0; values = vs.0 }, rest)

unfoldable pub instance_behind : Scope → NameBytes → List Lexeme → Read Item
instance_behind s x ls = do
  after ← mark s mark_.Assign ls
  i ← call s x after
  rest ← mark s mark_.Semicolon i.1
  Ok (instance i.0, rest)

-- behind its first token, which begins at this byte
unfoldable pub item_behind : Scope → Token → ℕ → List Lexeme → Read Item
item_behind s (token.Keyword keyword_.Channel) start rest = with_capacity channel s rest
item_behind s (token.Keyword keyword_.Source) start rest =
    name s rest >>= λ x. mark s mark_.Semicolon x.1 >>= λ after. Ok (source x.0, after)
item_behind s (token.Keyword keyword_.Sink) start rest = with_capacity sink s rest
item_behind s (token.Name x) start rest = instance_behind s x rest
item_behind s _ start rest = Err (fault.Grammar start)

unfoldable pub item : Scope → List Lexeme → Read Item
item s ls = next s ls >>= λ x. item_behind s x.0.token x.0.start x.1

-- a setting and the semicolon behind its reserved word, if that is at the front
unfoldable pub setting : {A : Type 0} → Keyword → (Scope → List Lexeme → Read A) → Scope → List Lexeme
    → Read (Option A)
setting k one s ls =
    if first_is (is_keyword k) ls
    then (do
      word ← keyword s k ls
      x ← one s word
      rest ← mark s mark_.Semicolon x.1
      Ok (Some x.0, rest))
    else Ok (None, ls)

unfoldable pub network : Scope → List Lexeme → Read NetworkNode
network s ls = do
  word ← keyword s keyword_.Network ls
  inside ← mark s mark_.LeftBrace word
  n ← setting keyword_.Limit number s inside
  q ← setting keyword_.Policy (read_as (token_word policy_spelled)) s n.1
  g ← setting keyword_.Grow (read_as (token_word growth_spelled)) s q.1
  found ← all_of stands_in_block (item s) g.1
  rest ← mark s mark_.RightBrace found.1
  Ok (record { limit = n.0; policy = q.0; growth = g.0; items = found.0 }, rest)

-- nothing is left
unfoldable pub at_end : List Lexeme → Result (Unit {0}) GrammarFault
at_end [] = Ok tt
at_end (l ∷ ls) = Err (fault.Grammar l.start)

-- a number of value 2
unfoldable pub two : Scope → List Lexeme → Result (List Lexeme) GrammarFault
two s ls = do
  x ← next s ls
  if is_number_two x.0.token then Ok x.1 else Err (fault.Grammar x.0.start)

-- `language 2;` in language 2, and nothing in language 1
unfoldable pub language_at : Scope → Language → List Lexeme → Result (List Lexeme) GrammarFault
language_at s language.One ls = Ok ls
language_at s language.Two ls = do
  word ← keyword s keyword_.Language ls
  number ← two s word
  mark s mark_.Semicolon number

-- the shared tables, the processes, the network and nothing after it
unfoldable pub contents : Scope → List Lexeme → Result Description GrammarFault
contents s ls = do
  ts ← all_of (is_keyword keyword_.Table) (shared_table s) ls
  ps ← processes s ts.1
  n ← network s ps.1
  nothing ← at_end n.1
  Ok (record { tables = ts.0; processes = ps.0; network = n.0 })

-- the same behind the language
unfoldable pub description : Scope → List Lexeme → Result Description GrammarFault
description s ls = language_at s s.language ls >>= contents s

-- what the tokens of a text of this length are read as in a language, with the processes numbered from 0
abbrev pub description_of : Language → ℕ → List Lexeme → Result Description GrammarFault
description_of l end ls = description (record { end = end; process = 0; language = l; levels = MAX_LEVELS }) ls

-- an expression and nothing after it
unfoldable pub expression : Scope → List Lexeme → Result ExpressionNode GrammarFault
expression s ls = do
  e ← whole s ls
  nothing ← at_end e.1
  Ok e.0

-- what all these tokens, with this byte behind them, are read as in a language
abbrev pub expression_of : Language → ℕ → List Lexeme → Result ExpressionNode GrammarFault
expression_of l end ls = expression (record { end = end; process = 0; language = l; levels = MAX_LEVELS }) ls
