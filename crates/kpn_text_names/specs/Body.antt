-- The body of a process with numbers in place of names: variables, ports and cells by their numbers, read in the order
-- of the text. Each statement comes in front of the tree of what follows it.
use Rattle.std.specs.Prelude.{pos, List, Result, Ok}
use Rattle.kpn_lang.specs.Syntax as lang
use Rattle.kpn_lang.specs.Tree.{Tree, End, Assign, Read, Write, If, While, Set}
use Rattle.kpn_text_grammar.specs.Syntax.{NameBytes, ExpressionNode, numeral, variable, element, minus, negation, complement, binary, conditional, StatementNode, assign, store, receive, send, choice, loop, Statements, no_statements, statement}
use Rattle.kpn_text_names.specs.declared.scope.NameScope.{NameScope}
use Rattle.kpn_text_names.specs.Fault.{NameError}
use Rattle.kpn_text_tokens.specs.Results.{◌>>=◌}
use Rattle.kpn_text_names.specs.Names.{known}
use Rattle.kpn_text_names.specs.Scope.{target, array_row, row_of}

-- an expression: each name in it must be a variable, an array or a table
unfoldable pub term_in : NameScope → ExpressionNode → Result lang.Term NameError
term_in s (numeral n) = Ok (lang.Num (pos n))
term_in s (variable x) = known s.vars x >>= λ k. Ok (lang.Var k)
term_in s (element x e) = do
  row ← row_of s x
  a ← term_in s e
  Ok (lang.Cell row.base row.size a)
term_in s (minus e) = term_in s e >>= λ a. Ok (lang.Neg a)
term_in s (negation e) = term_in s e >>= λ a. Ok (lang.Not a)
term_in s (complement e) = term_in s e >>= λ a. Ok (lang.BitNot a)
term_in s (binary o e f) = do
  a ← term_in s e
  b ← term_in s f
  Ok (lang.Bin o a b)
term_in s (conditional e f g) = do
  a ← term_in s e
  b ← term_in s f
  c ← term_in s g
  Ok (lang.Choice a b c)

unfoldable mutual
  -- a statement in front of what follows, with the names known from there on, if these are the shared tables. The
  -- expression of an assignment knows its target. A read is from an in port, a write to an out port
  pub statement_in : (shared : List NameBytes) → NameScope → StatementNode → Result (NameScope × (Tree → Tree)) NameError
  statement_in shared s (assign x e) = do
    t ← target shared s x
    a ← term_in t.0 e
    Ok (t.0, Assign t.1 a)
  statement_in shared s (store x i e) = do
    row ← array_row s x
    a ← term_in s i
    b ← term_in s e
    Ok (s, Set row.base row.size a b)
  statement_in shared s (receive i x) = do
    port ← known s.ins i
    t ← target shared s x
    Ok (t.0, Read port t.1)
  statement_in shared s (send o e) = do
    port ← known s.outs o
    a ← term_in s e
    Ok (s, Write port a)
  statement_in shared s (choice e b c) = do
    a ← term_in s e
    first ← tree_in shared s b
    second ← tree_in shared first.0 c
    Ok (second.0, If a first.1 second.1)
  statement_in shared s (loop e b) = do
    a ← term_in s e
    body ← tree_in shared s b
    Ok (body.0, While a body.1)

  -- the statements of a block, with the names known after them
  pub tree_in : (shared : List NameBytes) → NameScope → Statements → Result (NameScope × Tree) NameError
  tree_in shared s no_statements = Ok (s, End)
  tree_in shared s (statement x xs) = do
    first ← statement_in shared s x
    rest ← tree_in shared first.0 xs
    Ok (rest.0, first.1 rest.1)
