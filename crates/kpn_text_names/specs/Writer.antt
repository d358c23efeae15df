-- The body of a process as the code writes it block by block: the names known so far, and the blocks so far. A block
-- takes its number at its opening brace, and gets its statements at its closing brace. Scaffolding: only contracts of
-- private calls cite it, and what resolve returns is in Named.
use Rattle.std.specs.Prelude.{ℕ, if◌then◌else◌, List, [], ◌∷◌, ◌++◌, length, slice_set, Result, Ok, Err}
use Rattle.kpn_lang.specs.Syntax as lang
use Rattle.kpn_text_grammar.specs.Syntax.{NameBytes, StatementNode, assign, store, receive, send, choice, loop, Statements, no_statements, statement}
use Rattle.kpn_text_names.specs.declared.scope.NameScope.{NameScope}
use Rattle.kpn_text_names.specs.declared.scope.HeadPart.{HeadPart}
use Rattle.kpn_text_names.specs.declared.scope.HeadPart.TheVariants.{In, Out, Parameter}
use Rattle.kpn_text_names.specs.Fault.{NameError, double}
use Rattle.kpn_text_tokens.specs.Results.{◌>>=◌}
use Rattle.kpn_text_names.specs.Names.{known}
use Rattle.kpn_text_names.specs.Scope.{is_taken, target, array_row}
use Rattle.kpn_text_names.specs.Body.{term_in}
use Rattle.kpn_text_names.specs.Blocks.{WrittenBody}

-- ---- the head of a process, name by name

-- with one name more
abbrev pub with_head_name : HeadPart → NameScope → NameBytes → NameScope
with_head_name In s x = record s { ins = s.ins ++ x ∷ [] }
with_head_name Out s x = record s { outs = s.outs ++ x ∷ [] }
with_head_name Parameter s x = record s { vars = s.vars ++ x ∷ [] }

-- a name of this part of the head, which must be new
abbrev pub declared_in : (shared : List NameBytes) → HeadPart → NameScope → NameBytes → Result NameScope NameError
declared_in shared part s x = if is_taken shared s x then Err double else Ok (with_head_name part s x)

-- ---- the body

abbrev pub with_scope : WrittenBody → NameScope → WrittenBody
with_scope w s = record w { scope = s }

-- with a block more, still without statements
abbrev pub with_open_block : WrittenBody → WrittenBody
with_open_block w = record w { blocks = w.blocks ++ [] ∷ [] }

-- with the statements of this block
abbrev pub closed : WrittenBody → ℕ → List lang.Statement → WrittenBody
closed w n statements = record w { blocks = slice_set w.blocks n statements }

-- a block that opens after w and then has this inside, with its number
abbrev pub as_block : WrittenBody → Result (WrittenBody × List lang.Statement) NameError → Result (WrittenBody × ℕ) NameError
as_block w inside = inside >>= λ r. Ok (closed r.0 (length w.blocks) r.1, length w.blocks)

unfoldable mutual
  -- a statement, with what is written behind it
  pub statement_at : (shared : List NameBytes) → WrittenBody → StatementNode → Result (WrittenBody × lang.Statement) NameError
  statement_at shared w (assign x e) = do
    t ← target shared w.scope x
    a ← term_in t.0 e
    Ok (with_scope w t.0, lang.Assign t.1 a)
  statement_at shared w (store x i e) = do
    row ← array_row w.scope x
    a ← term_in w.scope i
    b ← term_in w.scope e
    Ok (w, lang.Set row.base row.size a b)
  statement_at shared w (receive i x) = do
    port ← known w.scope.ins i
    t ← target shared w.scope x
    Ok (with_scope w t.0, lang.Read port t.1)
  statement_at shared w (send o e) = do
    port ← known w.scope.outs o
    a ← term_in w.scope e
    Ok (w, lang.Write port a)
  statement_at shared w (choice e b c) = do
    a ← term_in w.scope e
    first ← as_block w (statements_at shared (with_open_block w) [] b)
    second ← as_block first.0 (statements_at shared (with_open_block first.0) [] c)
    Ok (second.0, lang.If a first.1 second.1)
  statement_at shared w (loop e b) = do
    a ← term_in w.scope e
    body ← as_block w (statements_at shared (with_open_block w) [] b)
    Ok (body.0, lang.While a body.1)

  -- several statements, after these
  pub statements_at : (shared : List NameBytes) → WrittenBody → List lang.Statement → Statements
      → Result (WrittenBody × List lang.Statement) NameError
  statements_at shared w done no_statements = Ok (w, done)
  statements_at shared w done (statement s ss) = do
    first ← statement_at shared w s
    statements_at shared first.0 (done ++ first.1 ∷ []) ss

-- a block with the blocks inside it, and its number
abbrev pub numbered_block : (shared : List NameBytes) → WrittenBody → Statements → Result (WrittenBody × ℕ) NameError
numbered_block shared w b = as_block w (statements_at shared (with_open_block w) [] b)
