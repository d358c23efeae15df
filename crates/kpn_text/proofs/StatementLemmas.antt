-- How printed statements are read.
use Rattle.kpn_text.proofs.Common.{ℕ, suc, List, ◌∷◌, ◌++◌, codes, refl, Language, Token, ExpressionNode, StatementNode, assign, store, receive, send, choice, loop, Statements, no_statements, statement, spell_expression, spell_else, spell_statement, spell_statements, IsProperTerm, IsProperStatement, AreProper, indented, whole_text, otherwise_text, statement_text, statements_text, unindented_text}
use Rattle.kpn_text_tokens.specs.declared.tokens.Keyword.TheVariants as keyword
use Rattle.kpn_text_tokens.specs.declared.tokens.Language.TheVariants as language
use Rattle.kpn_text_tokens.specs.declared.tokens.Mark.TheVariants as mark
use Rattle.kpn_text_tokens.specs.declared.tokens.Token.TheVariants as token
use Rattle.kpn_text.proofs.TokenLemmas.{IsReadAs, name_read, mark_read, keyword_read, space_read, line_feed_read, indent_read}
use Rattle.kpn_text.proofs.TermLemmas.{whole_read}

-- a line's end
pub end_read : {l : Language} (more : List ℕ) (tokens : List Token) → IsReadAs l more tokens
    → IsReadAs l (codes ";\n" ++ more) (token.Mark mark.Semicolon ∷ tokens)
end_read more tokens h = mark_read mark.Semicolon (codes "\n" ++ more) tokens refl tt (line_feed_read more tokens h)

-- an expression up to the end of its line
pub last_term_read : {l : Language} (e : ExpressionNode) (more : List ℕ) (tokens : List Token) → IsProperTerm l e
    → IsReadAs l more tokens
    → IsReadAs l (whole_text l e (codes ";\n" ++ more)) (spell_expression l e (token.Mark mark.Semicolon ∷ tokens))
last_term_read e more tokens is h = whole_read e _ _ is refl (end_read more tokens h)

-- the brace that opens a block
pub open_read : {l : Language} (more : List ℕ) (tokens : List Token) → IsReadAs l more tokens
    → IsReadAs l (codes " {\n" ++ more) (token.Mark mark.LeftBrace ∷ tokens)
open_read more tokens h =
    space_read _ _ (mark_read mark.LeftBrace (codes "\n" ++ more) tokens refl tt (line_feed_read more tokens h))

-- the brace that closes one
pub close_read : {l : Language} (level : ℕ) (more : List ℕ) (tokens : List Token) → IsReadAs l more tokens
    → IsReadAs l (indented level (codes "}\n" ++ more)) (token.Mark mark.RightBrace ∷ tokens)
close_read level more tokens h =
    indent_read level _ _ (mark_read mark.RightBrace (codes "\n" ++ more) tokens refl tt (line_feed_read more tokens h))

-- the braces of a second block, and what is between them
braces_read : {l : Language} (level : ℕ) (inside : List ℕ → List ℕ) (spell : List Token → List Token)
    (more : List ℕ) (tokens : List Token)
    → ((rest : List ℕ) (others : List Token) → IsReadAs l rest others → IsReadAs l (inside rest) (spell others))
    → IsReadAs l more tokens
    → IsReadAs l (indented level (codes "} else {\n" ++ inside (indented level (codes "}\n" ++ more))))
    (token.Mark mark.RightBrace ∷ token.Keyword keyword.Else ∷ token.Mark mark.LeftBrace
    ∷ spell (token.Mark mark.RightBrace ∷ tokens))
braces_read level inside spell more tokens inner h =
    let body = inner (indented level (codes "}\n" ++ more)) _ (close_read level more tokens h) in
    indent_read level _ _ (mark_read mark.RightBrace
    (codes " else {\n" ++ inside (indented level (codes "}\n" ++ more))) _ refl tt
    (space_read _ _ (keyword_read keyword.Else (codes " {\n" ++ inside (indented level (codes "}\n" ++ more))) _ refl
    refl (open_read _ _ body))))

-- the second block of an `if`, after the brace of the first one
else_read : (l : Language) (level : ℕ) (b : Statements) (inside branch : List ℕ → List ℕ)
    (spell : List Token → List Token) (more : List ℕ) (tokens : List Token)
    → ((rest : List ℕ) (others : List Token) → IsReadAs l rest others → IsReadAs l (inside rest) (spell others))
    → ((rest : List ℕ) (others : List Token) → IsReadAs l rest others → IsReadAs l (branch rest) (spell others))
    → IsReadAs l more tokens
    → IsReadAs l (otherwise_text l level b inside branch more)
    (token.Mark mark.RightBrace ∷ spell_else l b spell tokens)
else_read language.One level b inside branch spell more tokens inner first h =
    braces_read level inside spell more tokens inner h
else_read language.Two level no_statements inside branch spell more tokens inner first h =
    close_read level more tokens h
else_read language.Two level (statement (choice e a b) no_statements) inside branch spell more tokens inner first h =
    indent_read level _ _ (mark_read mark.RightBrace (codes " else " ++ branch more) _ refl tt
    (space_read _ _ (keyword_read keyword.Else (codes " " ++ branch more) _ refl refl
    (space_read _ _ (first more tokens h)))))
else_read language.Two level (statement (choice e a b) (statement s ss)) inside branch spell more tokens inner first h =
    braces_read level inside spell more tokens inner h
else_read language.Two level (statement (assign x e) ss) inside branch spell more tokens inner first h =
    braces_read level inside spell more tokens inner h
else_read language.Two level (statement (store x i e) ss) inside branch spell more tokens inner first h =
    braces_read level inside spell more tokens inner h
else_read language.Two level (statement (receive i x) ss) inside branch spell more tokens inner first h =
    braces_read level inside spell more tokens inner h
else_read language.Two level (statement (send o e) ss) inside branch spell more tokens inner first h =
    braces_read level inside spell more tokens inner h
else_read language.Two level (statement (loop e b) ss) inside branch spell more tokens inner first h =
    braces_read level inside spell more tokens inner h

mutual
  pub statement_read : {l : Language} (level : ℕ) (s : StatementNode) (more : List ℕ) (tokens : List Token)
      → IsProperStatement l s
      → IsReadAs l more tokens → IsReadAs l (statement_text l level s more) (spell_statement l s tokens)
  statement_read {l} level (assign x e) more tokens is h =
      let value = last_term_read e more tokens is.1 h in
      let sign =
      space_read _ _
      (mark_read mark.Assign (codes " " ++ whole_text l e (codes ";\n" ++ more)) _ refl refl (space_read _ _ value)) in
      name_read x _ _ is.0 refl sign
  statement_read {l} level (store x i e) more tokens is h =
      let value = last_term_read e more tokens is.3 h in
      let sign =
      space_read _ _
      (mark_read mark.Assign (codes " " ++ whole_text l e (codes ";\n" ++ more)) _ refl refl (space_read _ _ value)) in
      let shut =
      mark_read mark.RightBracket (codes " = " ++ whole_text l e (codes ";\n" ++ more)) _ is.1.right tt sign in
      let index = whole_read i (codes "] = " ++ whole_text l e (codes ";\n" ++ more)) _ is.2 refl shut in
      name_read x _ _ is.0 refl (mark_read mark.LeftBracket _ _ is.1.left tt index)
  statement_read level (receive i x) more tokens is h =
      let target = name_read x (codes ";\n" ++ more) _ is.1 refl (end_read more tokens h) in
      let port = name_read i (codes " " ++ (x ++ (codes ";\n" ++ more))) _ is.0 refl (space_read _ _ target) in
      keyword_read keyword.Read (codes " " ++ (i ++ (codes " " ++ (x ++ (codes ";\n" ++ more))))) _ refl refl
      (space_read _ _ port)
  statement_read {l} level (send o e) more tokens is h =
      let value = last_term_read e more tokens is.1 h in
      let port = name_read o (codes " " ++ whole_text l e (codes ";\n" ++ more)) _ is.0 refl (space_read _ _ value) in
      keyword_read keyword.Write (codes " " ++ (o ++ (codes " " ++ whole_text l e (codes ";\n" ++ more)))) _ refl refl
      (space_read _ _ port)
  statement_read {l} level (choice e a b) more tokens is h =
      let second =
      else_read l level b (λ rest. statements_text l (suc level) b rest) (λ rest. unindented_text l level b rest)
      (λ others. spell_statements l b others) more tokens
      (λ rest others k. statements_read (suc level) b rest others is.2 k)
      (λ rest others k. unindented_read level b rest others is.2 k) h in
      let first = statements_read (suc level) a _ _ is.1 second in
      let test = whole_read e _ _ is.0 refl (open_read _ _ first) in
      keyword_read keyword.If _ _ refl refl (space_read _ _ test)
  statement_read level (loop e b) more tokens is h =
      let body = statements_read (suc level) b _ _ is.1 (close_read level more tokens h) in
      let test = whole_read e _ _ is.0 refl (open_read _ _ body) in
      keyword_read keyword.While _ _ refl refl (space_read _ _ test)

  pub statements_read : {l : Language} (level : ℕ) (ss : Statements) (more : List ℕ) (tokens : List Token)
      → AreProper l ss
      → IsReadAs l more tokens → IsReadAs l (statements_text l level ss more) (spell_statements l ss tokens)
  statements_read level no_statements more tokens is h = h
  statements_read level (statement s ss) more tokens is h =
      indent_read level _ _
      (statement_read level s _ _ is.0 (statements_read level ss more tokens is.1 h))

  unindented_read : {l : Language} (level : ℕ) (ss : Statements) (more : List ℕ) (tokens : List Token)
      → AreProper l ss
      → IsReadAs l more tokens → IsReadAs l (unindented_text l level ss more) (spell_statements l ss tokens)
  unindented_read level no_statements more tokens is h = h
  unindented_read level (statement s ss) more tokens is h =
      statement_read level s _ _ is.0 (statements_read level ss more tokens is.1 h)
