-- The canonical spelling follows the rules, of what can be spelled.
use Rattle.kpn_text_grammar.proofs.Common.{◌≡◌, ◌≤◌, false, List, [], ◌∷◌, refl, arith, AllByRecursion, MAX_LEVELS, Language, Token}
use Rattle.kpn_text_tokens.specs.declared.tokens.Language.TheVariants as language
use Rattle.kpn_text_tokens.specs.declared.tokens.Token.TheVariants as token
use Rattle.kpn_text_tokens.specs.declared.tokens.Mark.TheVariants as mark_
use Rattle.kpn_text_grammar.specs.Syntax.{StatementNode, assign, store, receive, send, choice, loop, Statements, no_statements, statement, ProcessNode, Description}
use Rattle.kpn_text_grammar.specs.Spelling.{spell_statement, spell_statements, spell_else, spell_all, spell_expression, spell_process, spell_network, spell_description, SpellsAll, SpellsStatement, as_assignment, as_store, as_read, as_write, as_if, as_while, SpellsStatements, nothing, one_more, SpellsElse, left_out, behind_else, with_braces, as_branch, SpellsProcess, IsDescription, begins_else, deepest_term, deepest_term_of_all, ProcessIsWithin, IsWithinLimits}
use Rattle.kpn_text_grammar.specs.Laws.{CanBeSpelled}
use Rattle.kpn_text_grammar.proofs.WholeLaws.{canonical_expression}

no_else : (l : Language) (ss : Statements) (more : List Token) → begins_else more ≡ false
    → begins_else (spell_statements l ss more) ≡ false
no_else l no_statements more ends = ends
no_else l (statement (assign x e) ss) more ends = refl
no_else l (statement (store x i e) ss) more ends = refl
no_else l (statement (receive i x) ss) more ends = refl
no_else l (statement (send o e) ss) more ends = refl
no_else l (statement (choice e a b) ss) more ends = refl
no_else l (statement (loop e b) ss) more ends = refl

only_one : {l : Language} {s : StatementNode} {tokens more : List Token}
    → SpellsStatements MAX_LEVELS l (statement s no_statements) tokens more → SpellsStatement MAX_LEVELS l s tokens more
only_one (one_more h nothing) = h

canonical_else : (l : Language) (b : Statements) (more : List Token) → begins_else more ≡ false
    → ((after : List Token) → begins_else after ≡ false → SpellsStatements MAX_LEVELS l b
    (spell_statements l b after) after)
    → SpellsElse MAX_LEVELS l b (spell_else l b (spell_statements l b) more) more
canonical_else language.Two no_statements more ends inside = left_out refl ends
canonical_else language.Two (statement (choice e a b) no_statements) more ends inside =
    behind_else (as_branch refl (only_one (inside more ends)))
canonical_else l b more ends inside = behind_else (with_braces (inside (token.Mark mark_.RightBrace ∷ more) refl))

else_spelled : {l : Language} {b : Statements} {tokens others : List Token} → SpellsElse MAX_LEVELS l b tokens others
    → CanBeSpelled l b
else_spelled {others = others} (left_out two ends) = (others, others, nothing)
else_spelled {others = others} (behind_else (with_braces {tokens = tokens} h)) =
    (tokens, token.Mark mark_.RightBrace ∷ others, h)
else_spelled {others = others} (behind_else (as_branch {tokens = tokens} two h)) = (tokens, others, one_more h nothing)

mutual
  canonical_statement : (l : Language) (s : StatementNode) (more : List Token) → deepest_term s ≤ MAX_LEVELS
      → begins_else more ≡ false → {tokens others : List Token} → SpellsStatement MAX_LEVELS l s tokens others
      → SpellsStatement MAX_LEVELS l s (spell_statement l s more) more
  canonical_statement l (assign x e) more level ends (as_assignment h) =
      as_assignment {x = x} {e = e} {more = more} (canonical_expression l e (token.Mark mark_.Semicolon ∷ more) level h)
  canonical_statement l (store x i e) more level ends (as_store was h k) =
      let at_e = spell_expression l e (token.Mark mark_.Semicolon ∷ more) in
      as_store {x = x} {i = i} {e = e} {more = more} at_e
      (canonical_expression l i (token.Mark mark_.RightBracket ∷ token.Mark mark_.Assign ∷ at_e) (omega (arith, level)) h)
      (canonical_expression l e (token.Mark mark_.Semicolon ∷ more) (omega (arith, level)) k)
  canonical_statement l (receive i x) more level ends as_read = as_read
  canonical_statement l (send o e) more level ends (as_write h) =
      as_write {o = o} {e = e} {more = more} (canonical_expression l e (token.Mark mark_.Semicolon ∷ more) level h)
  canonical_statement l (choice e a b) more level ends (as_if h ha hb) =
      let at_else = spell_else l b (spell_statements l b) more in
      let at_a = spell_statements l a (token.Mark mark_.RightBrace ∷ at_else) in
      as_if {e = e} {a = a} {b = b} {at_a = at_a} {at_else = at_else} {more = more}
      (canonical_expression l e (token.Mark mark_.LeftBrace ∷ at_a) (omega (arith, level)) h)
      (canonical_statements l a (token.Mark mark_.RightBrace ∷ at_else) (omega (arith, level)) refl ha)
      (canonical_else l b more ends
      (λ after last. canonical_statements l b after (omega (arith, level)) last (else_spelled hb).2))
  canonical_statement l (loop e b) more level ends (as_while h hb) =
      let at_b = spell_statements l b (token.Mark mark_.RightBrace ∷ more) in
      as_while {e = e} {b = b} {at_b = at_b} {more = more}
      (canonical_expression l e (token.Mark mark_.LeftBrace ∷ at_b) (omega (arith, level)) h)
      (canonical_statements l b (token.Mark mark_.RightBrace ∷ more) (omega (arith, level)) refl hb)

  pub canonical_statements : (l : Language) (ss : Statements) (more : List Token)
      → deepest_term_of_all ss ≤ MAX_LEVELS → begins_else more ≡ false
      → {tokens others : List Token} → SpellsStatements MAX_LEVELS l ss tokens others
      → SpellsStatements MAX_LEVELS l ss (spell_statements l ss more) more
  canonical_statements l no_statements more level ends h = nothing
  canonical_statements l (statement s ss) more level ends (one_more h hs) =
      one_more (canonical_statement l s (spell_statements l ss more) (omega (arith, level)) (no_else l ss more ends) h)
      (canonical_statements l ss more (omega (arith, level)) ends hs)

canonical_process : (l : Language) (p : ProcessNode) (more : List Token) → ProcessIsWithin MAX_LEVELS MAX_LEVELS p
    → CanBeSpelled l p.body → SpellsProcess MAX_LEVELS l p (spell_process l p more) more
canonical_process l p more within can = record {
  inside = spell_statements l p.body (token.Mark mark_.RightBrace ∷ more);
  head = refl;
  body = canonical_statements l p.body (token.Mark mark_.RightBrace ∷ more) within.body.terms refl can.2;
}

canonical_processes : (l : Language) (ps : List ProcessNode) (more : List Token) → AllByRecursion
    (ProcessIsWithin MAX_LEVELS MAX_LEVELS) ps → AllByRecursion (λ p. CanBeSpelled l p.body) ps
    → SpellsAll (SpellsProcess MAX_LEVELS l) ps (spell_all (spell_process l) ps more) more
canonical_processes l [] more within can = refl
canonical_processes l (p ∷ ps) more within can = (
  spell_all (spell_process l) ps more,
  canonical_process l p (spell_all (spell_process l) ps more) within.0 can.0,
  canonical_processes l ps more within.1 can.1,
)

pub canonical_description : (l : Language) (d : Description) → IsWithinLimits MAX_LEVELS d
    → AllByRecursion (λ p. CanBeSpelled l p.body) d.processes → IsDescription l (spell_description l d) d
canonical_description l d within can = record {
  spelled =
      record {
        inside = spell_all (spell_process l) d.processes (spell_network d.network []);
        opening = refl;
        processes = canonical_processes l d.processes (spell_network d.network []) within.processes can;
      };
  within = within;
}
