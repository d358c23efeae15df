-- The targets of a body. In language 2 each is a variable of the whole body, and in language 1 from its statement on.
use Rattle.std.specs.Prelude.{List}
use Rattle.kpn_text_tokens.specs.declared.tokens.Language.{Language}
use Rattle.kpn_text_tokens.specs.declared.tokens.Language.TheVariants as language
use Rattle.kpn_text_grammar.specs.Syntax.{NameBytes, StatementNode, assign, store, receive, send, choice, loop, Statements, no_statements, statement}
use Rattle.kpn_text_names.specs.declared.scope.NameScope.{NameScope}
use Rattle.kpn_text_names.specs.Scope.{with_target}

abbrev mutual
  -- with the targets in a statement, in the order of the text
  pub with_targets_of : (shared : List NameBytes) → NameScope → StatementNode → NameScope
  with_targets_of shared s (assign x e) = with_target shared s x
  with_targets_of shared s (store x i e) = s
  with_targets_of shared s (receive i x) = with_target shared s x
  with_targets_of shared s (send o e) = s
  with_targets_of shared s (choice e a b) = with_targets shared (with_targets shared s a) b
  with_targets_of shared s (loop e b) = with_targets shared s b

  -- and in several
  pub with_targets : (shared : List NameBytes) → NameScope → Statements → NameScope
  with_targets shared s no_statements = s
  with_targets shared s (statement x xs) = with_targets shared (with_targets_of shared s x) xs

-- the names that are known before a body
abbrev pub known_before : Language → (shared : List NameBytes) → NameScope → Statements → NameScope
known_before language.One shared s b = s
known_before language.Two shared s b = with_targets shared s b
