-- What each target keeps holds with all targets of a body.
use Rattle.kpn_text_names.proofs.Common.{List, Language, NameScope, with_target, with_targets_of, with_targets, known_before}
use Rattle.kpn_text_tokens.specs.declared.tokens.Language.TheVariants as language
use Rattle.kpn_text_grammar.specs.Syntax.{NameBytes, StatementNode, assign, store, receive, send, choice, loop, Statements, no_statements, statement}

module _ (P : NameScope → Type 0) (shared : List NameBytes) (one : (s : NameScope) (x : NameBytes) → P s → P (with_target shared s x)) where
  mutual
    statement_keeps : (s : NameScope) (x : StatementNode) → P s → P (with_targets_of shared s x)
    statement_keeps s (assign x e) p = one s x p
    statement_keeps s (store x i e) p = p
    statement_keeps s (receive i x) p = one s x p
    statement_keeps s (send o e) p = p
    statement_keeps s (choice e a b) p = targets_keep (with_targets shared s a) b (targets_keep s a p)
    statement_keeps s (loop e b) p = targets_keep s b p

    targets_keep : (s : NameScope) (b : Statements) → P s → P (with_targets shared s b)
    targets_keep s no_statements p = p
    targets_keep s (statement x xs) p = targets_keep (with_targets_of shared s x) xs (statement_keeps s x p)

  pub known_keep : (l : Language) (s : NameScope) (b : Statements) → P s → P (known_before l shared s b)
  known_keep language.One s b p = p
  known_keep language.Two s b p = targets_keep s b p
