-- The statements of a block that remain, from a place on: what the next one makes of them.
use Rattle.kpn_text_names.proofs.Common.{◌≡◌, ℕ, suc, ◌+◌, ◌<◌, ◌≤◌, List, [], ◌∷◌, ◌++◌, length, drop, get_or, set, Ok, refl, sym, ap, ◌∙◌, add-one, drop-cons, drop_all, map-append, map-set, length-map, blocks_of, statement_seen, block_seen, NameBytes, Statements, NameScope, NameFault, ResolvingFails, WrittenBody}
use Rattle.std.specs.Global.{Vec}
use Rattle.kpn_lang.specs.Syntax as lang
use Rattle.kpn_lang.specs.declared.syntax.Stmt.{Stmt}
use Rattle.kpn_lang.specs.View as code
use Rattle.kpn_text_grammar.specs.declared.tree.StatementNode.{StatementNode}
use Rattle.kpn_text_tokens.specs.Results.{and_then}
use Rattle.kpn_text_names.specs.Writer.{statement_at, statements_at, numbered_block}
use Rattle.kpn_text_names.proofs.Steps.{fails_first}

module _ (shared : List NameBytes) (w : WrittenBody) (done : List lang.Statement) (xs : List StatementNode) (i : ℕ) where
  pub ends : length xs ≤ i → statements_at shared w done (block_seen (drop i xs)) ≡ Ok (w, done)
  unfolding statements_at
  ends h = rw (drop_all i xs h) refl

  pub goes : (d x : StatementNode) (v : WrittenBody) (s : lang.Statement) → i < length xs → get_or xs i d ≡ x
      → statement_at shared w (statement_seen x) ≡ Ok (v, s)
      → statements_at shared w done (block_seen (drop i xs))
      ≡ statements_at shared v (done ++ s ∷ []) (block_seen (drop (i + 1) xs))
  unfolding statements_at and_then
  goes d x v s h is e = rw (add-one, drop-cons xs i d h, is, e) refl

  pub fails : (d x : StatementNode) (e : NameFault) → i < length xs → get_or xs i d ≡ x
      → ResolvingFails e (statement_at shared w (statement_seen x)) → ResolvingFails e (statements_at shared w done (block_seen (drop i xs)))
  unfolding statements_at
  fails d x e h is f =
      rw (drop-cons xs i d h, is)
      (fails_first e (statement_at shared w (statement_seen x))
      (λ y. statements_at shared y.0 (done ++ y.1 ∷ []) (block_seen (drop (suc i) xs))) f)

-- a block from its opening brace to its closing brace, as the code has it
pub block_closed : (shared : List NameBytes) (s : NameScope) (before : List (Vec Stmt)) (empty : Vec Stmt) (opened : List (Vec Stmt)) (u : NameScope)
    (inside : List (Vec Stmt)) (n : ℕ) (own : Vec Stmt) (b : Statements)
    → empty.items ≡ [] → opened ≡ before ++ empty ∷ [] → n ≡ length before
    → statements_at shared (record { scope = s; blocks = blocks_of opened }) [] b
    ≡ Ok (record { scope = u; blocks = blocks_of inside }, code.statements_of own.items)
    → numbered_block shared (record { scope = s; blocks = blocks_of before }) b
    ≡ Ok (record { scope = u; blocks = blocks_of (set inside n own) }, n)
unfolding and_then
block_closed shared s before empty opened u inside n own b none is at e =
    let start : blocks_of opened ≡ blocks_of before ++ [] ∷ [] =
    ap blocks_of is ∙ map-append (λ v. code.statements_of v.items) before (empty ∷ [])
    ∙ ap (λ l. blocks_of before ++ code.statements_of l ∷ []) none in
    let count : n ≡ length (blocks_of before) = at ∙ sym (length-map before (λ v. code.statements_of v.items)) in
    let e2 : statements_at shared (record { scope = s; blocks = blocks_of before ++ [] ∷ [] }) [] b
    ≡ Ok (record { scope = u; blocks = blocks_of inside }, code.statements_of own.items) =
    ap (λ l. statements_at shared (record { scope = s; blocks = l }) [] b) (sym start) ∙ e in
    rw (e2, ← count, map-set) refl
