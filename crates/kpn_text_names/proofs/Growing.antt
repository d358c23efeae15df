-- A body only adds variables to the names of its process, and so do its targets before it.
use Rattle.kpn_text_names.proofs.Common.{◌≡◌, ℕ, Bool, true, false, cond, ◌||◌, List, [], ◌++◌, Ok, refl, sym, ap, subst, ◌∙◌, append_assoc, append-nil, position_or_len, bytes_eq, Tree, Language, NameScope, with_name, is_port, is_row, target, with_target, known_before}
use Rattle.kpn_text_grammar.specs.Syntax.{NameBytes, StatementNode, assign, store, receive, send, choice, loop, Statements, no_statements, statement}
use Rattle.kpn_text_names.specs.Body.{statement_in, tree_in}
use Rattle.kpn_text_names.proofs.Chains.{ok_is, went}
use Rattle.kpn_text_names.proofs.KnownNames.{with_name_longer, if_not}
use Rattle.kpn_text_names.proofs.KnownTargets.{known_keep}

-- a process knows more variables from here on
pub record Grows (s t : NameScope) : Type 0 where
  pub ins : t.ins ≡ s.ins
  pub outs : t.outs ≡ s.outs
  pub arrays : t.arrays ≡ s.arrays
  pub tables : t.tables ≡ s.tables
  pub more : List NameBytes
  pub vars : t.vars ≡ s.vars ++ more

pub grows_not : (s : NameScope) → Grows s s
grows_not s = record {
  ins = refl;
  outs = refl;
  arrays = refl;
  tables = refl;
  more = [];
  vars = sym (append-nil s.vars);
}

pub grows_on : (s t u : NameScope) → Grows s t → Grows t u → Grows s u
grows_on s t u g h = record {
  ins = h.ins ∙ g.ins;
  outs = h.outs ∙ g.outs;
  arrays = h.arrays ∙ g.arrays;
  tables = h.tables ∙ g.tables;
  more = g.more ++ h.more;
  vars = h.vars ∙ ap (λ l. l ++ h.more) g.vars ∙ append_assoc s.vars g.more h.more;
}

pub target_grows : (shared : List NameBytes) (s : NameScope) (x : NameBytes) (r : NameScope × ℕ) → target shared s x ≡ Ok r → Grows s r.0
target_grows shared s x r h =
    let longer = with_name_longer s.vars x in
    let made : NameScope × ℕ = (record s { vars = with_name s.vars x }, position_or_len (bytes_eq x) s.vars) in
    subst (λ q. Grows s q.0) (if_not (is_port s x || is_row shared s x) made r h).1
    (record { ins = refl; outs = refl; arrays = refl; tables = refl; more = longer.more; vars = longer.is })

mutual
  unfolding statement_in tree_in

  statement_grows : (shared : List NameBytes) (s : NameScope) (x : StatementNode) (r : NameScope × (Tree → Tree))
      → statement_in shared s x ≡ Ok r → Grows s r.0
  statement_grows shared s (assign x e) r h =
      let t = went _ _ r h in
      let a = went _ _ r t.rest in
      subst (λ q. Grows s q.0) (ok_is _ r a.rest) (target_grows shared s x t.value t.first)
  statement_grows shared s (store x i e) r h =
      let row = went _ _ r h in
      let a = went _ _ r row.rest in
      let b = went _ _ r a.rest in
      subst (λ q. Grows s q.0) (ok_is _ r b.rest) (grows_not s)
  statement_grows shared s (receive p x) r h =
      let port = went _ _ r h in
      let t = went _ _ r port.rest in
      subst (λ q. Grows s q.0) (ok_is _ r t.rest) (target_grows shared s x t.value t.first)
  statement_grows shared s (send o e) r h =
      let port = went _ _ r h in
      let a = went _ _ r port.rest in
      subst (λ q. Grows s q.0) (ok_is _ r a.rest) (grows_not s)
  statement_grows shared s (choice e b c) r h =
      let a = went _ _ r h in
      let first = went _ _ r a.rest in
      let second = went _ _ r first.rest in
      subst (λ q. Grows s q.0) (ok_is _ r second.rest)
      (grows_on s first.value.0 second.value.0 (block_grows shared s b first.value first.first)
      (block_grows shared first.value.0 c second.value second.first))
  statement_grows shared s (loop e b) r h =
      let a = went _ _ r h in
      let body = went _ _ r a.rest in
      subst (λ q. Grows s q.0) (ok_is _ r body.rest) (block_grows shared s b body.value body.first)

  pub block_grows : (shared : List NameBytes) (s : NameScope) (b : Statements) (r : NameScope × Tree) → tree_in shared s b ≡ Ok r
      → Grows s r.0
  block_grows shared s no_statements r h = subst (λ q. Grows s q.0) (ok_is _ r h) (grows_not s)
  block_grows shared s (statement x xs) r h =
      let first = went _ _ r h in
      let rest = went _ _ r first.rest in
      subst (λ q. Grows s q.0) (ok_is _ r rest.rest)
      (grows_on s first.value.0 rest.value.0 (statement_grows shared s x first.value first.first)
      (block_grows shared first.value.0 xs rest.value rest.first))

-- ---- the targets before the body

unless_grows : (s : NameScope) (x : NameBytes) (b : Bool) → Grows s (cond b s (record s { vars = with_name s.vars x }))
unless_grows s x true = grows_not s
unless_grows s x false =
    let longer = with_name_longer s.vars x in
    record { ins = refl; outs = refl; arrays = refl; tables = refl; more = longer.more; vars = longer.is }

with_target_grows : (shared : List NameBytes) (s : NameScope) (x : NameBytes) → Grows s (with_target shared s x)
with_target_grows shared s x = unless_grows s x (is_port s x || is_row shared s x)

-- from the names before the targets on
pub body_grows : (l : Language) (shared : List NameBytes) (s : NameScope) (b : Statements) (r : NameScope × Tree)
    → tree_in shared (known_before l shared s b) b ≡ Ok r → Grows s r.0
body_grows l shared s b r h =
    let start : NameScope = known_before l shared s b in
    grows_on s start r.0
    (known_keep (λ t. Grows s t) shared (λ t x g. grows_on s t (with_target shared t x) g (with_target_grows shared t x)) l
    s b (grows_not s))
    (block_grows shared start b r h)
