-- A body whose names were resolved is the body again once its numbers are replaced by their names.
use Rattle.kpn_text.proofs.Common.{◌≡◌, ℕ, pos, ◌||◌, List, ◌++◌, Ok, refl, sym, ap, subst, ◌∙◌, append_assoc, position_or_len, bytes_eq, Tree, NameBytes, ExpressionNode, numeral, variable, element, minus, negation, complement, binary, conditional, StatementNode, assign, store, receive, send, choice, loop, Statements, no_statements, statement, NameScope, and_then, known, with_name, name_at, Row, is_port, is_row, target, array_row, row_of, ProcessNames, row_name, term_named, statements_named, ok_is, went, IsNamed, is_named-append, known_named, target_named, if_not, Grows, grows_not, grows_on, target_grows}
use Rattle.kpn_lang.specs.Syntax as lang
use Rattle.kpn_text_names.specs.Body.{term_in, statement_in, tree_in}

-- ---- scopes

-- the rows of a scope have the names that these say, by their places
pub record RowsAgree (names : ProcessNames) (s : NameScope) : Type 0 where
  pub row : (x : NameBytes) (r : Row) → row_of s x ≡ Ok r → row_name names r.base ≡ x
  pub array : (x : NameBytes) (r : Row) → array_row s x ≡ Ok r → row_name names r.base ≡ x

-- the names of a whole process, of which this is known here
pub record Agrees (names : ProcessNames) (s : NameScope) : Type 0 where
  pub ins : names.ins ≡ s.ins
  pub outs : names.outs ≡ s.outs
  pub more : List NameBytes
  pub vars : names.vars ≡ s.vars ++ more
  pub rows : RowsAgree names s

rows_before : (names : ProcessNames) (s t : NameScope) → Grows s t → RowsAgree names t → RowsAgree names s
rows_before names s t g a =
    let other : NameScope = record s { arrays = t.arrays; tables = t.tables } in
    let same : other ≡ s = λ i. record s { arrays = g.arrays i; tables = g.tables i } in
    subst (λ (u : NameScope). RowsAgree names u) same (record { row = a.row; array = a.array })

agrees_before : (names : ProcessNames) (s t : NameScope) → Grows s t → Agrees names t → Agrees names s
agrees_before names s t g a = record {
  ins = a.ins ∙ g.ins;
  outs = a.outs ∙ g.outs;
  more = g.more ++ a.more;
  vars = a.vars ∙ ap (λ l. l ++ a.more) g.vars ∙ append_assoc s.vars g.more a.more;
  rows = rows_before names s t g a.rows;
}

-- ---- expressions

module _ (names : ProcessNames) (s : NameScope) (agrees : Agrees names s) where
  term_at : (t : ExpressionNode) (e : lang.Term) → term_in s t ≡ Ok e → term_named names e ≡ t
  unfolding term_in
  term_at (numeral n) e h = ap (λ x. term_named names x) (sym (ok_is (lang.Num (pos n)) e h))
  term_at (variable x) e h =
      let k = went (known s.vars x) (λ k. Ok (lang.Var k)) e h in
      let named = is_named-append s.vars agrees.more k.value x (known_named s.vars x k.value k.first) in
      ap (λ y. term_named names y) (sym (ok_is (lang.Var k.value) e k.rest))
      ∙ ap (λ y. variable y) (ap (λ vars. name_at vars k.value) agrees.vars ∙ named.name)
  term_at (element x t) e h =
      let row = went (row_of s x) _ e h in
      let a = went (term_in s t) (λ a. Ok (lang.Cell row.value.base row.value.size a)) e row.rest in
      let name = agrees.rows.row x row.value row.first in
      let index = term_at t a.value a.first in
      ap (λ y. term_named names y) (sym (ok_is (lang.Cell row.value.base row.value.size a.value) e a.rest))
      ∙ (λ i. element (name i) (index i))
  term_at (minus t) e h =
      let a = went (term_in s t) (λ a. Ok (lang.Neg a)) e h in
      ap (λ y. term_named names y) (sym (ok_is (lang.Neg a.value) e a.rest))
      ∙ ap (λ y. minus y) (term_at t a.value a.first)
  term_at (negation t) e h =
      let a = went (term_in s t) (λ a. Ok (lang.Not a)) e h in
      ap (λ y. term_named names y) (sym (ok_is (lang.Not a.value) e a.rest))
      ∙ ap (λ y. negation y) (term_at t a.value a.first)
  term_at (complement t) e h =
      let a = went (term_in s t) (λ a. Ok (lang.BitNot a)) e h in
      ap (λ y. term_named names y) (sym (ok_is (lang.BitNot a.value) e a.rest))
      ∙ ap (λ y. complement y) (term_at t a.value a.first)
  term_at (binary o t u) e h =
      let a = went (term_in s t) (λ a. and_then (term_in s u) (λ b. Ok (lang.Bin o a b))) e h in
      let b = went (term_in s u) (λ b. Ok (lang.Bin o a.value b)) e a.rest in
      let left = term_at t a.value a.first in
      let right = term_at u b.value b.first in
      ap (λ y. term_named names y) (sym (ok_is (lang.Bin o a.value b.value) e b.rest))
      ∙ (λ i. binary o (left i) (right i))
  term_at (conditional t u v) e h =
      let a = went (term_in s t) _ e h in
      let b = went (term_in s u) _ e a.rest in
      let c = went (term_in s v) (λ c. Ok (lang.Choice a.value b.value c)) e b.rest in
      let test = term_at t a.value a.first in
      let first = term_at u b.value b.first in
      let second = term_at v c.value c.first in
      ap (λ y. term_named names y) (sym (ok_is (lang.Choice a.value b.value c.value) e c.rest))
      ∙ (λ i. conditional (test i) (first i) (second i))

-- ---- names by number

variable_at : (names : ProcessNames) (s : NameScope) → Agrees names s → (k : ℕ) (x : NameBytes) → IsNamed s.vars k x
    → name_at names.vars k ≡ x
variable_at names s a k x h = ap (λ vars. name_at vars k) a.vars ∙ (is_named-append s.vars a.more k x h).name

in_at : (names : ProcessNames) (s : NameScope) → Agrees names s → (k : ℕ) (x : NameBytes) → known s.ins x ≡ Ok k
    → name_at names.ins k ≡ x
in_at names s a k x h = ap (λ l. name_at l k) a.ins ∙ (known_named s.ins x k h).name

out_at : (names : ProcessNames) (s : NameScope) → Agrees names s → (k : ℕ) (x : NameBytes) → known s.outs x ≡ Ok k
    → name_at names.outs k ≡ x
out_at names s a k x h = ap (λ l. name_at l k) a.outs ∙ (known_named s.outs x k h).name

-- what a name that is set makes of a scope
record Targeted (s : NameScope) (x : NameBytes) (r : NameScope × ℕ) : Type 0 where
  grows : Grows s r.0
  named : IsNamed r.0.vars r.1 x

targeted : (shared : List NameBytes) (s : NameScope) (x : NameBytes) (r : NameScope × ℕ) → target shared s x ≡ Ok r → Targeted s x r
targeted shared s x r h =
    let made : NameScope × ℕ = (record s { vars = with_name s.vars x }, position_or_len (bytes_eq x) s.vars) in
    record {
      grows = target_grows shared s x r h;
      named = subst (λ (q : NameScope × ℕ). IsNamed q.0.vars q.1 x) (if_not (is_port s x || is_row shared s x) made r h).1
          (target_named s.vars x);
    }

-- ---- statements

-- what stands for a statement in front of others is that statement, once its numbers are replaced
pub record Back (s : NameScope) (x : StatementNode) (r : NameScope × (Tree → Tree)) : Type 0 where
  pub grows : Grows s r.0
  pub back : (names : ProcessNames) → Agrees names r.0 → (rest : Tree)
      → statements_named names (r.1 rest) ≡ statement x (statements_named names rest)

-- the same of a block
pub record AllBack (s : NameScope) (b : Statements) (r : NameScope × Tree) : Type 0 where
  pub grows : Grows s r.0
  pub back : (names : ProcessNames) → Agrees names r.0 → statements_named names r.1 ≡ b

mutual
  unfolding statement_in tree_in

  statement_back : (shared : List NameBytes) (s : NameScope) (x : StatementNode) (r : NameScope × (Tree → Tree))
      → statement_in shared s x ≡ Ok r → Back s x r
  statement_back shared s (assign x e) r h =
      let t = went _ _ r h in
      let a = went _ _ r t.rest in
      let named = targeted shared s x t.value t.first in
      subst (λ q. Back s (assign x e) q) (ok_is _ r a.rest) (record {
        grows = named.grows;
        back = λ names agrees rest. λ i. statement
            (assign (variable_at names t.value.0 agrees t.value.1 x named.named i)
            (term_at names t.value.0 agrees e a.value a.first i))
            (statements_named names rest);
      })
  statement_back shared s (store x i e) r h =
      let row = went (array_row s x) _ r h in
      let a = went _ _ r row.rest in
      let b = went _ _ r a.rest in
      subst (λ q. Back s (store x i e) q) (ok_is _ r b.rest) (record {
        grows = grows_not s;
        back = λ names agrees rest. λ j. statement
            (store (agrees.rows.array x row.value row.first j) (term_at names s agrees i a.value a.first j)
            (term_at names s agrees e b.value b.first j))
            (statements_named names rest);
      })
  statement_back shared s (receive p x) r h =
      let port = went _ _ r h in
      let t = went _ _ r port.rest in
      let named = targeted shared s x t.value t.first in
      subst (λ q. Back s (receive p x) q) (ok_is _ r t.rest) (record {
        grows = named.grows;
        back = λ names agrees rest.
            let start = agrees_before names s t.value.0 named.grows agrees in
            λ i. statement
            (receive (in_at names s start port.value p port.first i)
            (variable_at names t.value.0 agrees t.value.1 x named.named i))
            (statements_named names rest);
      })
  statement_back shared s (send o e) r h =
      let port = went _ _ r h in
      let a = went _ _ r port.rest in
      subst (λ q. Back s (send o e) q) (ok_is _ r a.rest) (record {
        grows = grows_not s;
        back = λ names agrees rest. λ i. statement
            (send (out_at names s agrees port.value o port.first i) (term_at names s agrees e a.value a.first i))
            (statements_named names rest);
      })
  statement_back shared s (choice e b c) r h =
      let a = went _ _ r h in
      let first = went _ _ r a.rest in
      let second = went _ _ r first.rest in
      let one = block_back shared s b first.value first.first in
      let two = block_back shared first.value.0 c second.value second.first in
      subst (λ q. Back s (choice e b c) q) (ok_is _ r second.rest) (record {
        grows = grows_on s first.value.0 second.value.0 one.grows two.grows;
        back = λ names agrees rest.
            let between = agrees_before names first.value.0 second.value.0 two.grows agrees in
            let start = agrees_before names s first.value.0 one.grows between in
            λ i. statement
            (choice (term_at names s start e a.value a.first i) (one.back names between i) (two.back names agrees i))
            (statements_named names rest);
      })
  statement_back shared s (loop e b) r h =
      let a = went _ _ r h in
      let body = went _ _ r a.rest in
      let one = block_back shared s b body.value body.first in
      subst (λ q. Back s (loop e b) q) (ok_is _ r body.rest) (record {
        grows = one.grows;
        back = λ names agrees rest.
            let start = agrees_before names s body.value.0 one.grows agrees in
            λ i.
            statement (loop (term_at names s start e a.value a.first i) (one.back names agrees i))
            (statements_named names rest);
      })

  pub block_back : (shared : List NameBytes) (s : NameScope) (b : Statements) (r : NameScope × Tree) → tree_in shared s b ≡ Ok r
      → AllBack s b r
  block_back shared s no_statements r h =
      subst (λ q. AllBack s no_statements q) (ok_is _ r h)
      (record { grows = grows_not s; back = λ names agrees. refl })
  block_back shared s (statement x xs) r h =
      let first = went _ _ r h in
      let rest = went _ _ r first.rest in
      let one = statement_back shared s x first.value first.first in
      let more = block_back shared first.value.0 xs rest.value rest.first in
      subst (λ q. AllBack s (statement x xs) q) (ok_is _ r rest.rest) (record {
        grows = grows_on s first.value.0 rest.value.0 one.grows more.grows;
        back = λ names agrees.
            let start = agrees_before names first.value.0 rest.value.0 more.grows agrees in
            one.back names start rest.value.1 ∙ ap (λ ss. statement x ss) (more.back names agrees);
      })
