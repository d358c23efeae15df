-- What language 1 resolves, language 2 resolves the same: before a body it knows the names that language 1 knows behind
-- it, and with them each statement is the same.
use Rattle.kpn_text_names.proofs.Common.{◌≡◌, ℕ, suc, ◌+◌, ◌<◌, pos, Bool, true, false, cond, not, ◌||◌, List, [], ◌∷◌, ◌++◌, length, eqb, nat_lt, Option, Some, None, Result, Ok, Err, refl, sym, ap, subst, ◌∙◌, arith, length-append, position_or_len, bytes_eq, bytes_decides, cond_both, cond-false, cond-true, eqb-true, lt-ltb, ltb-true, list_any_at, position_or_len_push, Tree, Assign, Read, Write, If, While, Set, and_then, NameScope, SharedTables, has, number_of, or_unknown, known, declared, with_name, is_port, is_row, target, with_target, array_row, row_of, head_scope, declare, with_targets_of, with_targets, shared_of, WrittenBody, body_blocks, body_of, wiring, settings_of, NamedProgram, Programs, program_with, with_uses, named_program, with_named_process, programs_of, Named, named_with, resolve}
use Rattle.kpn_lang.specs.Syntax as lang
use Rattle.kpn_text_tokens.specs.declared.tokens.Language.TheVariants as language
use Rattle.kpn_text_grammar.specs.Syntax.{NameBytes, ExpressionNode, numeral, variable, element, minus, negation, complement, binary, conditional, StatementNode, assign, store, receive, send, choice, loop, Statements, no_statements, statement, ProcessNode, Description}
use Rattle.kpn_text_names.specs.declared.rows.Row.{Row}
use Rattle.kpn_text_names.specs.Fault.{NameError, each}
use Rattle.kpn_text_names.specs.Body.{term_in, statement_in, tree_in}
use Rattle.kpn_text_names.specs.Laws.{SecondResolvesFirst}
use Rattle.kpn_text_names.proofs.Chains.{ok_is, went, then_ok}
use Rattle.kpn_text_names.proofs.KnownNames.{IsNamed, is_named-append, target_named, if_not, or_known}
use Rattle.kpn_text_names.proofs.Growing.{Grows, grows_on, grows_not, target_grows, block_grows}

-- ---- the targets are the names that are known at the end

target_told : (shared : List NameBytes) (s : NameScope) (x : NameBytes) (r : NameScope × ℕ) → target shared s x ≡ Ok r
    → with_target shared s x ≡ r.0
target_told shared s x r h =
    let made : NameScope = record s { vars = with_name s.vars x } in
    let given = if_not (is_port s x || is_row shared s x) (made, position_or_len (bytes_eq x) s.vars) r h in
    ap (λ b. cond b s made) given.0 ∙ ap (λ (q : NameScope × ℕ). q.0) given.1

mutual
  unfolding statement_in tree_in

  statement_told : (shared : List NameBytes) (s : NameScope) (x : StatementNode) (r : NameScope × (Tree → Tree))
      → statement_in shared s x ≡ Ok r → with_targets_of shared s x ≡ r.0
  statement_told shared s (assign x e) r h =
      let t = went _ _ r h in
      let a = went _ _ r t.rest in
      target_told shared s x t.value t.first ∙ ap (λ (q : NameScope × (Tree → Tree)). q.0) (ok_is _ r a.rest)
  statement_told shared s (store x i e) r h =
      let row = went _ _ r h in
      let a = went _ _ r row.rest in
      let b = went _ _ r a.rest in
      ap (λ (q : NameScope × (Tree → Tree)). q.0) (ok_is _ r b.rest)
  statement_told shared s (receive p x) r h =
      let port = went _ _ r h in
      let t = went _ _ r port.rest in
      target_told shared s x t.value t.first ∙ ap (λ (q : NameScope × (Tree → Tree)). q.0) (ok_is _ r t.rest)
  statement_told shared s (send o e) r h =
      let port = went _ _ r h in
      let a = went _ _ r port.rest in
      ap (λ (q : NameScope × (Tree → Tree)). q.0) (ok_is _ r a.rest)
  statement_told shared s (choice e b c) r h =
      let a = went _ _ r h in
      let first = went _ _ r a.rest in
      let second = went _ _ r first.rest in
      ap (λ u. with_targets shared u c) (block_told shared s b first.value first.first)
      ∙ block_told shared first.value.0 c second.value second.first
      ∙ ap (λ (q : NameScope × (Tree → Tree)). q.0) (ok_is _ r second.rest)
  statement_told shared s (loop e b) r h =
      let a = went _ _ r h in
      let body = went _ _ r a.rest in
      block_told shared s b body.value body.first ∙ ap (λ (q : NameScope × (Tree → Tree)). q.0) (ok_is _ r body.rest)

  block_told : (shared : List NameBytes) (s : NameScope) (b : Statements) (r : NameScope × Tree)
      → tree_in shared s b ≡ Ok r → with_targets shared s b ≡ r.0
  block_told shared s no_statements r h = ap (λ (q : NameScope × Tree). q.0) (ok_is _ r h)
  block_told shared s (statement x xs) r h =
      let first = went _ _ r h in
      let rest = went _ _ r first.rest in
      ap (λ u. with_targets shared u xs) (statement_told shared s x first.value first.first)
      ∙ block_told shared first.value.0 xs rest.value rest.first
      ∙ ap (λ (q : NameScope × Tree). q.0) (ok_is _ r rest.rest)

-- ---- a name keeps its number in a longer table

place_by : (b : Bool) (n m k : ℕ) → cond (not b) (1 + n) 0 < suc k → (n < k → m ≡ n)
    → cond (not b) (1 + m) 0 ≡ cond (not b) (1 + n) 0
place_by true n m k h same = refl
place_by false n m k h same = ap (λ i. 1 + i) (same (omega (arith, h)))

place_kept : (p : NameBytes → Bool) (xs more : List NameBytes) → position_or_len p xs < length xs
    → position_or_len p (xs ++ more) ≡ position_or_len p xs
place_kept p [] more h = absurd (omega (arith, h))
place_kept p (x ∷ xs) more h =
    place_by (p x) (position_or_len p xs) (position_or_len p (xs ++ more)) (length xs) h (place_kept p xs more)

placed : (n long k : ℕ) → cond (nat_lt n long) (Some n) None ≡ Some k → (n < long) × (n ≡ k)
placed n long k =
    cond_both (nat_lt n long) (Some n) None (λ o. o ≡ Some k → (n < long) × (n ≡ k))
    (λ e same. (ltb-true n long e, cc)) (λ e same. absurd (cc))

known_kept : (xs more : List NameBytes) (x : NameBytes) (k : ℕ) → known xs x ≡ Ok k → known (xs ++ more) x ≡ Ok k
known_kept xs more x k h =
    let n : ℕ = position_or_len (bytes_eq x) xs in
    let m : ℕ = position_or_len (bytes_eq x) (xs ++ more) in
    let at = placed n (length xs) k (or_known (number_of xs x) k h) in
    let same : m ≡ n = place_kept (bytes_eq x) xs more at.0 in
    let here : m < length (xs ++ more) = omega (arith, at.0, same, length-append xs more) in
    ap or_unknown (cond-true (nat_lt m (length (xs ++ more))) (Some m) None (lt-ltb m (length (xs ++ more)) here))
    ∙ ap (λ i. Ok i) (same ∙ at.1)

itself : (x : NameBytes) → bytes_eq x x ≡ true
itself x = (bytes_decides x x).1 refl

-- the number of a name that is set, which is put at the end if it is new
place_new : (x : NameBytes) (table : List NameBytes)
    → position_or_len (bytes_eq x) (with_name table x) ≡ position_or_len (bytes_eq x) table
place_new x table =
    let n : ℕ = position_or_len (bytes_eq x) table in
    cond_both (has table x) table (table ++ x ∷ []) (λ (l : List NameBytes). position_or_len (bytes_eq x) l ≡ n)
    (λ _. refl)
    (λ _. position_or_len_push (bytes_eq x) table x
    ∙ ap (λ b. cond (eqb n (length table)) (length table + cond b 0 1) n) (itself x)
    ∙ cond_both (eqb n (length table)) (length table + 0) n (λ m. m ≡ n)
    (λ e. let last : n ≡ length table = eqb-true n (length table) e in omega (arith, last)) (λ _. refl))

number_kept : (vars more : List NameBytes) (x : NameBytes)
    → position_or_len (bytes_eq x) (with_name vars x ++ more) ≡ position_or_len (bytes_eq x) vars
number_kept vars more x =
    let named = target_named vars x in
    let here : position_or_len (bytes_eq x) (with_name vars x) < length (with_name vars x) =
    omega (arith, named.here, place_new x vars) in
    place_kept (bytes_eq x) (with_name vars x) more here ∙ place_new x vars

stands : (vars more : List NameBytes) (x : NameBytes) → has (with_name vars x ++ more) x ≡ true
stands vars more x =
    let k : ℕ = position_or_len (bytes_eq x) vars in
    let named = is_named-append (with_name vars x) more k x (target_named vars x) in
    list_any_at (bytes_eq x) (with_name vars x ++ more) k [] named.here (ap (bytes_eq x) named.name ∙ itself x)

-- ---- with more names a body is the same

target_again : (shared : List NameBytes) (s u : NameScope) (x : NameBytes) (r : NameScope × ℕ)
    → target shared s x ≡ Ok r → Grows r.0 u → target shared u x ≡ Ok (u, r.1)
target_again shared s u x r h g =
    let n : ℕ = position_or_len (bytes_eq x) s.vars in
    let made : NameScope = record s { vars = with_name s.vars x } in
    let free = if_not (is_port s x || is_row shared s x) (made, n) r h in
    let more : Grows made u = subst (λ (q : NameScope × ℕ). Grows q.0 u) (sym free.1) g in
    let taken : (is_port u x || is_row shared u x) ≡ (is_port s x || is_row shared s x) =
    λ i. (has (more.ins i) x || has (more.outs i) x)
    || (has shared x || (has (more.arrays i).names x || has (more.tables i).rows.names x)) in
    let there : has u.vars x ≡ true = ap (λ l. has l x) more.vars ∙ stands s.vars more.more x in
    let vars : with_name u.vars x ≡ u.vars = cond-true (has u.vars x) u.vars (u.vars ++ x ∷ []) there in
    let number : position_or_len (bytes_eq x) u.vars ≡ n =
    ap (λ l. position_or_len (bytes_eq x) l) more.vars ∙ number_kept s.vars more.more x in
    cond-false (is_port u x || is_row shared u x) _ _ (taken ∙ free.0)
    ∙ (λ i. Ok (record u { vars = vars i }, number i))
    ∙ ap (λ (q : NameScope × ℕ). Ok (u, q.1)) free.1

module _ (s u : NameScope) (g : Grows s u) where
  row_same : (x : NameBytes) → row_of u x ≡ row_of s x
  row_same x = λ i. row_of (record s { arrays = g.arrays i; tables = g.tables i }) x

  term_again : (e : ExpressionNode) (t : lang.Term) → term_in s e ≡ Ok t → term_in u e ≡ Ok t
  unfolding term_in
  term_again (numeral n) t h = h
  term_again (variable x) t h =
      let k = went (known s.vars x) (λ k. Ok (lang.Var k)) t h in
      then_ok (known u.vars x) (λ k. Ok (lang.Var k)) k.value
      (ap (λ l. known l x) g.vars ∙ known_kept s.vars g.more x k.value k.first)
      ∙ k.rest
  term_again (element x e) t h =
      let row = went (row_of s x) (λ row. and_then (term_in s e) (λ a. Ok (lang.Cell row.base row.size a))) t h in
      let a = went (term_in s e) (λ a. Ok (lang.Cell row.value.base row.value.size a)) t row.rest in
      then_ok (row_of u x) (λ row. and_then (term_in u e) (λ a. Ok (lang.Cell row.base row.size a))) row.value
      (row_same x ∙ row.first)
      ∙ then_ok (term_in u e) (λ a. Ok (lang.Cell row.value.base row.value.size a)) a.value (term_again e a.value a.first)
      ∙ a.rest
  term_again (minus e) t h =
      let a = went (term_in s e) (λ a. Ok (lang.Neg a)) t h in
      then_ok (term_in u e) (λ a. Ok (lang.Neg a)) a.value (term_again e a.value a.first) ∙ a.rest
  term_again (negation e) t h =
      let a = went (term_in s e) (λ a. Ok (lang.Not a)) t h in
      then_ok (term_in u e) (λ a. Ok (lang.Not a)) a.value (term_again e a.value a.first) ∙ a.rest
  term_again (complement e) t h =
      let a = went (term_in s e) (λ a. Ok (lang.BitNot a)) t h in
      then_ok (term_in u e) (λ a. Ok (lang.BitNot a)) a.value (term_again e a.value a.first) ∙ a.rest
  term_again (binary o e f) t h =
      let a = went (term_in s e) (λ a. and_then (term_in s f) (λ b. Ok (lang.Bin o a b))) t h in
      let b = went (term_in s f) (λ b. Ok (lang.Bin o a.value b)) t a.rest in
      then_ok (term_in u e) (λ a. and_then (term_in u f) (λ b. Ok (lang.Bin o a b))) a.value (term_again e a.value a.first)
      ∙ then_ok (term_in u f) (λ b. Ok (lang.Bin o a.value b)) b.value (term_again f b.value b.first) ∙ b.rest
  term_again (conditional e f k) t h =
      let a =
      went (term_in s e) (λ a. and_then (term_in s f) (λ b. and_then (term_in s k) (λ c. Ok (lang.Choice a b c)))) t h in
      let b = went (term_in s f) (λ b. and_then (term_in s k) (λ c. Ok (lang.Choice a.value b c))) t a.rest in
      let c = went (term_in s k) (λ c. Ok (lang.Choice a.value b.value c)) t b.rest in
      then_ok (term_in u e) (λ a. and_then (term_in u f) (λ b. and_then (term_in u k) (λ c. Ok (lang.Choice a b c))))
      a.value (term_again e a.value a.first)
      ∙ then_ok (term_in u f) (λ b. and_then (term_in u k) (λ c. Ok (lang.Choice a.value b c))) b.value
      (term_again f b.value b.first)
      ∙ then_ok (term_in u k) (λ c. Ok (lang.Choice a.value b.value c)) c.value (term_again k c.value c.first) ∙ c.rest

  in_again : (x : NameBytes) (k : ℕ) → known s.ins x ≡ Ok k → known u.ins x ≡ Ok k
  in_again x k h = ap (λ l. known l x) g.ins ∙ h

  out_again : (x : NameBytes) (k : ℕ) → known s.outs x ≡ Ok k → known u.outs x ≡ Ok k
  out_again x k h = ap (λ l. known l x) g.outs ∙ h

  array_again : (x : NameBytes) (row : Row) → array_row s x ≡ Ok row → array_row u x ≡ Ok row
  array_again x row h = (λ i. array_row (record s { arrays = g.arrays i; tables = g.tables i }) x) ∙ h

mutual
  unfolding statement_in tree_in

  statement_again : (shared : List NameBytes) (s u : NameScope) (x : StatementNode) (r : NameScope × (Tree → Tree))
      → statement_in shared s x ≡ Ok r → Grows r.0 u → statement_in shared u x ≡ Ok (u, r.1)
  statement_again shared s u (assign x e) r h g =
      let t = went _ _ r h in
      let a = went _ _ r t.rest in
      let is = ok_is _ r a.rest in
      let more : Grows t.value.0 u = subst (λ (q : NameScope × (Tree → Tree)). Grows q.0 u) (sym is) g in
      then_ok (target shared u x) (λ t. and_then (term_in t.0 e) (λ a. Ok (t.0, Assign t.1 a))) (u, t.value.1)
      (target_again shared s u x t.value t.first more)
      ∙ then_ok (term_in u e) (λ a. Ok (u, Assign t.value.1 a)) a.value
      (term_again t.value.0 u more e a.value a.first)
      ∙ ap (λ (q : NameScope × (Tree → Tree)). Ok (u, q.1)) is
  statement_again shared s u (store x i e) r h g =
      let row = went _ _ r h in
      let a = went _ _ r row.rest in
      let b = went _ _ r a.rest in
      let is = ok_is _ r b.rest in
      let more : Grows s u = subst (λ (q : NameScope × (Tree → Tree)). Grows q.0 u) (sym is) g in
      then_ok (array_row u x)
      (λ row. and_then (term_in u i) (λ a. and_then (term_in u e) (λ b. Ok (u, Set row.base row.size a b)))) row.value
      (array_again s u more x row.value row.first)
      ∙ then_ok (term_in u i) (λ a. and_then (term_in u e) (λ b. Ok (u, Set row.value.base row.value.size a b))) a.value
      (term_again s u more i a.value a.first)
      ∙ then_ok (term_in u e) (λ b. Ok (u, Set row.value.base row.value.size a.value b)) b.value
      (term_again s u more e b.value b.first)
      ∙ ap (λ (q : NameScope × (Tree → Tree)). Ok (u, q.1)) is
  statement_again shared s u (receive p x) r h g =
      let port = went _ _ r h in
      let t = went _ _ r port.rest in
      let is = ok_is _ r t.rest in
      let more : Grows t.value.0 u = subst (λ (q : NameScope × (Tree → Tree)). Grows q.0 u) (sym is) g in
      let whole : Grows s u = grows_on s t.value.0 u (target_grows shared s x t.value t.first) more in
      then_ok (known u.ins p) (λ port. and_then (target shared u x) (λ t. Ok (t.0, Read port t.1))) port.value
      (in_again s u whole p port.value port.first)
      ∙ then_ok (target shared u x) (λ t. Ok (t.0, Read port.value t.1)) (u, t.value.1)
      (target_again shared s u x t.value t.first more)
      ∙ ap (λ (q : NameScope × (Tree → Tree)). Ok (u, q.1)) is
  statement_again shared s u (send o e) r h g =
      let port = went _ _ r h in
      let a = went _ _ r port.rest in
      let is = ok_is _ r a.rest in
      let more : Grows s u = subst (λ (q : NameScope × (Tree → Tree)). Grows q.0 u) (sym is) g in
      then_ok (known u.outs o) (λ port. and_then (term_in u e) (λ a. Ok (u, Write port a))) port.value
      (out_again s u more o port.value port.first)
      ∙ then_ok (term_in u e) (λ a. Ok (u, Write port.value a)) a.value (term_again s u more e a.value a.first)
      ∙ ap (λ (q : NameScope × (Tree → Tree)). Ok (u, q.1)) is
  statement_again shared s u (choice e b c) r h g =
      let a = went _ _ r h in
      let first = went _ _ r a.rest in
      let second = went _ _ r first.rest in
      let is = ok_is _ r second.rest in
      let last : Grows second.value.0 u = subst (λ (q : NameScope × (Tree → Tree)). Grows q.0 u) (sym is) g in
      let between : Grows first.value.0 u =
      grows_on first.value.0 second.value.0 u (block_grows shared first.value.0 c second.value second.first) last in
      let whole : Grows s u = grows_on s first.value.0 u (block_grows shared s b first.value first.first) between in
      then_ok (term_in u e)
      (λ a. and_then (tree_in shared u b)
      (λ first. and_then (tree_in shared first.0 c) (λ second. Ok (second.0, If a first.1 second.1)))) a.value
      (term_again s u whole e a.value a.first)
      ∙ then_ok (tree_in shared u b)
      (λ first. and_then (tree_in shared first.0 c) (λ second. Ok (second.0, If a.value first.1 second.1)))
      (u, first.value.1) (tree_again shared s u b first.value first.first between)
      ∙ then_ok (tree_in shared u c) (λ second. Ok (second.0, If a.value first.value.1 second.1)) (u, second.value.1)
      (tree_again shared first.value.0 u c second.value second.first last)
      ∙ ap (λ (q : NameScope × (Tree → Tree)). Ok (u, q.1)) is
  statement_again shared s u (loop e b) r h g =
      let a = went _ _ r h in
      let body = went _ _ r a.rest in
      let is = ok_is _ r body.rest in
      let last : Grows body.value.0 u = subst (λ (q : NameScope × (Tree → Tree)). Grows q.0 u) (sym is) g in
      let whole : Grows s u = grows_on s body.value.0 u (block_grows shared s b body.value body.first) last in
      then_ok (term_in u e) (λ a. and_then (tree_in shared u b) (λ body. Ok (body.0, While a body.1))) a.value
      (term_again s u whole e a.value a.first)
      ∙ then_ok (tree_in shared u b) (λ body. Ok (body.0, While a.value body.1)) (u, body.value.1)
      (tree_again shared s u b body.value body.first last)
      ∙ ap (λ (q : NameScope × (Tree → Tree)). Ok (u, q.1)) is

  tree_again : (shared : List NameBytes) (s u : NameScope) (b : Statements) (r : NameScope × Tree)
      → tree_in shared s b ≡ Ok r → Grows r.0 u → tree_in shared u b ≡ Ok (u, r.1)
  tree_again shared s u no_statements r h g = ap (λ (q : NameScope × Tree). Ok (u, q.1)) (ok_is _ r h)
  tree_again shared s u (statement x xs) r h g =
      let first = went _ _ r h in
      let rest = went _ _ r first.rest in
      let is = ok_is _ r rest.rest in
      let last : Grows rest.value.0 u = subst (λ (q : NameScope × Tree). Grows q.0 u) (sym is) g in
      let between : Grows first.value.0 u =
      grows_on first.value.0 rest.value.0 u (block_grows shared first.value.0 xs rest.value rest.first) last in
      then_ok (statement_in shared u x)
      (λ first. and_then (tree_in shared first.0 xs) (λ rest. Ok (rest.0, first.1 rest.1))) (u, first.value.1)
      (statement_again shared s u x first.value first.first between)
      ∙ then_ok (tree_in shared u xs) (λ rest. Ok (rest.0, first.value.1 rest.1)) (u, rest.value.1)
      (tree_again shared first.value.0 u xs rest.value rest.first last)
      ∙ ap (λ (q : NameScope × Tree). Ok (u, q.1)) is

-- ---- the whole

body_second : (shared : List NameBytes) (s : NameScope) (b : Statements) (w : WrittenBody) → body_of shared s b ≡ Ok w
    → body_of shared (with_targets shared s b) b ≡ Ok w
body_second shared s b w h =
    let made : NameScope × Tree → WrittenBody = λ r. record { scope = r.0; blocks = body_blocks r.1 } in
    let r = went (tree_in shared s b) (λ r. Ok (made r)) w h in
    let u : NameScope = r.value.0 in
    let again : tree_in shared (with_targets shared s b) b ≡ Ok (u, r.value.1) =
    ap (λ v. tree_in shared v b) (block_told shared s b r.value r.first)
    ∙ tree_again shared s u b r.value r.first (grows_not u) in
    then_ok (tree_in shared (with_targets shared s b) b) (λ r. Ok (made r)) (u, r.value.1) again ∙ r.rest

program_second : (shared : SharedTables) (p : ProcessNode) (q : NamedProgram)
    → named_program language.One shared p ≡ Ok q → named_program language.Two shared p ≡ Ok q
program_second shared p q e =
    let h = went (head_scope shared.names p) _ q e in
    let s = went (each (declare shared.names) h.value p.declarations) _ q h.rest in
    let start : NameScope = with_uses shared s.value p.body in
    let body = went (body_of shared.names start p.body) (λ body. Ok (program_with shared s.value body)) q s.rest in
    let written : NameScope → Result NamedProgram NameError = λ t.
    and_then (body_of shared.names (with_targets shared.names (with_uses shared t p.body) p.body) p.body)
    (λ body. Ok (program_with shared t body)) in
    then_ok (head_scope shared.names p) (λ h. and_then (each (declare shared.names) h p.declarations) written) h.value
    h.first
    ∙ then_ok (each (declare shared.names) h.value p.declarations) written s.value s.first
    ∙ then_ok (body_of shared.names (with_targets shared.names start p.body) p.body)
    (λ body. Ok (program_with shared s.value body)) body.value
    (body_second shared.names start p.body body.value body.first)
    ∙ body.rest

process_second : (shared : SharedTables) (s t : Programs) (p : ProcessNode)
    → with_named_process language.One shared s p ≡ Ok t → with_named_process language.Two shared s p ≡ Ok t
process_second shared s t p e =
    let made : List NameBytes → NamedProgram → Programs =
    λ names made. record { names = names; programs = s.programs ++ made ∷ [] } in
    let names = went (declared s.names p.name) _ t e in
    let q = went (named_program language.One shared p) (λ q. Ok (made names.value q)) t names.rest in
    then_ok (declared s.names p.name)
    (λ names. and_then (named_program language.Two shared p) (λ q. Ok (made names q))) names.value names.first
    ∙ then_ok (named_program language.Two shared p) (λ q. Ok (made names.value q)) q.value
    (program_second shared p q.value q.first)
    ∙ q.rest

programs_second : (shared : SharedTables) (processes : List ProcessNode) (s t : Programs)
    → each (with_named_process language.One shared) s processes ≡ Ok t
    → each (with_named_process language.Two shared) s processes ≡ Ok t
unfolding each
programs_second shared [] s t e = e
programs_second shared (p ∷ ps) s t e =
    let first =
    went (with_named_process language.One shared s p) (λ u. each (with_named_process language.One shared) u ps) t e in
    then_ok (with_named_process language.Two shared s p) (λ u. each (with_named_process language.Two shared) u ps)
    first.value (process_second shared s first.value p first.first)
    ∙ programs_second shared ps first.value t first.rest

pub second_resolves : SecondResolvesFirst
second_resolves d n e =
    let shared = went (shared_of d.tables) _ n e in
    let p = went (programs_of language.One shared.value d.processes) _ n shared.rest in
    then_ok (shared_of d.tables)
    (λ s. and_then (programs_of language.Two s d.processes)
    (λ p. and_then (wiring p.names d.network.items) (λ w. Ok (named_with s (settings_of d.network) p w)))) shared.value
    shared.first
    ∙ then_ok (programs_of language.Two shared.value d.processes)
    (λ p. and_then (wiring p.names d.network.items)
    (λ w. Ok (named_with shared.value (settings_of d.network) p w))) p.value
    (programs_second shared.value d.processes (record { names = []; programs = [] }) p.value p.first)
    ∙ p.rest
