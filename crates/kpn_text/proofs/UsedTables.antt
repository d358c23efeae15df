-- The shared tables that a body names stand after the tables of its process.
use Rattle.kpn_text.proofs.Common.{◌≡◌, ℕ, ◌+◌, ◌≤◌, Bool, true, false, cond, List, [], ◌∷◌, ◌++◌, length, Option, Some, None, refl, sym, ap, ◌∙◌, append_assoc, append-nil, length-append, arith, flat_map, NameBytes, ExpressionNode, numeral, variable, element, minus, negation, complement, binary, conditional, StatementNode, assign, store, receive, send, choice, loop, Statements, no_statements, statement, NamedRow, SharedTables, KnownTables, has, number_of, within_64_bits, values_at, with_use, with_use_if, with_name_used, used_in_term, used_in_statement, used_in, with_name_new}
use Rattle.std.proofs.lemmas.List.Concat.{flat_map-append}
use Rattle.kpn_text.proofs.DeclaredRows.{Laid, rows_of, laid_more, rows_more, end_more}

-- each shared table has a value at least
abbrev pub AreFilled : SharedTables → Type 0
AreFilled shared = (x : NameBytes) (k : ℕ) → number_of shared.names x ≡ Some k → 1 ≤ length (values_at shared k)

-- the tables of a process, and after them shared ones
pub record Uses (shared : SharedTables) (own ts : KnownTables) : Type 0 where
  pub laid : Laid 0 ts.rows
  pub values : ts.values ≡ own.values
  pub end : ts.rows.end ≡ within_64_bits (length ts.values + length (flat_map (values_at shared) ts.used))
  pub more : List NamedRow
  pub rows : rows_of ts.rows ≡ rows_of own.rows ++ more
  pub count : length ts.rows.names ≡ length own.rows.names + length ts.used

longer_by : (names own : List NameBytes) (used : List ℕ) (x : NameBytes) (k : ℕ)
    → length names ≡ length own + length used → length (names ++ x ∷ []) ≡ length own + length (used ++ k ∷ [])
longer_by names own used x k h = omega (arith, h, length-append names (x ∷ []), length-append used (k ∷ []))

module _ (shared : SharedTables) (own : KnownTables) (filled : AreFilled shared) where
  use_more : (ts : KnownTables) (x : NameBytes) (k : ℕ) → number_of shared.names x ≡ Some k → has ts.rows.names x ≡ false
      → Uses shared own ts → Uses shared own (with_use shared ts x k)
  use_more ts x k is new h =
      let n : ℕ = length (values_at shared k) in
      let values : ℕ = length ts.values in
      let used : ℕ = length (flat_map (values_at shared) ts.used) in
      let last : flat_map (values_at shared) (ts.used ++ k ∷ [])
      ≡ flat_map (values_at shared) ts.used ++ values_at shared k =
      flat_map-append (values_at shared) ts.used (k ∷ [])
      ∙ ap (λ l. flat_map (values_at shared) ts.used ++ l) (append-nil (values_at shared k)) in
      let long : length (flat_map (values_at shared) (ts.used ++ k ∷ [])) ≡ used + n =
      ap length last ∙ length-append (flat_map (values_at shared) ts.used) (values_at shared k) in
      let sum : (values + used) + n ≡ values + (used + n) = omega arith in
      record {
        laid = laid_more 0 ts.rows x n new (filled x k is) h.laid;
        values = h.values;
        end = end_more ts.rows.end (values + used) n h.end
            ∙ ap (λ m. within_64_bits m) (sum ∙ ap (λ m. values + m) (sym long));
        more = h.more ++ record { name = x; base = ts.rows.end; size = n } ∷ [];
        rows =
            rows_more 0 ts.rows x n new h.laid
            ∙ ap (λ l. l ++ record { name = x; base = ts.rows.end; size = n } ∷ []) h.rows
            ∙ append_assoc (rows_of own.rows) h.more (record { name = x; base = ts.rows.end; size = n } ∷ []);
        count =
            ap length (with_name_new ts.rows.names x new)
            ∙ longer_by ts.rows.names own.rows.names ts.used x k h.count;
      }

  use_unless : (b : Bool) (ts : KnownTables) (x : NameBytes) (k : ℕ) → number_of shared.names x ≡ Some k
      → has ts.rows.names x ≡ b → Uses shared own ts → Uses shared own (cond b ts (with_use shared ts x k))
  use_unless true ts x k is new h = h
  use_unless false ts x k is new h = use_more ts x k is new h

  use_if : (o : Option ℕ) (ts : KnownTables) (x : NameBytes) → number_of shared.names x ≡ o → Uses shared own ts
      → Uses shared own (with_use_if shared ts x o)
  use_if (Some k) ts x is h = use_unless (has ts.rows.names x) ts x k is refl h
  use_if None ts x is h = h

  term_uses : (e : ExpressionNode) (ts : KnownTables) → Uses shared own ts → Uses shared own (used_in_term shared ts e)
  term_uses (numeral n) ts h = h
  term_uses (variable x) ts h = h
  term_uses (element x e) ts h =
      term_uses e (with_name_used shared ts x) (use_if (number_of shared.names x) ts x refl h)
  term_uses (minus e) ts h = term_uses e ts h
  term_uses (negation e) ts h = term_uses e ts h
  term_uses (complement e) ts h = term_uses e ts h
  term_uses (binary o a b) ts h = term_uses b (used_in_term shared ts a) (term_uses a ts h)
  term_uses (conditional c a b) ts h =
      let first : KnownTables = used_in_term shared ts c in
      term_uses b (used_in_term shared first a) (term_uses a first (term_uses c ts h))

  mutual
    statement_uses : (s : StatementNode) (ts : KnownTables) → Uses shared own ts
        → Uses shared own (used_in_statement shared ts s)
    statement_uses (assign x e) ts h = term_uses e ts h
    statement_uses (store x i e) ts h = term_uses e (used_in_term shared ts i) (term_uses i ts h)
    statement_uses (receive i x) ts h = h
    statement_uses (send o e) ts h = term_uses e ts h
    statement_uses (choice e a b) ts h =
        let first : KnownTables = used_in_term shared ts e in
        block_uses b (used_in shared first a) (block_uses a first (term_uses e ts h))
    statement_uses (loop e b) ts h = block_uses b (used_in_term shared ts e) (term_uses e ts h)

    block_uses : (b : Statements) (ts : KnownTables) → Uses shared own ts → Uses shared own (used_in shared ts b)
    block_uses no_statements ts h = h
    block_uses (statement x xs) ts h = block_uses xs (used_in_statement shared ts x) (statement_uses x ts h)

-- a process that names no shared table yet
pub uses_none : (shared : SharedTables) (own : KnownTables) → Laid 0 own.rows
    → own.rows.end ≡ within_64_bits (length own.values) → own.used ≡ [] → Uses shared own own
uses_none shared own laid end unused =
    let none : length (flat_map (values_at shared) own.used) ≡ 0 =
    ap (λ l. length (flat_map (values_at shared) l)) unused in
    let zeros : length own.used ≡ 0 = ap length unused in
    let sum : length own.values ≡ length own.values + length (flat_map (values_at shared) own.used) =
    omega (arith, none) in
    record {
      laid = laid;
      values = refl;
      end = end ∙ ap (λ m. within_64_bits m) sum;
      more = [];
      rows = sym (append-nil (rows_of own.rows));
      count = omega (arith, zeros);
    }

pub body_uses : (shared : SharedTables) (own : KnownTables) → AreFilled shared → (b : Statements) → Uses shared own own
    → Uses shared own (used_in shared own b)
body_uses shared own filled b h = block_uses shared own filled b own h
