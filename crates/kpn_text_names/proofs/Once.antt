-- No name is twice in a table of names: each step adds a name that is new, or none.
use Rattle.kpn_text_names.proofs.Common.{◌≡◌, ℕ, zero, suc, ◌<◌, Bool, true, false, cond, not, ◌||◌, List, [], ◌∷◌, ◌++◌, length, map, Option, Some, None, Ok, Err, refl, sym, ap, subst, ◌∙◌, append_assoc, append-nil, length-append, inl, inr, arith, All, position_or_len, bytes_eq, bytes_decides, get_or-append_seam, cases_eq, false≢true, and_from, and_parts, or_parts, lt-ltb, get_or_append_left, length-map, list_any_at, list_any-append, Tree, ChannelSpec, Inner, Source, Sink, Language, NameScope, and_then, name_at, has, declared, number_of, with_name, SharedTables, double, each, are_new, scope_with, head_scope, is_port, is_row, is_taken, declared_name, with_declaration, declare, table_values, behind_arrays, target, with_target, no_shared, with_shared, shared_of, with_use, with_use_if, with_name_used, used_in_term, used_in_statement, used_in, WrittenBody, body_blocks, body_of, Settings, settings_of, Wiring, within_32_bits, with_wired_channel, with_instance, with_wired_item, instance_of, all_channels, wiring, NamedProgram, program_with, with_uses, at_body, named_program, Programs, with_named_process, programs_of, Named, named_with, resolve, named_row, named_table, paired, process_names_in, names_in}
use Rattle.std.proofs.lemmas.List.Elements.{All-push}
use Rattle.std.proofs.lemmas.List.Sums.{position_or_len_is}
use Rattle.kpn_text_grammar.specs.Syntax as grammar
use Rattle.kpn_text_grammar.specs.Syntax.{NameBytes, ExpressionNode, numeral, variable, element, minus, negation, complement, binary, conditional, Table, StatementNode, assign, store, receive, send, choice, loop, Statements, no_statements, statement, Declaration, ProcessNode, Item, channel, source, sink, instance, Description}
use Rattle.kpn_text_names.specs.declared.tables.KnownTables.{KnownTables}
use Rattle.kpn_text_names.specs.Body.{statement_in, tree_in}
use Rattle.kpn_text_names.specs.Once.{StandOnce, InsideOnce, EachStandsOnce}
use Rattle.kpn_text_names.proofs.Chains.{ok_is, went}
use Rattle.kpn_text_names.proofs.Steps.{keeps}
use Rattle.kpn_text_names.proofs.KnownNames.{if_not, if_so, declared_is}
use Rattle.kpn_text_names.proofs.KnownTargets.{known_keep}
use Rattle.kpn_text_names.proofs.Counts.{programs_match}

-- ---- one table

-- no name is one that comes before it
abbrev Apart : List NameBytes → Type 0
Apart table = (i j : ℕ) → i < j → j < length table → bytes_eq (name_at table j) (name_at table i) ≡ false

false_unless : (b : Bool) → (b ≡ true → ⊥) → b ≡ false
false_unless true h = absurd (h refl)
false_unless false h = refl

not_there : (table : List NameBytes) (x : NameBytes) (i : ℕ) → has table x ≡ false → i < length table
    → bytes_eq x (name_at table i) ≡ false
not_there table x i new here =
    false_unless (bytes_eq x (name_at table i))
    (λ same. false≢true (sym new ∙ list_any_at (bytes_eq x) table i [] here same))

-- a name more, which is new
one_more : (table : List NameBytes) (x : NameBytes) → has table x ≡ false → Apart table → Apart (table ++ x ∷ [])
one_more table x new apart i j before here =
    let longer : length (table ++ x ∷ []) ≡ suc (length table) = simp length-append (omega arith) in
    elim (cases_eq j (length table)) [
      | inl last ↦
          rw (last, get_or-append_seam table x [] [], get_or_append_left table (x ∷ []) [] i (omega arith))
          (not_there table x i new (omega arith))
      | inr other ↦
          rw (
            get_or_append_left table (x ∷ []) [] j (omega arith),
            get_or_append_left table (x ∷ []) [] i (omega arith),
          )
          (apart i j before (omega arith))
    ]

stand_once : (table : List NameBytes) → Apart table → StandOnce table
stand_once table apart k here =
    let at : position_or_len (bytes_eq (name_at table k)) table ≡ k =
    position_or_len_is (bytes_eq (name_at table k)) table k [] (omega arith) (λ i before. apart i k before here)
    (λ below. (bytes_decides (name_at table k) (name_at table k)).1 refl) in
    rw (at, lt-ltb k (length table) here) refl

declared_apart : (table names : List NameBytes) (x : NameBytes) → declared table x ≡ Ok names → Apart table → Apart names
declared_apart table names x e apart =
    let d = declared_is table x names e in
    subst Apart d.1 (one_more table x d.0 apart)

none_apart : Apart []
none_apart i j before here = absurd (omega arith)

-- ---- the names in a process

abbrev known_in : NameScope → List NameBytes
known_in s = s.ins ++ s.outs ++ s.vars

-- the ports and variables are apart, and so are the arrays and the tables
record ScopeApart (s : NameScope) : Type 0 where
  names : Apart (known_in s)
  arrays : Apart s.arrays.names
  tables : Apart s.tables.rows.names

is_false : (b : Bool) → not b ≡ true → b ≡ false
is_false true h = absurd (cc)
is_false false h = refl

new_apart : (before xs : List NameBytes) → are_new before xs ≡ true → Apart before → Apart (before ++ xs)
new_apart before [] e apart = subst Apart (sym (append-nil before)) apart
new_apart before (x ∷ xs) e apart =
    let parts = and_parts (not (has before x)) (are_new (before ++ x ∷ []) xs) e in
    subst Apart (append_assoc before (x ∷ []) xs)
    (new_apart (before ++ x ∷ []) xs parts.1 (one_more before x (is_false (has before x) parts.0) apart))

-- names that are new beside more are new beside fewer
new_beside : (more before xs : List NameBytes) → are_new (more ++ before) xs ≡ true → are_new before xs ≡ true
new_beside more before [] e = refl
new_beside more before (x ∷ xs) e =
    let parts = and_parts (not (has (more ++ before) x)) (are_new ((more ++ before) ++ x ∷ []) xs) e in
    let apart = or_parts (has more x) (has before x)
    (sym (list_any-append (bytes_eq x) more before) ∙ is_false (has (more ++ before) x) parts.0) in
    and_from (not (has before x)) (are_new (before ++ x ∷ []) xs) (ap not apart.1)
    (new_beside more (before ++ x ∷ []) xs
    (subst (λ (l : List NameBytes). are_new l xs ≡ true) (append_assoc more before (x ∷ [])) parts.1))

head_apart : (shared : List NameBytes) (p : ProcessNode) (s : NameScope) → head_scope shared p ≡ Ok s → ScopeApart s
head_apart shared p s e =
    let made : NameScope = scope_with p.ins p.outs p.pars in
    let given = if_so (are_new shared (p.ins ++ p.outs ++ p.pars)) made s e in
    let new = new_beside shared [] (p.ins ++ p.outs ++ p.pars)
    (subst (λ (l : List NameBytes). are_new l (p.ins ++ p.outs ++ p.pars) ≡ true) (sym (append-nil shared)) given.0) in
    subst ScopeApart given.1 (record {
      names = new_apart [] (p.ins ++ p.outs ++ p.pars) new none_apart;
      arrays = none_apart;
      tables = none_apart;
    })

-- a variable, which is none of the ports
with_name_apart : (ports vars : List NameBytes) (x : NameBytes) (b : Bool) → has vars x ≡ b → has ports x ≡ false
    → Apart (ports ++ vars) → Apart (ports ++ cond b vars (vars ++ x ∷ []))
with_name_apart ports vars x true stands free apart = apart
with_name_apart ports vars x false stands free apart =
    let new : has (ports ++ vars) x ≡ false = rw (list_any-append (bytes_eq x) ports vars, free) stands in
    subst Apart (append_assoc ports vars (x ∷ [])) (one_more (ports ++ vars) x new apart)

-- a row more, or the same
row_apart : (names : List NameBytes) (x : NameBytes) → Apart names → Apart (with_name names x)
row_apart names x apart = with_name_apart [] names x (has names x) refl refl apart

declaration_apart : (s : NameScope) (d : Declaration) → ScopeApart s → ScopeApart (with_declaration s d)
declaration_apart s (grammar.array x n) apart = record {
  names = apart.names;
  arrays = row_apart s.arrays.names x apart.arrays;
  tables = apart.tables;
}
declaration_apart s (grammar.table t) apart = record {
  names = apart.names;
  arrays = apart.arrays;
  tables = row_apart s.tables.rows.names t.name apart.tables;
}

declare_apart : (shared : List NameBytes) (s t : NameScope) (d : Declaration) → declare shared s d ≡ Ok t → ScopeApart s
    → ScopeApart t
declare_apart shared s t d e apart =
    let given = if_not (is_taken shared s (declared_name d)) (with_declaration s d) t e in
    subst ScopeApart given.1 (declaration_apart s d apart)

-- ---- the shared tables that a process names

abbrev KnownApart : KnownTables → Type 0
KnownApart ts = Apart ts.rows.names

use_apart : (s : SharedTables) (ts : KnownTables) (x : NameBytes) (k : ℕ) (b : Bool) → KnownApart ts
    → KnownApart (cond b ts (with_use s ts x k))
use_apart s ts x k true apart = apart
use_apart s ts x k false apart = row_apart ts.rows.names x apart

name_apart : (s : SharedTables) (ts : KnownTables) (x : NameBytes) (found : Option ℕ) → KnownApart ts
    → KnownApart (with_use_if s ts x found)
name_apart s ts x None apart = apart
name_apart s ts x (Some k) apart = use_apart s ts x k (has ts.rows.names x) apart

term_apart : (s : SharedTables) (ts : KnownTables) (e : ExpressionNode) → KnownApart ts → KnownApart (used_in_term s ts e)
term_apart s ts (numeral n) apart = apart
term_apart s ts (variable x) apart = apart
term_apart s ts (element x e) apart =
    term_apart s (with_name_used s ts x) e (name_apart s ts x (number_of s.names x) apart)
term_apart s ts (minus e) apart = term_apart s ts e apart
term_apart s ts (negation e) apart = term_apart s ts e apart
term_apart s ts (complement e) apart = term_apart s ts e apart
term_apart s ts (binary o a b) apart = term_apart s (used_in_term s ts a) b (term_apart s ts a apart)
term_apart s ts (conditional c a b) apart =
    term_apart s (used_in_term s (used_in_term s ts c) a) b
    (term_apart s (used_in_term s ts c) a (term_apart s ts c apart))

mutual
  uses_apart : (s : SharedTables) (ts : KnownTables) (b : Statements) → KnownApart ts → KnownApart (used_in s ts b)
  uses_apart s ts no_statements apart = apart
  uses_apart s ts (statement x xs) apart =
      uses_apart s (used_in_statement s ts x) xs (used_apart s ts x apart)

  used_apart : (s : SharedTables) (ts : KnownTables) (x : StatementNode) → KnownApart ts
      → KnownApart (used_in_statement s ts x)
  used_apart s ts (assign x e) apart = term_apart s ts e apart
  used_apart s ts (store x i e) apart = term_apart s (used_in_term s ts i) e (term_apart s ts i apart)
  used_apart s ts (receive i x) apart = apart
  used_apart s ts (send o e) apart = term_apart s ts e apart
  used_apart s ts (choice e a b) apart =
      uses_apart s (used_in s (used_in_term s ts e) a) b
      (uses_apart s (used_in_term s ts e) a (term_apart s ts e apart))
  used_apart s ts (loop e b) apart = uses_apart s (used_in_term s ts e) b (term_apart s ts e apart)

target_apart : (shared : List NameBytes) (s : NameScope) (x : NameBytes) (r : NameScope × ℕ) → target shared s x ≡ Ok r → ScopeApart s → ScopeApart r.0
target_apart shared s x r e apart =
    let made : NameScope × ℕ = (record s { vars = with_name s.vars x }, position_or_len (bytes_eq x) s.vars) in
    let given = if_not (is_port s x || is_row shared s x) made r e in
    let free : has (s.ins ++ s.outs) x ≡ false = list_any-append (bytes_eq x) s.ins s.outs
    ∙ (or_parts (is_port s x) (is_row shared s x) given.0).0 in
    subst (λ q. ScopeApart q.0) given.1 (record {
      names = with_name_apart (s.ins ++ s.outs) s.vars x (has s.vars x) refl free apart.names;
      arrays = apart.arrays;
      tables = apart.tables;
    })

-- a target of the body, which is none of the ports
unless_apart : (shared : List NameBytes) (s : NameScope) (x : NameBytes) (b : Bool) → (is_port s x || is_row shared s x) ≡ b
    → ScopeApart s → ScopeApart (cond b s (record s { vars = with_name s.vars x }))
unless_apart shared s x true is apart = apart
unless_apart shared s x false is apart =
    target_apart shared s x (record s { vars = with_name s.vars x }, position_or_len (bytes_eq x) s.vars)
    (ap (λ b. cond b (Err double) (Ok (record s { vars = with_name s.vars x }, position_or_len (bytes_eq x) s.vars))) is)
    apart

with_target_apart : (shared : List NameBytes) (s : NameScope) (x : NameBytes) → ScopeApart s
    → ScopeApart (with_target shared s x)
with_target_apart shared s x apart = unless_apart shared s x (is_port s x || is_row shared s x) refl apart

mutual
  unfolding statement_in tree_in

  statement_apart : (shared : List NameBytes) (s : NameScope) (x : StatementNode) (r : NameScope × (Tree → Tree)) → statement_in shared s x ≡ Ok r
      → ScopeApart s → ScopeApart r.0
  statement_apart shared s (assign x e) r h apart =
      let t = went _ _ r h in
      let a = went _ _ r t.rest in
      subst (λ q. ScopeApart q.0) (ok_is _ r a.rest) (target_apart shared s x t.value t.first apart)
  statement_apart shared s (store x i e) r h apart =
      let row = went _ _ r h in
      let a = went _ _ r row.rest in
      let b = went _ _ r a.rest in
      subst (λ q. ScopeApart q.0) (ok_is _ r b.rest) apart
  statement_apart shared s (receive p x) r h apart =
      let port = went _ _ r h in
      let t = went _ _ r port.rest in
      subst (λ q. ScopeApart q.0) (ok_is _ r t.rest) (target_apart shared s x t.value t.first apart)
  statement_apart shared s (send o e) r h apart =
      let port = went _ _ r h in
      let a = went _ _ r port.rest in
      subst (λ q. ScopeApart q.0) (ok_is _ r a.rest) apart
  statement_apart shared s (choice e b c) r h apart =
      let a = went _ _ r h in
      let first = went _ _ r a.rest in
      let second = went _ _ r first.rest in
      subst (λ q. ScopeApart q.0) (ok_is _ r second.rest)
      (tree_apart shared first.value.0 c second.value second.first (tree_apart shared s b first.value first.first apart))
  statement_apart shared s (loop e b) r h apart =
      let a = went _ _ r h in
      let body = went _ _ r a.rest in
      subst (λ q. ScopeApart q.0) (ok_is _ r body.rest) (tree_apart shared s b body.value body.first apart)

  tree_apart : (shared : List NameBytes) (s : NameScope) (b : Statements) (r : NameScope × Tree) → tree_in shared s b ≡ Ok r → ScopeApart s → ScopeApart r.0
  tree_apart shared s no_statements r h apart = subst (λ q. ScopeApart q.0) (ok_is _ r h) apart
  tree_apart shared s (statement x xs) r h apart =
      let first = went _ _ r h in
      let rest = went _ _ r first.rest in
      subst (λ q. ScopeApart q.0) (ok_is _ r rest.rest)
      (tree_apart shared first.value.0 xs rest.value rest.first (statement_apart shared s x first.value first.first apart))

body_apart : (shared : List NameBytes) (s : NameScope) (b : Statements) (w : WrittenBody) → body_of shared s b ≡ Ok w → ScopeApart s
    → ScopeApart w.scope
body_apart shared s b w e apart =
    let made : NameScope × Tree → WrittenBody = λ r. record { scope = r.0; blocks = body_blocks r.1 } in
    let r = went (tree_in shared s b) (λ r. Ok (made r)) w e in
    subst (λ v. ScopeApart v.scope) (ok_is (made r.value) w r.rest) (tree_apart shared s b r.value r.first apart)

program_apart : (l : Language) (shared : SharedTables) (p : ProcessNode) (q : NamedProgram) → named_program l shared p ≡ Ok q → ScopeApart q.names
program_apart l shared p q e =
    let h = went (head_scope shared.names p) _ q e in
    let s = went (each (declare shared.names) h.value p.declarations) _ q h.rest in
    let body = went (body_of shared.names (at_body l shared s.value p.body) p.body) _ q s.rest in
    let declared : ScopeApart s.value = keeps (declare shared.names) ScopeApart (declare_apart shared.names) p.declarations
    h.value s.value s.first (head_apart shared.names p h.value h.first) in
    subst (λ made. ScopeApart made.names) (ok_is (program_with shared s.value body.value) q body.rest)
    (body_apart shared.names (at_body l shared s.value p.body) p.body body.value body.first
    (known_keep (λ t. ScopeApart t) shared.names (with_target_apart shared.names) l (with_uses shared s.value p.body) p.body
    (record {
      names = declared.names;
      arrays = declared.arrays;
      tables = uses_apart shared s.value.tables p.body declared.tables;
    })))

-- ---- processes

record ProgramsApart (s : Programs) : Type 0 where
  names : Apart s.names
  inside : All (λ q. ScopeApart q.names) s.programs

process_apart : (l : Language) (shared : SharedTables) (s t : Programs) (p : ProcessNode) → with_named_process l shared s p ≡ Ok t → ProgramsApart s → ProgramsApart t
process_apart l shared s t p e apart =
    let made : List NameBytes → NamedProgram → Programs =
    λ names made. record { names = names; programs = s.programs ++ made ∷ [] } in
    let names = went (declared s.names p.name) (λ names. and_then (named_program l shared p) (λ q. Ok (made names q))) t e in
    let q = went (named_program l shared p) (λ q. Ok (made names.value q)) t names.rest in
    subst ProgramsApart (ok_is (made names.value q.value) t q.rest)
    (record {
      names = declared_apart s.names names.value p.name names.first apart.names;
      inside = All-push (λ q. ScopeApart q.names) s.programs q.value apart.inside (program_apart l shared p q.value q.first);
    })

programs_apart : (l : Language) (shared : SharedTables) (processes : List ProcessNode) (p : Programs) → programs_of l shared processes ≡ Ok p
    → ProgramsApart p
programs_apart l shared processes p e =
    keeps (with_named_process l shared) ProgramsApart (process_apart l shared) processes (record { names = []; programs = [] }) p e
    (record { names = none_apart; inside = λ k d here. absurd (omega arith) })

-- ---- items

record WiringApart (w : Wiring) : Type 0 where
  channels : Apart w.channel_names
  instances : Apart w.instance_names

channel_apart : (w v : Wiring) (x : NameBytes) (c : ChannelSpec) → with_wired_channel w x c ≡ Ok v → WiringApart w
    → WiringApart v
channel_apart w v x c e apart =
    let made : List NameBytes → Wiring =
    λ names. record w { channel_names = names; channels = w.channels ++ c ∷ [] } in
    let names = went (declared w.channel_names x) (λ names. Ok (made names)) v e in
    subst WiringApart (ok_is (made names.value) v names.rest)
    (record {
      channels = declared_apart w.channel_names names.value x names.first apart.channels;
      instances = apart.instances;
    })

instance_apart : (programs channels : List NameBytes) (w v : Wiring) (i : grammar.InstanceNode)
    → with_instance programs channels w i ≡ Ok v → WiringApart w → WiringApart v
instance_apart programs channels w v i e apart =
    let names = went (declared w.instance_names i.name) _ v e in
    let made = went (instance_of programs channels i) _ v names.rest in
    subst WiringApart (ok_is _ v made.rest)
    (record {
      channels = apart.channels;
      instances = declared_apart w.instance_names names.value i.name names.first apart.instances;
    })

item_apart : (programs channels : List NameBytes) (w v : Wiring) (i : Item) → with_wired_item programs channels w i ≡ Ok v
    → WiringApart w → WiringApart v
item_apart programs channels w v (channel x n) e apart = channel_apart w v x (Inner (within_32_bits n)) e apart
item_apart programs channels w v (source x) e apart = channel_apart w v x Source e apart
item_apart programs channels w v (sink x n) e apart = channel_apart w v x (Sink (within_32_bits n)) e apart
item_apart programs channels w v (instance i) e apart = instance_apart programs channels w v i e apart

wiring_apart : (programs : List NameBytes) (items : List Item) (w : Wiring) → wiring programs items ≡ Ok w → WiringApart w
wiring_apart programs items w e =
    keeps (with_wired_item programs (all_channels items)) WiringApart (item_apart programs (all_channels items)) items
    (record { channel_names = []; channels = []; instance_names = []; instances = [] }) w e
    (record { channels = none_apart; instances = none_apart })

-- ---- the whole

paired_names : (xs : List NameBytes) (ss : List NameScope) → length xs ≡ length ss
    → map (λ p. p.name) (paired process_names_in xs ss) ≡ xs
paired_names [] ss e = refl
paired_names (x ∷ xs) [] e = absurd (omega arith)
paired_names (x ∷ xs) (s ∷ ss) e = ap (λ l. x ∷ l) (paired_names xs ss (omega arith))

-- some of the first names, with something beside each
module _ {A B : Type 0} (f : NameBytes → A → B) (name : B → NameBytes) (named : (x : NameBytes) (a : A) → name (f x a) ≡ x) where
  paired_at : (xs : List NameBytes) (things : List A) (k : ℕ) → k < length (map name (paired f xs things))
      → (name_at (map name (paired f xs things)) k ≡ name_at xs k) × (k < length xs)
  paired_at [] things k here = absurd (omega (arith, here))
  paired_at (x ∷ xs) [] k here = absurd (omega (arith, here))
  paired_at (x ∷ xs) (a ∷ things) zero here = (named x a, omega arith)
  paired_at (x ∷ xs) (a ∷ things) (suc k) here =
      let p = paired_at xs things k (omega (arith, here)) in
      (p.0, omega (arith, p.1))

  paired_apart : (xs : List NameBytes) (things : List A) → Apart xs → Apart (map name (paired f xs things))
  paired_apart xs things apart i j before here =
      let second = paired_at xs things j here in
      let first = paired_at xs things i (omega (arith, before, here)) in
      rw (second.0, first.0) (apart i j before second.1)

inside_once : (x : NameBytes) (s : NameScope) → ScopeApart s → InsideOnce (process_names_in x s)
inside_once x s apart = record {
  names = stand_once (known_in s) apart.names;
  arrays = stand_once _ (paired_apart named_row (λ r. r.name) (λ n r. refl) s.arrays.names s.arrays.rows apart.arrays);
  tables = stand_once _ (paired_apart named_row (λ r. r.name) (λ n r. refl) s.tables.rows.names
      (map (behind_arrays s) s.tables.rows.rows) apart.tables);
}

paired_inside : (xs : List NameBytes) (ps : List NamedProgram) → All (λ q. ScopeApart q.names) ps
    → All InsideOnce (paired process_names_in xs (map (λ q. q.names) ps))
paired_inside [] ps apart k d here = absurd (omega arith)
paired_inside (x ∷ xs) [] apart k d here = absurd (omega arith)
paired_inside (x ∷ xs) (p ∷ ps) apart zero d here = inside_once x p.names (apart zero p (omega arith))
paired_inside (x ∷ xs) (p ∷ ps) apart (suc k) d here =
    paired_inside xs ps (λ i e below. apart (suc i) e (omega arith)) k d (omega arith)

shared_apart : (s t : SharedTables) (x : Table) → with_shared s x ≡ Ok t → Apart s.names → Apart t.names
shared_apart s t x e apart =
    let made : List NameBytes → SharedTables =
    λ names. record { names = names; values = s.values ++ table_values x ∷ [] } in
    let names = went (declared s.names x.name) (λ names. Ok (made names)) t e in
    subst (λ v. Apart v.names) (ok_is (made names.value) t names.rest)
    (declared_apart s.names names.value x.name names.first apart)

named_once : (shared : SharedTables) (s : Settings) (p : Programs) (w : Wiring) → Apart shared.names → ProgramsApart p
    → WiringApart w
    → length p.names ≡ length p.programs
    → EachStandsOnce (names_in (named_with shared s p w))
named_once shared s p w tables programs wires match =
    let same : length p.names ≡ length (map (λ q. q.names) p.programs) =
    match ∙ sym (length-map p.programs (λ q. q.names)) in
    record {
      tables = stand_once _ (paired_apart named_table (λ t. t.name) (λ n v. refl) shared.names shared.values tables);
      processes = rw (paired_names p.names (map (λ q. q.names) p.programs) same) (stand_once p.names programs.names);
      instances = stand_once w.instance_names wires.instances;
      channels = stand_once w.channel_names wires.channels;
      inside = paired_inside p.names p.programs programs.inside;
    }

pub names_stand_once : (l : Language) (d : Description) (n : Named) → resolve l d ≡ Ok n → EachStandsOnce (names_in n)
names_stand_once l d n e =
    let shared = went (shared_of d.tables) _ n e in
    let p = went (programs_of l shared.value d.processes) _ n shared.rest in
    let w = went (wiring p.value.names d.network.items) _ n p.rest in
    subst (λ m. EachStandsOnce (names_in m))
    (ok_is (named_with shared.value (settings_of d.network) p.value w.value) n w.rest)
    (named_once shared.value (settings_of d.network) p.value w.value
    (keeps with_shared (λ v. Apart v.names) shared_apart d.tables no_shared shared.value shared.first none_apart)
    (programs_apart l shared.value d.processes p.value p.first)
    (wiring_apart p.value.names d.network.items w.value w.first)
    (programs_match l shared.value d.processes p.value p.first))
