-- Declarations as they are printed, the arrays and then the tables, declare what they do in the order of the text.
use Rattle.kpn_text.proofs.Common.{◌≡◌, ℕ, Bool, true, false, cond, ◌||◌, List, [], ◌∷◌, ◌++◌, length, map, Result, Ok, Err, refl, sym, ap, ◌∙◌, bytes_eq, length-map, NameBytes, Literal, literal_value, Table, Declaration, array, table, NameScope, KnownTables, has, with_name, with_row, is_port, is_taken, with_table, with_declaration, declared_name, declare, literal_named, bind_assoc, same_after}
use Rattle.std.specs.Cmp.Lexicographic.{bytes_decides}
use Rattle.std.proofs.lemmas.List.Folds.{list_any-append}
use Rattle.kpn_text_tokens.specs.Results.{and_then}
use Rattle.kpn_text_names.specs.Fault.{NameError, double, each}
use Rattle.kpn_text.proofs.NamedItems.{literals_back}

-- ---- as they are printed

-- a table with its values as they are printed
abbrev pub plain_table : Table → Table
plain_table t = record { name = t.name; values = map literal_named (map literal_value t.values) }

abbrev pub arrays_of : List Declaration → List Declaration
arrays_of [] = []
arrays_of (array x n ∷ ds) = array x n ∷ arrays_of ds
arrays_of (table t ∷ ds) = arrays_of ds

abbrev pub tables_of : List Declaration → List Declaration
tables_of [] = []
tables_of (array x n ∷ ds) = tables_of ds
tables_of (table t ∷ ds) = table (plain_table t) ∷ tables_of ds

abbrev pub sorted : List Declaration → List Declaration
sorted ds = arrays_of ds ++ tables_of ds

-- ---- a table with its values as they are printed

pub plain_count : (vs : List Literal) → length (map literal_named (map literal_value vs)) ≡ length vs
plain_count vs = length-map (map literal_value vs) literal_named ∙ length-map vs literal_value

plain_with : (ts : KnownTables) (t : Table) → with_table ts (plain_table t) ≡ with_table ts t
plain_with ts t = λ i. record ts {
  rows = with_row ts.rows t.name (plain_count t.values i);
  values = ts.values ++ literals_back (map literal_value t.values) i;
}

plain_same : (shared : List NameBytes) (s : NameScope) (t : Table)
    → declare shared s (table (plain_table t)) ≡ declare shared s (table t)
plain_same shared s t =
    λ i. cond (is_taken shared s t.name) (Err double) (Ok (record s { tables = plain_with s.tables t i }))

-- ---- two declarations in either order

or_false : (b : Bool) → (b || false) ≡ b
or_false true = refl
or_false false = refl

or_true : (b : Bool) → (b || true) ≡ true
or_true true = refl
or_true false = refl

has_last_by : (b c : Bool) (names : List NameBytes) (x y : NameBytes) → has names x ≡ b → bytes_eq y x ≡ c
    → has (cond b names (names ++ x ∷ [])) y ≡ (has names y || c)
has_last_by true true names x y there same =
    ap (λ z. has names z) ((bytes_decides y x).0 same) ∙ there ∙ sym (or_true (has names y))
has_last_by true false names x y there same = sym (or_false (has names y))
has_last_by false c names x y there same =
    list_any-append (bytes_eq y) names (x ∷ []) ∙ ap (λ b. has names y || b) (or_false (bytes_eq y x) ∙ same)

has_last : (names : List NameBytes) (x y : NameBytes) → has (with_name names x) y ≡ (has names y || bytes_eq y x)
has_last names x y = has_last_by (has names x) (bytes_eq y x) names x y refl refl

taken_sum : (shared a t p v e : Bool)
    → ((shared || ((a || e) || t)) || (p || v)) ≡ (((shared || (a || t)) || (p || v)) || e)
taken_sum true a t p v e = refl
taken_sum false true t p v e = refl
taken_sum false false true p v true = refl
taken_sum false false true p v false = refl
taken_sum false false false true v true = refl
taken_sum false false false true v false = refl
taken_sum false false false false true true = refl
taken_sum false false false false true false = refl
taken_sum false false false false false true = refl
taken_sum false false false false false false = refl

taken_sum_last : (shared a t p v e : Bool)
    → ((shared || (a || (t || e))) || (p || v)) ≡ (((shared || (a || t)) || (p || v)) || e)
taken_sum_last true a t p v e = refl
taken_sum_last false true t p v e = refl
taken_sum_last false false true p v e = refl
taken_sum_last false false false true v true = refl
taken_sum_last false false false true v false = refl
taken_sum_last false false false false true true = refl
taken_sum_last false false false false true false = refl
taken_sum_last false false false false false true = refl
taken_sum_last false false false false false false = refl

-- a name is taken after a declaration if it was before, or if it is the declared one
taken_behind : (shared : List NameBytes) (s : NameScope) (d : Declaration) (y : NameBytes)
    → is_taken shared (with_declaration s d) y ≡ (is_taken shared s y || bytes_eq y (declared_name d))
taken_behind shared s (array x n) y =
    ap (λ b. (has shared y || (b || has s.tables.rows.names y)) || (is_port s y || has s.vars y))
    (has_last s.arrays.names x y)
    ∙ taken_sum (has shared y) (has s.arrays.names y) (has s.tables.rows.names y) (is_port s y) (has s.vars y)
    (bytes_eq y x)
taken_behind shared s (table t) y =
    ap (λ b. (has shared y || (has s.arrays.names y || b)) || (is_port s y || has s.vars y))
    (has_last s.tables.rows.names t.name y)
    ∙ taken_sum_last (has shared y) (has s.arrays.names y) (has s.tables.rows.names y) (is_port s y) (has s.vars y)
    (bytes_eq y t.name)

equal_by : (b c : Bool) (x y : NameBytes) → bytes_eq x y ≡ b → bytes_eq y x ≡ c → b ≡ c
equal_by true true x y e f = refl
equal_by false false x y e f = refl
equal_by true false x y e f =
    sym ((bytes_decides y x).1 (sym ((bytes_decides x y).0 e))) ∙ f
equal_by false true x y e f =
    sym e ∙ (bytes_decides x y).1 (sym ((bytes_decides y x).0 f))

equal_both : (x y : NameBytes) → bytes_eq x y ≡ bytes_eq y x
equal_both x y = equal_by (bytes_eq x y) (bytes_eq y x) x y refl refl

two : {A : Type 0} (a b e : Bool) (r f : A) → cond a f (cond (b || e) f r) ≡ cond b f (cond (a || e) f r)
two true true e r f = refl
two true false e r f = refl
two false true e r f = refl
two false false e r f = refl

then_declare : (shared : List NameBytes) (b : Bool) (s : NameScope) (d : Declaration)
    → and_then (cond b (Err double) (Ok s)) (λ u. declare shared u d)
    ≡ cond b (Err double) (declare shared s d)
unfolding and_then
then_declare shared true s d = refl
then_declare shared false s d = refl

both_are : (shared : List NameBytes) (s : NameScope) (d e : Declaration)
    → and_then (declare shared s d) (λ u. declare shared u e)
    ≡ cond (is_taken shared s (declared_name d)) (Err double)
    (cond (is_taken shared s (declared_name e) || bytes_eq (declared_name e) (declared_name d)) (Err double)
    (Ok (with_declaration (with_declaration s d) e)))
both_are shared s d e =
    then_declare shared (is_taken shared s (declared_name d)) (with_declaration s d) e
    ∙ ap (λ b. cond (is_taken shared s (declared_name d)) (Err double)
    (cond b (Err double) (Ok (with_declaration (with_declaration s d) e))))
    (taken_behind shared s d (declared_name e))

swapped : (shared : List NameBytes) (s : NameScope) (t : Table) (x : NameBytes) (n : ℕ)
    → and_then (declare shared s (table t)) (λ u. declare shared u (array x n))
    ≡ and_then (declare shared s (array x n)) (λ u. declare shared u (table t))
swapped shared s t x n =
    let both : NameScope = with_declaration (with_declaration s (array x n)) (table t) in
    both_are shared s (table t) (array x n)
    ∙ ap (λ b. cond (is_taken shared s t.name) (Err double)
    (cond (is_taken shared s x || b) (Err double) (Ok both))) (equal_both x t.name)
    ∙ two (is_taken shared s t.name) (is_taken shared s x) (bytes_eq t.name x) (Ok both) (Err double)
    ∙ sym (both_are shared s (array x n) (table t))

-- ---- all of them

-- a table goes past the arrays after it
past_arrays : (shared : List NameBytes) (s : NameScope) (t : Table) (ds rest : List Declaration)
    → and_then (declare shared s (table t)) (λ u. each (declare shared) u (arrays_of ds ++ rest))
    ≡ each (declare shared) s (arrays_of ds ++ table t ∷ rest)
unfolding each
past_arrays shared s t [] rest = refl
past_arrays shared s t (table u ∷ ds) rest = past_arrays shared s t ds rest
past_arrays shared s t (array x n ∷ ds) rest =
    let last : NameScope → Result NameScope NameError = λ v. each (declare shared) v (arrays_of ds ++ rest) in
    sym (bind_assoc (declare shared s (table t)) (λ u. declare shared u (array x n)) last)
    ∙ ap (λ r. and_then r last) (swapped shared s t x n)
    ∙ bind_assoc (declare shared s (array x n)) (λ u. declare shared u (table t)) last
    ∙ same_after (declare shared s (array x n)) (λ u. and_then (declare shared u (table t)) last)
    (λ u. each (declare shared) u (arrays_of ds ++ table t ∷ rest)) (λ u. past_arrays shared u t ds rest)

pub sorted_same : (shared : List NameBytes) (s : NameScope) (ds : List Declaration)
    → each (declare shared) s (sorted ds) ≡ each (declare shared) s ds
unfolding each
sorted_same shared s [] = refl
sorted_same shared s (array x n ∷ ds) =
    same_after (declare shared s (array x n)) (λ u. each (declare shared) u (sorted ds))
    (λ u. each (declare shared) u ds) (λ u. sorted_same shared u ds)
sorted_same shared s (table t ∷ ds) =
    sym (past_arrays shared s (plain_table t) ds (tables_of ds))
    ∙ ap (λ r. and_then r (λ u. each (declare shared) u (sorted ds))) (plain_same shared s t)
    ∙ same_after (declare shared s (table t)) (λ u. each (declare shared) u (sorted ds))
    (λ u. each (declare shared) u ds) (λ u. sorted_same shared u ds)
