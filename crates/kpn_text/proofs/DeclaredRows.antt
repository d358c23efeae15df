-- The arrays and the tables that declarations make, and what they are printed as.
use Rattle.kpn_text.proofs.Common.{◌≡◌, ℕ, ◌+◌, ◌≤◌, ◌||◌, ℤ, Bool, true, false, List, [], ◌∷◌, ◌++◌, length, map, Ok, refl, sym, ap, subst, ◌∙◌, append_assoc, append-nil, length-append, arith, AllByRecursion, map-append, length-map, take_at, drop_at, NameBytes, literal_value, Table, Declaration, array, table, DeclarationIsWithin, NamedRow, NameScope, has, paired, named_row, within_64_bits, with_row, is_taken, is_row, is_port, table_values, with_declaration, declare, literal_named, array_named, tables_named, ok_is, went, if_not, with_name_new}
use Rattle.kpn_text_names.specs.declared.rows.Rows.{Rows}
use Rattle.kpn_text_names.specs.Fault.{each}
use Rattle.kpn_text.proofs.SortedDeclarations.{plain_table, arrays_of, tables_of}
use Rattle.kpn_text.proofs.StandingRows.{Follow, follow_more}

-- ---- lists side by side

pub paired-append : {A B C : Type 0} (f : A → B → C) (xs us : List A) (ys vs : List B) → length xs ≡ length ys
    → paired f (xs ++ us) (ys ++ vs) ≡ paired f xs ys ++ paired f us vs
paired-append f [] us [] vs same = refl
paired-append f [] us (y ∷ ys) vs same = absurd (omega (arith, same))
paired-append f (x ∷ xs) us [] vs same = absurd (omega (arith, same))
paired-append f (x ∷ xs) us (y ∷ ys) vs same =
    let rest : length xs ≡ length ys = omega (arith, same) in
    ap (λ l. f x y ∷ l) (paired-append f xs us ys vs rest)

-- ---- rows

-- as many names as rows, from one place on
pub record Laid (from : ℕ) (r : Rows) : Type 0 where
  pub named : length r.names ≡ length r.rows
  pub rows : Follow from r.rows r.end

abbrev pub rows_of : Rows → List NamedRow
rows_of r = paired named_row r.names r.rows

abbrev row_behind : Rows → NameBytes → ℕ → Rows
row_behind r x n = record {
  names = r.names ++ x ∷ [];
  rows = r.rows ++ record { base = r.end; size = n } ∷ [];
  end = within_64_bits (r.end + n);
}

with_new_row : (r : Rows) (x : NameBytes) (n : ℕ) → has r.names x ≡ false → with_row r x n ≡ row_behind r x n
with_new_row r x n new = λ i. record {
  names = with_name_new r.names x new i;
  rows = r.rows ++ record { base = r.end; size = n } ∷ [];
  end = within_64_bits (r.end + n);
}

one_more : {A B : Type 0} (xs : List A) (ys : List B) (x : A) (y : B) → length xs ≡ length ys
    → length (xs ++ x ∷ []) ≡ length (ys ++ y ∷ [])
one_more xs ys x y same = omega (arith, same, length-append xs (x ∷ []), length-append ys (y ∷ []))

pub laid_more : (from : ℕ) (r : Rows) (x : NameBytes) (n : ℕ) → has r.names x ≡ false → 1 ≤ n → Laid from r
    → Laid from (with_row r x n)
laid_more from r x n new some h =
    subst (λ q. Laid from q) (sym (with_new_row r x n new))
    (record {
      named = one_more r.names r.rows x (record { base = r.end; size = n }) h.named;
      rows = follow_more from r.rows r.end n some h.rows;
    })

pub rows_more : (from : ℕ) (r : Rows) (x : NameBytes) (n : ℕ) → has r.names x ≡ false → Laid from r
    → rows_of (with_row r x n) ≡ rows_of r ++ record { name = x; base = r.end; size = n } ∷ []
rows_more from r x n new h =
    ap (λ q. rows_of q) (with_new_row r x n new)
    ∙ paired-append named_row r.names (x ∷ []) r.rows (record { base = r.end; size = n } ∷ []) h.named

-- ---- a scope whose declarations are printed as these

pub record Declares (s : NameScope) (arrays tables : List Declaration) : Type 0 where
  pub arrays_laid : Laid 64 s.arrays
  pub arrays_named : map array_named (rows_of s.arrays) ≡ arrays
  pub tables_laid : Laid 0 s.tables.rows
  pub tables_end : s.tables.rows.end ≡ within_64_bits (length s.tables.values)
  pub tables_are : (more : List NamedRow) (values : List ℤ)
      → tables_named (rows_of s.tables.rows ++ more) (s.tables.values ++ values)
      ≡ tables ++ tables_named more values
  pub unused : s.tables.used ≡ []

array_more : (s : NameScope) (arrays tables : List Declaration) (x : NameBytes) (n : ℕ) → has s.arrays.names x ≡ false
    → 1 ≤ n → Declares s arrays tables
    → Declares (with_declaration s (array x n)) (arrays ++ array x n ∷ []) tables
array_more s arrays tables x n new some h = record {
  arrays_laid = laid_more 64 s.arrays x n new some h.arrays_laid;
  arrays_named =
      ap (λ l. map array_named l) (rows_more 64 s.arrays x n new h.arrays_laid)
      ∙ map-append array_named (rows_of s.arrays) (record { name = x; base = s.arrays.end; size = n } ∷ [])
      ∙ ap (λ l. l ++ array x n ∷ []) h.arrays_named;
  tables_laid = h.tables_laid;
  tables_end = h.tables_end;
  tables_are = h.tables_are;
  unused = h.unused;
}

pub end_more : (e m n : ℕ) → e ≡ within_64_bits m → within_64_bits (e + n) ≡ within_64_bits (m + n)
end_more e m n h = omega (arith, h)

table_more : (s : NameScope) (arrays tables : List Declaration) (t : Table) → has s.tables.rows.names t.name ≡ false
    → 1 ≤ length t.values → Declares s arrays tables
    → Declares (with_declaration s (table t)) arrays (tables ++ table (plain_table t) ∷ [])
table_more s arrays tables t new some h =
    let n : ℕ = length t.values in
    let own : List ℤ = table_values t in
    let row : NamedRow = record { name = t.name; base = s.tables.rows.end; size = n } in
    let count : length own ≡ n = length-map t.values literal_value in
    let long : length (s.tables.values ++ own) ≡ length s.tables.values + n =
    length-append s.tables.values own ∙ ap (λ m. length s.tables.values + m) count in
    record {
      arrays_laid = h.arrays_laid;
      arrays_named = h.arrays_named;
      tables_laid = laid_more 0 s.tables.rows t.name n new some h.tables_laid;
      tables_end =
          end_more s.tables.rows.end (length s.tables.values) n h.tables_end
          ∙ ap (λ m. within_64_bits m) (sym long);
      tables_are =
          λ more values.
          ap (λ l. tables_named (l ++ more) ((s.tables.values ++ own) ++ values))
          (rows_more 0 s.tables.rows t.name n new h.tables_laid)
          ∙ (λ i. tables_named (append_assoc (rows_of s.tables.rows) (row ∷ []) more i)
          (append_assoc s.tables.values own values i))
          ∙ h.tables_are (row ∷ more) (own ++ values)
          ∙ (λ i. tables
          ++ table (record { name = t.name; values = map literal_named (take_at own values n count i) })
          ∷ tables_named more (drop_at own values n count i))
          ∙ sym (append_assoc tables (table (plain_table t) ∷ []) (tables_named more values));
      unused = h.unused;
    }

-- ---- what is not taken is new

pub or_parts : (a b : Bool) → (a || b) ≡ false → (a ≡ false) × (b ≡ false)
or_parts true b h = absurd cc
or_parts false b h = (refl, h)

record IsNew (shared : List NameBytes) (s : NameScope) (x : NameBytes) : Type 0 where
  no_array : has s.arrays.names x ≡ false
  no_table : has s.tables.rows.names x ≡ false

is_new : (shared : List NameBytes) (s : NameScope) (x : NameBytes) → is_taken shared s x ≡ false → IsNew shared s x
is_new shared s x h =
    let row = or_parts (is_row shared s x) (is_port s x || has s.vars x) h in
    let own = or_parts (has shared x) (has s.arrays.names x || has s.tables.rows.names x) row.0 in
    let both = or_parts (has s.arrays.names x) (has s.tables.rows.names x) own.1 in
    record { no_array = both.0; no_table = both.1 }

-- ---- one declaration after the other

one_declared : (shared : List NameBytes) (s t : NameScope) (d : Declaration) (arrays tables : List Declaration)
    → DeclarationIsWithin d → declare shared s d ≡ Ok t → Declares s arrays tables
    → Declares t (arrays ++ arrays_of (d ∷ [])) (tables ++ tables_of (d ∷ []))
one_declared shared s t (array x n) arrays tables within e h =
    let is = if_not (is_taken shared s x) (with_declaration s (array x n)) t e in
    let new = is_new shared s x is.0 in
    subst (λ l. Declares t (arrays ++ array x n ∷ []) l) (sym (append-nil tables))
    (subst (λ u. Declares u (arrays ++ array x n ∷ []) tables) is.1
    (array_more s arrays tables x n new.no_array within h))
one_declared shared s t (table u) arrays tables within e h =
    let is = if_not (is_taken shared s u.name) (with_declaration s (table u)) t e in
    let new = is_new shared s u.name is.0 in
    subst (λ l. Declares t l (tables ++ table (plain_table u) ∷ [])) (sym (append-nil arrays))
    (subst (λ v. Declares v arrays (tables ++ table (plain_table u) ∷ [])) is.1
    (table_more s arrays tables u new.no_table within h))

arrays_first : (d : Declaration) (ds : List Declaration) → arrays_of (d ∷ []) ++ arrays_of ds ≡ arrays_of (d ∷ ds)
arrays_first (array x n) ds = refl
arrays_first (table t) ds = refl

tables_first : (d : Declaration) (ds : List Declaration) → tables_of (d ∷ []) ++ tables_of ds ≡ tables_of (d ∷ ds)
tables_first (array x n) ds = refl
tables_first (table t) ds = refl

pub all_declared : (shared : List NameBytes) (s t : NameScope) (ds arrays tables : List Declaration)
    → AllByRecursion DeclarationIsWithin ds → each (declare shared) s ds ≡ Ok t → Declares s arrays tables
    → Declares t (arrays ++ arrays_of ds) (tables ++ tables_of ds)
unfolding each
all_declared shared s t [] arrays tables within e h =
    subst (λ u. Declares u (arrays ++ []) (tables ++ [])) (ok_is s t e)
    (subst (λ l. Declares s l (tables ++ [])) (sym (append-nil arrays))
    (subst (λ l. Declares s arrays l) (sym (append-nil tables)) h))
all_declared shared s t (d ∷ ds) arrays tables within e h =
    let first = went (declare shared s d) (λ u. each (declare shared) u ds) t e in
    let one = one_declared shared s first.value d arrays tables within.0 first.first h in
    let all = all_declared shared first.value t ds (arrays ++ arrays_of (d ∷ [])) (tables ++ tables_of (d ∷ []))
    within.1 first.rest one in
    let same_arrays : (arrays ++ arrays_of (d ∷ [])) ++ arrays_of ds ≡ arrays ++ arrays_of (d ∷ ds) =
    append_assoc arrays (arrays_of (d ∷ [])) (arrays_of ds) ∙ ap (λ l. arrays ++ l) (arrays_first d ds) in
    let same_tables : (tables ++ tables_of (d ∷ [])) ++ tables_of ds ≡ tables ++ tables_of (d ∷ ds) =
    append_assoc tables (tables_of (d ∷ [])) (tables_of ds) ∙ ap (λ l. tables ++ l) (tables_first d ds) in
    subst (λ l. Declares t (arrays ++ arrays_of (d ∷ ds)) l) same_tables
    (subst (λ l. Declares t l ((tables ++ tables_of (d ∷ [])) ++ tables_of ds)) same_arrays all)
