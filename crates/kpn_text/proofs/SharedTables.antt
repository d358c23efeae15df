-- Tables and processes as they are printed name what they do in the text.
use Rattle.kpn_text.proofs.Common.{◌≡◌, ℕ, zero, suc, ◌<◌, ◌≤◌, List, [], ◌∷◌, ◌++◌, length, map, Result, Ok, refl, sym, ap, subst, ◌∙◌, append_assoc, append-nil, arith, AllByRecursion, bytes_eq, slice_index_or, length-map, Language, literal_value, Table, ProcessNode, TableIsWithin, and_then, SharedTables, declared, named_program, Programs, with_named_process, programs_of, paired, named_table, table_values, head_scope, declare, no_shared, with_shared, shared_of, table_named, ok_is, went, same_after, declared_is}
use Rattle.std.proofs.lemmas.List.Quantifiers.{position-Some}
use Rattle.kpn_text_names.specs.Fault.{NameError, each}
use Rattle.kpn_text.proofs.NamedItems.{literals_back}
use Rattle.kpn_text.proofs.SortedDeclarations.{plain_table, sorted, sorted_same}
use Rattle.kpn_text.proofs.UsedTables.{AreFilled}

-- ---- steps that do the same

each_same : {S X : Type 0} (step : S → X → Result S NameError) (f : X → X)
    → ((s : S) (x : X) → step s (f x) ≡ step s x) → (s : S) (xs : List X) → each step s (map f xs) ≡ each step s xs
unfolding each
each_same step f same s [] = refl
each_same step f same s (x ∷ xs) =
    ap (λ r. and_then r (λ t. each step t (map f xs))) (same s x)
    ∙ same_after (step s x) (λ t. each step t (map f xs)) (λ t. each step t xs) (λ t. each_same step f same t xs)

-- ---- shared tables

shared_same : (s : SharedTables) (t : Table) → with_shared s (plain_table t) ≡ with_shared s t
shared_same s t =
    ap (λ vs. and_then (declared s.names t.name) (λ names. Ok (record { names = names; values = s.values ++ vs ∷ [] })))
    (literals_back (map literal_value t.values))

pub shared_again : (ts : List Table) → shared_of (map plain_table ts) ≡ shared_of ts
shared_again ts = each_same with_shared plain_table shared_same no_shared ts

-- the names and values that tables add
record Adds (s : SharedTables) (ts : List Table) (t : SharedTables) : Type 0 where
  names : t.names ≡ s.names ++ map (λ u. u.name) ts
  values : t.values ≡ s.values ++ map table_values ts

adds : (s : SharedTables) (ts : List Table) (t : SharedTables) → each with_shared s ts ≡ Ok t → Adds s ts t
unfolding each
adds s [] t e =
    subst (λ u. Adds s [] u) (ok_is s t e)
    (record { names = sym (append-nil s.names); values = sym (append-nil s.values) })
adds s (x ∷ ts) t e =
    let first = went (with_shared s x) (λ u. each with_shared u ts) t e in
    let names = went (declared s.names x.name) _ first.value first.first in
    let is : ◌≡◌ {A = SharedTables} (record { names = names.value; values = s.values ++ table_values x ∷ [] }) first.value =
    ok_is _ _ names.rest in
    let new : s.names ++ x.name ∷ [] ≡ names.value = (declared_is s.names x.name names.value names.first).1 in
    let rest = adds first.value ts t first.rest in
    record {
      names =
          rest.names
          ∙ ap (λ l. l ++ map (λ u. u.name) ts) (ap (λ (u : SharedTables). u.names) (sym is) ∙ sym new)
          ∙ append_assoc s.names (x.name ∷ []) (map (λ u. u.name) ts);
      values =
          rest.values ∙ ap (λ l. l ++ map table_values ts) (ap (λ (u : SharedTables). u.values) (sym is))
          ∙ append_assoc s.values (table_values x ∷ []) (map table_values ts);
    }

tables_shown : (ts : List Table)
    → map table_named (paired named_table (map (λ t. t.name) ts) (map table_values ts)) ≡ map plain_table ts
tables_shown [] = refl
tables_shown (t ∷ ts) = ap (λ l. plain_table t ∷ l) (tables_shown ts)

-- they are printed with plain values
pub shared_back : (ts : List Table) (s : SharedTables) → shared_of ts ≡ Ok s
    → map table_named (paired named_table s.names s.values) ≡ map plain_table ts
shared_back ts s e =
    let a = adds no_shared ts s e in
    (λ i. map table_named (paired named_table (a.names i) (a.values i))) ∙ tables_shown ts

filled_at : (ts : List Table) (k : ℕ) → AllByRecursion TableIsWithin ts → k < length ts
    → 1 ≤ length (slice_index_or (map table_values ts) k [])
filled_at [] k within here = absurd (omega (arith, here))
filled_at (t ∷ ts) zero within here =
    let some : 0 < length t.values = within.0 in
    omega (arith, some, length-map t.values literal_value)
filled_at (t ∷ ts) (suc k) within here =
    let inside : k < length ts = omega (arith, here) in
    filled_at ts k within.1 inside

-- each has a value
pub shared_filled : (ts : List Table) (s : SharedTables) → AllByRecursion TableIsWithin ts → shared_of ts ≡ Ok s
    → AreFilled s
shared_filled ts s within e x k at =
    let a = adds no_shared ts s e in
    let here : k < length s.names = (position-Some (bytes_eq x) s.names k [] at).0 in
    let count : length s.names ≡ length ts = ap length a.names ∙ length-map ts (λ t. t.name) in
    let inside : k < length ts = omega (arith, here, count) in
    subst (λ l. 1 ≤ length (slice_index_or l k [])) (sym a.values) (filled_at ts k within inside)

-- ---- processes

-- a process with its declarations as they are printed
abbrev pub sorted_process : ProcessNode → ProcessNode
sorted_process p = record p { declarations = sorted p.declarations }

-- a step in the middle that does the same
middle_same : {A B C E : Type 0} (r : Result A E) (f g : A → Result B E) (k : A → B → Result C E)
    → ((x : A) → f x ≡ g x) → and_then r (λ x. and_then (f x) (k x)) ≡ and_then r (λ x. and_then (g x) (k x))
middle_same r f g k same =
    same_after r (λ x. and_then (f x) (k x)) (λ x. and_then (g x) (k x)) (λ x. ap (λ q. and_then q (k x)) (same x))

program_same : (l : Language) (shared : SharedTables) (p : ProcessNode) → named_program l shared (sorted_process p) ≡ named_program l shared p
program_same l shared p =
    middle_same (head_scope shared.names p) (λ h. each (declare shared.names) h (sorted p.declarations))
    (λ h. each (declare shared.names) h p.declarations) _ (λ h. sorted_same shared.names h p.declarations)

process_same : (l : Language) (shared : SharedTables) (s : Programs) (p : ProcessNode)
    → with_named_process l shared s (sorted_process p) ≡ with_named_process l shared s p
process_same l shared s p =
    ap (λ r. and_then (declared s.names p.name)
    (λ names. and_then r (λ made. Ok (record { names = names; programs = s.programs ++ made ∷ [] }))))
    (program_same l shared p)

pub processes_again : (l : Language) (shared : SharedTables) (ps : List ProcessNode)
    → programs_of l shared (map sorted_process ps) ≡ programs_of l shared ps
processes_again l shared ps =
    each_same (with_named_process l shared) sorted_process (process_same l shared) (record { names = []; programs = [] }) ps
