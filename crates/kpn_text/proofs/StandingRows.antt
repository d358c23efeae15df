-- Rows one after another, each with a cell at least: the place of a row gives its name back.
use Rattle.kpn_text.proofs.Common.{◌≡◌, ℕ, zero, suc, ◌+◌, ◌<◌, ◌≤◌, true, false, cond, List, [], ◌∷◌, ◌++◌, length, map, Option, Some, None, Ok, refl, sym, ap, subst, ◌∙◌, arith, nat_eq, nat_tests, get_or-map, length-map, NameBytes, Row, NameScope, known, number_of, or_unknown, name_at, paired, named_row, process_names_in, within_64_bits, row_at, behind_arrays, row_of, array_row, table_row, row_name_or, ok_is, went, known_named}
use Rattle.kpn_text_names.specs.Scope as scope
use Rattle.kpn_text.proofs.NamedBodies.{RowsAgree}

-- ---- rows from one place to another

-- as they are laid, as far as 64 bits can hold their places
abbrev pub Follow : ℕ → List Row → ℕ → Type 0
Follow p [] e = p ≡ e
Follow p (r ∷ rs) e = (r.base ≡ p) × (1 ≤ r.size) × Follow (within_64_bits (p + r.size)) rs e

-- the same if 64 bits can hold them
abbrev pub Stand : ℕ → List Row → ℕ → Type 0
Stand p [] e = p ≡ e
Stand p (r ∷ rs) e = (r.base ≡ p) × (1 ≤ r.size) × Stand (p + r.size) rs e

-- a row more at the end
pub follow_more : (p : ℕ) (rs : List Row) (e n : ℕ) → 1 ≤ n → Follow p rs e
    → Follow p (rs ++ record { base = e; size = n } ∷ []) (within_64_bits (e + n))
follow_more p [] e n some h = (sym h, some, ap (λ q. within_64_bits (q + n)) h)
follow_more p (r ∷ rs) e n some h =
    (h.0, h.1, follow_more (within_64_bits (p + r.size)) rs e n some h.2)

follow_on : (p : ℕ) (rs : List Row) (e : ℕ) → p ≤ 18446744073709551615 → Follow p rs e → p ≤ e
follow_on p [] e small h = omega (arith, h)
follow_on p (r ∷ rs) e small h =
    let next : within_64_bits (p + r.size) ≤ 18446744073709551615 = omega arith in
    let rest : within_64_bits (p + r.size) ≤ e = follow_on (within_64_bits (p + r.size)) rs e next h.2 in
    let on : p ≤ within_64_bits (p + r.size) = omega arith in
    omega (arith, rest, on)

pub follow_stand : (p : ℕ) (rs : List Row) (e : ℕ) → e < 18446744073709551615 → Follow p rs e → Stand p rs e
follow_stand p [] e small h = h
follow_stand p (r ∷ rs) e small h =
    let bound : within_64_bits (p + r.size) ≤ 18446744073709551615 = omega arith in
    let rest : within_64_bits (p + r.size) ≤ e = follow_on (within_64_bits (p + r.size)) rs e bound h.2 in
    let next : within_64_bits (p + r.size) ≡ p + r.size = omega (arith, rest, small) in
    (h.0, h.1, subst (λ q. Stand q rs e) next (follow_stand (within_64_bits (p + r.size)) rs e small h.2))

stand_on : (p : ℕ) (rs : List Row) (e : ℕ) → Stand p rs e → p ≤ e
stand_on p [] e h = omega (arith, h)
stand_on p (r ∷ rs) e h = let rest : p + r.size ≤ e = stand_on (p + r.size) rs e h.2 in omega (arith, rest)

-- a row is at the first place or after it
at_or_behind : (p : ℕ) (rs : List Row) (e k : ℕ) → Stand p rs e → k < length rs → p ≤ (row_at rs k).base
at_or_behind p [] e k h here = absurd (omega (arith, here))
at_or_behind p (r ∷ rs) e zero h here = let is : r.base ≡ p = h.0 in omega (arith, is)
at_or_behind p (r ∷ rs) e (suc k) h here =
    let inside : k < length rs = omega (arith, here) in
    let rest : p + r.size ≤ (row_at rs k).base = at_or_behind (p + r.size) rs e k h.2 inside in
    omega (arith, rest)

-- ---- their names

not_at : (a b : ℕ) → a < b → nat_eq a b ≡ false
not_at a b h = grind (arith, nat_tests, h)

at_itself : (a : ℕ) → nat_eq a a ≡ true
at_itself a = grind (arith, nat_tests)

found : (xs : List NameBytes) (rs : List Row) (p e k : ℕ) (z : NameBytes) → Stand p rs e → length xs ≡ length rs
    → k < length xs → row_name_or (paired named_row xs rs) (row_at rs k).base z ≡ name_at xs k
found [] rs p e k z h same here = absurd (omega (arith, here))
found (x ∷ xs) [] p e k z h same here = absurd (omega (arith, same))
found (x ∷ xs) (r ∷ rs) p e zero z h same here =
    ap (λ b. cond b x (row_name_or (paired named_row xs rs) r.base z)) (at_itself r.base)
found (x ∷ xs) (r ∷ rs) p e (suc k) z h same here =
    let inside : k < length xs = omega (arith, here) in
    let alike : length xs ≡ length rs = omega (arith, same) in
    let there : k < length rs = omega (arith, inside, alike) in
    let behind : p + r.size ≤ (row_at rs k).base = at_or_behind (p + r.size) rs e k h.2 there in
    let first : r.base ≡ p = h.0 in
    let some : 1 ≤ r.size = h.1 in
    let before : r.base < (row_at rs k).base = omega (arith, behind, first, some) in
    ap (λ b. cond b x (row_name_or (paired named_row xs rs) (row_at rs k).base z)) (not_at r.base (row_at rs k).base before)
    ∙ found xs rs (p + r.size) e k z h.2 alike inside

missed : (xs : List NameBytes) (rs : List Row) (p e b : ℕ) (z : NameBytes) → Stand p rs e → e ≤ b
    → row_name_or (paired named_row xs rs) b z ≡ z
missed [] rs p e b z h behind = refl
missed (x ∷ xs) [] p e b z h behind = refl
missed (x ∷ xs) (r ∷ rs) p e b z h behind =
    let on : p + r.size ≤ e = stand_on (p + r.size) rs e h.2 in
    let first : r.base ≡ p = h.0 in
    let some : 1 ≤ r.size = h.1 in
    let before : r.base < b = omega (arith, behind, first, some, on) in
    ap (λ c. cond c x (row_name_or (paired named_row xs rs) b z)) (not_at r.base b before)
    ∙ missed xs rs (p + r.size) e b z h.2 behind

-- ---- rows moved after others

abbrev pub moved : ℕ → Row → Row
moved from r = record { base = within_64_bits (from + r.base); size = r.size }

stand_moved : (from p : ℕ) (rs : List Row) (e : ℕ) → from + e < 18446744073709551615 → Stand p rs e
    → Stand (from + p) (map (moved from) rs) (from + e)
stand_moved from p [] e small h = ap (λ q. from + q) h
stand_moved from p (r ∷ rs) e small h =
    let on : p + r.size ≤ e = stand_on (p + r.size) rs e h.2 in
    let first : r.base ≡ p = h.0 in
    let base : within_64_bits (from + r.base) ≡ from + p = omega (arith, on, first, small) in
    let next : from + (p + r.size) ≡ (from + p) + r.size = omega arith in (
      base,
      h.1,
      subst (λ q. Stand q (map (moved from) rs) (from + e)) next (stand_moved from (p + r.size) rs e small h.2),
    )

-- ---- the rows of a scope

-- arrays and then tables, and no more of them than 64 bits can hold
pub record Standing (s : NameScope) : Type 0 where
  pub arrays_named : length s.arrays.names ≡ length s.arrays.rows
  pub arrays : Follow 64 s.arrays.rows s.arrays.end
  pub tables_named : length s.tables.rows.names ≡ length s.tables.rows.rows
  pub tables : Follow 0 s.tables.rows.rows s.tables.rows.end
  pub few : s.arrays.end + s.tables.rows.end < 18446744073709551615

module _ (n : NameBytes) (s : NameScope) (h : Standing s) where
  arrays_stand : Stand 64 s.arrays.rows s.arrays.end
  arrays_stand =
      let all : s.arrays.end + s.tables.rows.end < 18446744073709551615 = h.few in
      let few : s.arrays.end < 18446744073709551615 = omega (arith, all) in
      follow_stand 64 s.arrays.rows s.arrays.end few h.arrays

  tables_stand : Stand 0 s.tables.rows.rows s.tables.rows.end
  tables_stand =
      let all : s.arrays.end + s.tables.rows.end < 18446744073709551615 = h.few in
      let few : s.tables.rows.end < 18446744073709551615 = omega (arith, all) in
      follow_stand 0 s.tables.rows.rows s.tables.rows.end few h.tables

  abbrev base_name : ℕ → NameBytes
  base_name base =
      row_name_or (paired named_row s.arrays.names s.arrays.rows) base
      (row_name_or (paired named_row s.tables.rows.names (map (behind_arrays s) s.tables.rows.rows)) base [])

  array_named_back : (x : NameBytes) (k : ℕ) → known s.arrays.names x ≡ Ok k
      → base_name (row_at s.arrays.rows k).base ≡ x
  array_named_back x k e =
      let is = known_named s.arrays.names x k e in
      found s.arrays.names s.arrays.rows 64 s.arrays.end k
      (row_name_or (paired named_row s.tables.rows.names (map (behind_arrays s) s.tables.rows.rows))
      (row_at s.arrays.rows k).base [])
      arrays_stand h.arrays_named is.here
      ∙ is.name

  table_named_back : (x : NameBytes) (k : ℕ) → known s.tables.rows.names x ≡ Ok k
      → base_name (behind_arrays s (row_at s.tables.rows.rows k)).base ≡ x
  table_named_back x k e =
      let is = known_named s.tables.rows.names x k e in
      let rows : List Row = map (behind_arrays s) s.tables.rows.rows in
      let named : length s.tables.rows.names ≡ length s.tables.rows.rows = h.tables_named in
      let is_here : k < length s.tables.rows.names = is.here in
      let here : k < length s.tables.rows.rows = omega (arith, named, is_here) in
      let stand : Stand (s.arrays.end + 0) rows (s.arrays.end + s.tables.rows.end) =
      stand_moved s.arrays.end 0 s.tables.rows.rows s.tables.rows.end h.few tables_stand in
      let count : length rows ≡ length s.tables.rows.rows = length-map s.tables.rows.rows (behind_arrays s) in
      let inside : k < length rows = omega (arith, count, here) in
      let alike : length s.tables.rows.names ≡ length rows = omega (arith, count, named) in
      let at : row_at rows k ≡ behind_arrays s (row_at s.tables.rows.rows k) =
      get_or-map (behind_arrays s) s.tables.rows.rows k (record { base = 0; size = 0 })
      (record { base = 0; size = 0 }) here in
      let past : s.arrays.end + 0 ≤ (row_at rows k).base =
      at_or_behind (s.arrays.end + 0) rows (s.arrays.end + s.tables.rows.end) k stand inside in
      let behind : s.arrays.end ≤ (row_at rows k).base = omega (arith, past) in
      ap (λ (r : Row). base_name r.base) (sym at)
      ∙ missed s.arrays.names s.arrays.rows 64 s.arrays.end (row_at rows k).base
      (row_name_or (paired named_row s.tables.rows.names rows) (row_at rows k).base []) arrays_stand behind
      ∙ found s.tables.rows.names rows (s.arrays.end + 0) (s.arrays.end + s.tables.rows.end) k [] stand alike is_here
      ∙ is.name

  array_back : (x : NameBytes) (r : Row) → array_row s x ≡ Ok r → base_name r.base ≡ x
  array_back x r e =
      let k = went (known s.arrays.names x) (λ k. Ok (row_at s.arrays.rows k)) r e in
      ap (λ (q : Row). base_name q.base) (sym (ok_is _ r k.rest)) ∙ array_named_back x k.value k.first

  row_back_by : (x : NameBytes) (r : Row) (o : Option ℕ) → number_of s.arrays.names x ≡ o → scope.row_or s x o ≡ Ok r
      → base_name r.base ≡ x
  row_back_by x r (Some k) at e =
      ap (λ (q : Row). base_name q.base) (sym (ok_is (row_at s.arrays.rows k) r e))
      ∙ array_named_back x k (ap (λ o. or_unknown o) at)
  row_back_by x r None at e =
      let k = went (known s.tables.rows.names x) (λ k. Ok (behind_arrays s (row_at s.tables.rows.rows k))) r e in
      ap (λ (q : Row). base_name q.base) (sym (ok_is _ r k.rest)) ∙ table_named_back x k.value k.first

-- the rows of a scope give their names back
pub rows_agree : (n : NameBytes) (s : NameScope) → Standing s → RowsAgree (process_names_in n s) s
rows_agree n s h = record {
  row = λ x r e. row_back_by n s h x r (number_of s.arrays.names x) refl e;
  array = λ x r e. array_back n s h x r e;
}
