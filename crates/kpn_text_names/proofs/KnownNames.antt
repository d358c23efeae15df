-- Tables of names: a known name is at its number, and stays there as the table grows.
use Rattle.kpn_text_names.proofs.Common.{◌≡◌, ℕ, suc, ◌+◌, ◌<◌, Bool, true, false, cond, not, ◌||◌, List, [], ◌∷◌, ◌++◌, length, map, Option, Some, None, Result, Ok, Err, refl, sym, ap, ◌∙◌, append_assoc, append-nil, length-append, arith, list_any, position_or_len, bytes_eq, bytes_decides, get_or_append_left, NameBytes, has, number_of, or_unknown, known, with_number, all_known, declared, with_name, name_at}
use Rattle.std.proofs.lemmas.List.Quantifiers.{position-Some}
use Rattle.kpn_text_names.specs.Fault.{NameError, double, each}
use Rattle.kpn_text_names.proofs.Chains.{ok_is, went}

-- ---- the number of a name

-- the name with this number
pub record IsNamed (table : List NameBytes) (k : ℕ) (x : NameBytes) : Type 0 where
  pub here : k < length table
  pub name : name_at table k ≡ x

pub is_named-append : (table more : List NameBytes) (k : ℕ) (x : NameBytes) → IsNamed table k x → IsNamed (table ++ more) k x
is_named-append table more k x h =
    record {
      here = omega (arith, length-append table more);
      name = get_or_append_left table more [] k h.here
          ∙ h.name;
    }

pub or_known : (o : Option ℕ) (k : ℕ) → or_unknown o ≡ Ok k → o ≡ Some k
or_known (Some j) k e = ap (λ n. Some n) (ok_is j k e)
or_known None k e = absurd (cc)

same_bytes : (x y : NameBytes) → bytes_eq x y ≡ true → y ≡ x
same_bytes x y h = sym ((bytes_decides x y).0 h)

pub known_named : (table : List NameBytes) (x : NameBytes) (k : ℕ) → known table x ≡ Ok k → IsNamed table k x
known_named table x k e =
    let p = position-Some (bytes_eq x) table k [] (or_known (number_of table x) k e) in
    record { here = p.0; name = same_bytes x (name_at table k) p.1 }

-- a name that is put at the end if it is new
first_or_later : (b c : Bool) (y x : NameBytes) (table : List NameBytes) (k : ℕ) → (b ≡ true → y ≡ x)
    → IsNamed (cond c table (table ++ x ∷ [])) k x
    → IsNamed (cond (b || c) (y ∷ table) (y ∷ (table ++ x ∷ []))) (cond (not b) (1 + k) 0) x
first_or_later true c y x table k same rest = record { here = omega arith; name = same refl }
first_or_later false true y x table k same rest =
    let one : 1 + k ≡ suc k = omega arith in
    let here : k < length table = rest.here in
    record { here = omega arith; name = ap (λ n. name_at (y ∷ table) n) one ∙ rest.name }
first_or_later false false y x table k same rest =
    let one : 1 + k ≡ suc k = omega arith in
    let here : k < length (table ++ x ∷ []) = rest.here in
    record { here = omega arith; name = ap (λ n. name_at (y ∷ (table ++ x ∷ [])) n) one ∙ rest.name }

pub target_named : (table : List NameBytes) (x : NameBytes) → IsNamed (with_name table x) (position_or_len (bytes_eq x) table) x
target_named [] x = record { here = omega arith; name = refl }
target_named (y ∷ table) x =
    first_or_later (bytes_eq x y) (list_any (bytes_eq x) table) y x table (position_or_len (bytes_eq x) table)
    (same_bytes x y) (target_named table x)

-- ---- tables that grow

-- a table with more names behind it
pub record Longer (table longer : List NameBytes) : Type 0 where
  pub more : List NameBytes
  pub is : longer ≡ table ++ more

longer_if : (b : Bool) (table : List NameBytes) (x : NameBytes) → Longer table (cond b table (table ++ x ∷ []))
longer_if true table x = record { more = []; is = sym (append-nil table) }
longer_if false table x = record { more = x ∷ []; is = refl }

pub with_name_longer : (table : List NameBytes) (x : NameBytes) → Longer table (with_name table x)
with_name_longer table x = longer_if (has table x) table x

-- what is there only if a test is not passed
pub if_not : {A : Type 0} (b : Bool) (x y : A) → ◌≡◌ {A = Result A NameError} (cond b (Err double) (Ok x)) (Ok y)
    → (b ≡ false) × (x ≡ y)
if_not true x y h = absurd (cc)
if_not false x y h = (refl, ok_is x y h)

-- or only if it is passed
pub if_so : {A : Type 0} (b : Bool) (x y : A) → ◌≡◌ {A = Result A NameError} (cond b (Ok x) (Err double)) (Ok y)
    → (b ≡ true) × (x ≡ y)
if_so true x y h = (refl, ok_is x y h)
if_so false x y h = absurd (cc)

-- a name that was new
pub declared_is : (table : List NameBytes) (x : NameBytes) (names : List NameBytes) → declared table x ≡ Ok names
    → (has table x ≡ false) × (table ++ x ∷ [] ≡ names)
declared_is table x names h = if_not (has table x) (table ++ x ∷ []) names h

pub declared_new : (table : List NameBytes) (x : NameBytes) → has table x ≡ false → declared table x ≡ Ok (table ++ x ∷ [])
declared_new table x new = ap (λ b. cond b (Err double) (Ok (table ++ x ∷ []))) new

pub with_name_new : (table : List NameBytes) (x : NameBytes) → has table x ≡ false → with_name table x ≡ table ++ x ∷ []
with_name_new table x new = ap (λ b. cond b table (table ++ x ∷ [])) new

-- ---- the numbers of several names

record Numbers (table : List NameBytes) (before : List ℕ) (xs : List NameBytes) (ks : List ℕ) : Type 0 where
  more : List ℕ
  is : ks ≡ before ++ more
  names : map (name_at table) more ≡ xs

numbers_of : (table : List NameBytes) (before : List ℕ) (xs : List NameBytes) (ks : List ℕ)
    → each (with_number table) before xs ≡ Ok ks → Numbers table before xs ks
unfolding each
numbers_of table before [] ks e =
    record { more = []; is = sym (ok_is before ks e) ∙ sym (append-nil before); names = refl }
numbers_of table before (x ∷ xs) ks e =
    let first = went (with_number table before x) (λ t. each (with_number table) t xs) ks e in
    let number = went (known table x) (λ k. Ok (before ++ k ∷ [])) first.value first.first in
    let k = number.value in
    let rest = numbers_of table first.value xs ks first.rest in
    let at : before ++ k ∷ [] ≡ first.value = ok_is (before ++ k ∷ []) first.value number.rest in
    let name = known_named table x k number.first in
    record {
      more = k ∷ rest.more;
      is = rest.is ∙ ap (λ l. l ++ rest.more) (sym at) ∙ append_assoc before (k ∷ []) rest.more;
      names = λ i. name.name i ∷ rest.names i;
    }

pub all_known_named : (table : List NameBytes) (xs : List NameBytes) (ks : List ℕ) → all_known table xs ≡ Ok ks
    → map (name_at table) ks ≡ xs
all_known_named table xs ks e =
    let n = numbers_of table [] xs ks e in
    ap (λ l. map (name_at table) l) n.is ∙ n.names
