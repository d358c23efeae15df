-- Texts that are printed one after the other.
use Rattle.std.proofs.Common.{◌≡◌, ℕ, ℤ, pos, negsuc, suc, ◌+◌, ◌-◌, ◌<◌, false, List, [], ◌∷◌, ◌++◌, length, get_or, drop, map, nat_lt, Some, Result, Ok, Err, codes, OnOk, refl, ap, ◌∙◌, arith}
use Rattle.kpn_text.proofs.Common.{signed_decimal, ◌==◌, cond-true, lt-ltb, drop_more, MAX_CAPACITY, Language, number_named, literal_named, limit_named, all_text, further_text, indented, list_text, names_text, outs_text, term_text, literal_text, values_text, Writes}

-- one text and then another
pub prints_then : (a b c : List ℕ) (f g : List ℕ → List ℕ) → Writes a b f → Writes b c g
    → Writes a c (λ more. f (g more))
prints_then a b c f g h k more = k more ∙ h (g more)

-- the same text in other words
pub prints_same : (a b : List ℕ) (f g : List ℕ → List ℕ) → ((more : List ℕ) → f more ≡ g more) → Writes a b f
    → Writes a b g
prints_same a b f g same h more = h more ∙ ap (λ l. a ++ l) (same more)

-- the same of the answer of a call
module _ {X E : Type 0} where
  pub then_prints : (r : Result X E) (a b c : List ℕ) (f g : List ℕ → List ℕ) → Writes a b f → OnOk r (Writes b c g)
      → OnOk r (Writes a c (λ more. f (g more)))
  then_prints (Ok x) a b c f g h k = prints_then a b c f g h k
  then_prints (Err e) a b c f g h k = tt

  pub same_prints : (r : Result X E) (a b : List ℕ) (f g : List ℕ → List ℕ) → ((more : List ℕ) → f more ≡ g more)
      → OnOk r (Writes a b f) → OnOk r (Writes a b g)
  same_prints (Ok x) a b f g same h = prints_same a b f g same h
  same_prints (Err e) a b f g same h = tt

-- a level more
pub indented_more : (a now next : List ℕ) (level step : ℕ) → step < level
    → ((more : List ℕ) → now ++ indented (level - step) more ≡ a ++ indented level more)
    → Writes now next (λ more. codes "  " ++ more)
    → (more : List ℕ) → next ++ indented (level - (step + 1)) more ≡ a ++ indented level more
indented_more a now next level step below so_far put more =
    let left : level - step ≡ suc (level - (step + 1)) = omega arith in
    put (indented (level - (step + 1)) more) ∙ (rw left at (so_far more))

-- a whole number as an expression, and as a value
pub number_text : (l : Language) (tight : ℕ) (z : ℤ) (more : List ℕ)
    → signed_decimal z ++ more ≡ term_text l tight (number_named z) more
number_text l tight (pos n) more = refl
number_text l tight (negsuc n) more = refl

pub value_text : (z : ℤ) (more : List ℕ) → signed_decimal z ++ more ≡ literal_text (literal_named z) more
value_text (pos n) more = refl
value_text (negsuc n) more = refl

-- lines in front of other lines
pub all_text-append : {A : Type 0} (text : A → List ℕ → List ℕ) (xs ys : List A) (more : List ℕ)
    → all_text text (xs ++ ys) more ≡ all_text text xs (all_text text ys more)
all_text-append text [] ys more = refl
all_text-append text (x ∷ xs) ys more = ap (text x) (all_text-append text xs ys more)

-- the limit is written, or not
pub limit_written : (n : ℕ) → n < MAX_CAPACITY → limit_named n ≡ Some n
limit_written n small = cond-true (nat_lt n MAX_CAPACITY) _ _ (lt-ltb n MAX_CAPACITY small)

-- some names, after a space
pub some_outs : {A : Type 0} (name : A → List ℕ) (xs : List A) → false ≡ (length xs == 0) → (more : List ℕ)
    → codes " " ++ names_text (map name xs) more ≡ outs_text (map name xs) more
some_outs name [] some more = absurd cc
some_outs name (x ∷ xs) some more = refl

-- some values, after a semicolon
pub some_values : (vs : List ℤ) → false ≡ (length vs == 0) → (more : List ℕ)
    → codes "; " ++ list_text literal_text (map literal_named vs) more ≡ values_text (map literal_named vs) more
some_values [] some more = absurd cc
some_values (v ∷ vs) some more = refl

-- an item more of a list that is joined by commas
pub joined_more : {A B : Type 0} (f : A → B) (text : B → List ℕ → List ℕ) (xs : List A) (i : ℕ) (d : A)
    → i < length xs → (a now between next : List ℕ)
    → ((more : List ℕ)
    → now ++ all_text (further_text text) (map f (drop i xs)) more
    ≡ a ++ all_text (further_text text) (map f xs) more)
    → Writes now between (λ more. codes ", " ++ more) → Writes between next (text (f (get_or xs i d)))
    → (more : List ℕ)
    → next ++ all_text (further_text text) (map f (drop (i + 1) xs)) more
    ≡ a ++ all_text (further_text text) (map f xs) more
joined_more f text xs i d within a now between next so_far comma item more =
    let rest = all_text (further_text text) (map f (drop (i + 1) xs)) more in
    item rest ∙ comma (text (f (get_or xs i d)) rest) ∙ (rw (drop_more xs i d within) at (so_far more))

-- five texts
pub then_five : {X E : Type 0} (r : Result X E) (a b c d e z : List ℕ) (f g h k l : List ℕ → List ℕ) → Writes a b f
    → Writes b c g → Writes c d h → Writes d e k → OnOk r (Writes e z l)
    → OnOk r (Writes a z (λ more. f (g (h (k (l more))))))
then_five r a b c d e z f g h k l p1 p2 p3 p4 p5 =
    then_prints r a b z f _ p1
    (then_prints r b c z g _ p2 (then_prints r c d z h _ p3 (then_prints r d e z k l p4 p5)))
