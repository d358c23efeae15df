-- A round of a loop that reads one thing after another: what was read before comes before what is still read.
use Rattle.kpn_text_grammar.proofs.Common.{◌≡◌, ℕ, zero, suc, ◌+◌, ◌-◌, ◌<◌, ◌≤◌, Bool, true, false, List, [], ◌∷◌, ◌++◌, length, drop, map, Ok, Err, refl, sym, ap, ◌∙◌, append_assoc, arith, length-drop, append-nil, map-append, length-append, Lexeme, Token, GrammarFault}
use Rattle.kpn_text_grammar.specs.declared.fault.GrammarFault.TheVariants as fault
use Rattle.kpn_text_tokens.specs.Results.{and_then}
use Rattle.kpn_text_grammar.specs.Reading.{Read, ReadingFails, first_is, many}

-- what was read before, and what is still read
abbrev pub with_front : {A : Type 0} → List A → Read (List A) → Read (List A)
with_front front read = and_then read (λ x. Ok (front ++ x.0, x.1))

regroup : {A : Type 0} (front : List A) (x : A) (read : Read (List A))
    → with_front front (and_then read (λ xs. Ok (x ∷ xs.0, xs.1))) ≡ with_front (front ++ x ∷ []) read
unfolding and_then
regroup {A} front x (Ok xs) = ap (λ (ys : List A). Ok (ys, xs.1)) (sym (append_assoc front (x ∷ []) xs.0))
regroup front x (Err f) = refl

-- How far a loop is: the things read so far come before those from number i on, of which there are at most n. Together
-- they are all of them.
pub record StandsAt {A : Type 0} (goes : Token → Bool) (one : ℕ → List Lexeme → Read A) (front : List A) (i : ℕ)
    (ls : List Lexeme) (total : Read (List A)) : Type 0 where
  pub most : ℕ
  pub room : length ls ≤ most
  pub whole : with_front front (many goes one i most ls) ≡ total

module _ {A : Type 0} (goes : Token → Bool) (one : ℕ → List Lexeme → Read A) where
  one_round : (front : List A) (i n : ℕ) (ls : List Lexeme) (x : A) (rest : List Lexeme) → first_is goes ls ≡ true
      → one i ls ≡ Ok (x, rest) → with_front front (many goes one i (suc n) ls) ≡ with_front front
      (and_then (many goes one (i + 1) n rest) (λ xs. Ok (x ∷ xs.0, xs.1)))
  unfolding many and_then
  one_round front i n ls x rest goes_so read = rw (goes_so, read) refl

  further_on : (front : List A) (i n : ℕ) (ls : List Lexeme) (x : A) (rest : List Lexeme) (total : Read (List A))
      → length ls ≤ n → first_is goes ls ≡ true → one i ls ≡ Ok (x, rest) → length rest < length ls
      → with_front front (many goes one i n ls) ≡ total → StandsAt goes one (front ++ x ∷ []) (i + 1) rest total
  further_on front i n [] x rest total room goes_so read less so_far = absurd cc
  further_on front i zero (l ∷ ls) x rest total room goes_so read less so_far = absurd (omega arith)
  further_on front i (suc n) (l ∷ ls) x rest total room goes_so read less so_far =
      record {
        most = n;
        room = omega arith;
        whole = sym (regroup front x (many goes one (i + 1) n rest))
            ∙ sym (one_round front i n (l ∷ ls) x rest goes_so read) ∙ so_far;
      }

  pub goes_further : (front : List A) (i : ℕ) (ls : List Lexeme) (x : A) (rest : List Lexeme) (total : Read (List A))
      → StandsAt goes one front i ls total → first_is goes ls ≡ true → one i ls ≡ Ok (x, rest) → length rest < length ls
      → StandsAt goes one (front ++ x ∷ []) (i + 1) rest total
  goes_further front i ls x rest total stands goes_so read less =
      further_on front i stands.most ls x rest total stands.room goes_so read less stands.whole

  stop : (front : List A) (i n : ℕ) (ls : List Lexeme) → first_is goes ls ≡ false
      → with_front front (many goes one i n ls) ≡ Ok (front, ls)
  unfolding many and_then
  stop front i zero ls ends = ap (λ (ys : List A). Ok (ys, ls)) (append-nil front)
  stop front i (suc n) ls ends = rw ends (ap (λ (ys : List A). Ok (ys, ls)) (append-nil front))

  fail : (e : GrammarFault) (front : List A) (i n : ℕ) (ls : List Lexeme) (total : Read (List A)) → length ls ≤ n
      → first_is goes ls ≡ true → ReadingFails e (one i ls) → with_front front (many goes one i n ls) ≡ total → ReadingFails e total
  unfolding many and_then
  fail e front i n [] total room goes_so failed so_far = absurd cc
  fail e front i zero (l ∷ ls) total room goes_so failed so_far = absurd (omega arith)
  fail fault.NoMemory front i (suc n) (l ∷ ls) total room goes_so failed so_far = tt
  fail (fault.Grammar at) front i (suc n) (l ∷ ls) total room goes_so failed so_far =
      let one : with_front front (many goes one i (suc n) (l ∷ ls)) ≡ Err (fault.Grammar at) =
      rw (goes_so, failed) refl in
      sym so_far ∙ one
  fail (fault.TooDeep p) front i (suc n) (l ∷ ls) total room goes_so failed so_far =
      let one : with_front front (many goes one i (suc n) (l ∷ ls)) ≡ Err (fault.TooDeep p) =
      rw (goes_so, failed) refl in
      sym so_far ∙ one

  -- before the first round
  start : (n : ℕ) (ls : List Lexeme) (read : Read (List A)) → with_front [] read ≡ read
  unfolding and_then
  start n ls (Ok xs) = refl
  start n ls (Err e) = refl

  pub begins_here : (i : ℕ) (ls : List Lexeme) → StandsAt goes one [] i ls (many goes one i (length ls) ls)
  begins_here i ls = record {
    most = length ls;
    room = omega arith;
    whole =
        start (length ls) ls (many goes one i (length ls) ls);
  }

module _ {A : Type 0} {goes : Token → Bool} {one : ℕ → List Lexeme → Read A} where
  pub stops_here : {front : List A} {i : ℕ} {ls : List Lexeme} {total : Read (List A)}
      → StandsAt goes one front i ls total → first_is goes ls ≡ false → total ≡ Ok (front, ls)
  stops_here {front} {i} {ls} stands ends = sym stands.whole ∙ stop goes one front i stands.most ls ends

  pub fails_here : (e : GrammarFault) {front : List A} {i : ℕ} {ls : List Lexeme} {total : Read (List A)}
      → StandsAt goes one front i ls total → first_is goes ls ≡ true → ReadingFails e (one i ls) → ReadingFails e total
  fails_here e {front} {i} {ls} {total} stands goes_so failed =
      fail goes one e front i stands.most ls total stands.room goes_so failed stands.whole

-- ---- a loop that keeps what it read in a list, each seen by a view

module _ {A C : Type 0} (view : C → A) {goes : Token → Bool} {one : ℕ → List Lexeme → Read A} where
  -- nothing is read yet
  pub at_first : (found : List C) (ls : List Lexeme) → found ≡ []
      → StandsAt goes one (map view found) (length found) ls (many goes one 0 (length ls) ls)
  at_first found ls e = rw e (begins_here goes one 0 ls)

  -- one more was read and kept
  pub one_more : (old : List C) (x : C) {new : List C} {ls rest : List Lexeme} {total : Read (List A)}
      → StandsAt goes one (map view old) (length old) ls total → first_is goes ls ≡ true
      → one (length old) ls ≡ Ok (view x, rest) → length rest < length ls
      → new ≡ old ++ x ∷ [] → StandsAt goes one (map view new) (length new) rest total
  one_more old x {new} {ls} {rest} {total} stands goes_so read less e =
      let seen : map view (old ++ x ∷ []) ≡ map view old ++ view x ∷ [] = map-append view old (x ∷ []) in
      let more : length (old ++ x ∷ []) ≡ length old + 1 = length-append old (x ∷ []) in
      rw (e, seen, more) (goes_further goes one (map view old) (length old) ls (view x) rest total stands goes_so read less)

-- the place moves on
pub place_moves : (ls : List Lexeme) (p q : ℕ) → length (drop q ls) < length (drop p ls) → length ls - q < length ls - p
place_moves ls p q h = omega (arith, h, length-drop p ls, length-drop q ls)
