-- Plain tests, and what follows from a yes of each: all numbers below one, members, and the way from one process to the
-- next that it waits for.
use Rattle.kpn_history.proofs.Common.{nat_eq, Contains, ◌≡◌, ℕ, zero, suc, ◌<◌, ◌+◌, inl, inr, Bool, true, false, ◌&&◌, List, [], ◌∷◌, length, Option, Some, None, refl, sym, ap, subst, ◌∙◌, arith, length-le_from_distinct_below, Contains-from_any, Wait, Tables, wait_at, awaited, WaitInTurn, AreDistinct, Contains-first, Contains-later, Contains-cases, Contains-none, awaited_below}
use Rattle.std.specs.List.{list_any, AllByRecursion, IsDistinct}
use Rattle.std.proofs.lemmas.Map.Keys.{IsDistinct-cons}
use Rattle.std.proofs.lemmas.Bool.{and_parts, and_cases, or_cases, or_parts, or_left, or_right, eqb-false, eqb-true, eq-eqb, ne_eqb, cases_eq, false_from_ne_true}

-- ---- all numbers below one

abbrev pub each_below : (ℕ → Bool) → ℕ → Bool
each_below test zero = true
each_below test (suc n) = test n && each_below test n

pub each_below-at : (test : ℕ → Bool) (n : ℕ) → each_below test n ≡ true → (k : ℕ) → k < n → test k ≡ true
each_below-at test zero e k h = absurd (omega arith)
each_below-at test (suc n) e k h =
    let parts = and_parts _ _ e in
    elim (cases_eq k n) [
      | inl same ↦ subst (λ m. test m ≡ true) (sym same) parts.0
      | inr other ↦ each_below-at test n parts.1 k (omega arith)
    ]

pub record FailsBelow (test : ℕ → Bool) (n : ℕ) : Type 0 where
  pub number : ℕ
  pub below : number < n
  pub fails : test number ≡ false

pub each_below-fails : (test : ℕ → Bool) (n : ℕ) → each_below test n ≡ false → FailsBelow test n
each_below-fails test zero e = absurd cc
each_below-fails test (suc n) e =
    elim (and_cases _ _ e) [
      | inl here ↦ record { number = n; below = omega arith; fails = here }
      | inr earlier ↦
          let at_k = each_below-fails test n earlier in let below = at_k.below in
          record { number = at_k.number; below = omega arith; fails = at_k.fails }
    ]

-- ---- members

abbrev pub member : ℕ → List ℕ → Bool
member x ys = list_any (nat_eq x) ys

pub member-true : (x : ℕ) (ys : List ℕ) → member x ys ≡ true → Contains ys x
member-true = Contains-from_any eqb-true

pub member-from : (x : ℕ) (ys : List ℕ) → Contains ys x → member x ys ≡ true
member-from x [] h = absurd (Contains-none x h)
member-from x (y ∷ ys) h =
    elim (Contains-cases y ys x h) [
      | inl same ↦ or_left _ _ (eq-eqb x y (sym same))
      | inr later ↦ or_right _ _ (member-from x ys later)
    ]

-- ---- the way from a process

-- it comes round to the process over these others, goes off to one that waits for nobody or into another cycle, or was
-- not followed to its end
pub data Way : Type 0 where
  Round : (others : List ℕ) → Way
  Off : Way
  Lost : Way

-- one process more in front of the others
abbrev over : ℕ → Way → Way
over r (Round others) = Round (r ∷ others)
over r Off = Off
over r Lost = Lost

-- the way to r, which is p, or was seen before, or leads on
abbrev turned : (back known : Bool) → ℕ → Way → Way
turned true known r next = Round []
turned false true r next = Off
turned false false r next = over r next

abbrev onward : (p : ℕ) → (seen : List ℕ) → (ℕ → Way) → Option ℕ → Way
onward p seen next None = Off
onward p seen next (Some r) = turned (nat_eq r p) (member r seen) r (next r)

-- the way from q back to p, over at most this many processes
abbrev pub way : Tables → List Wait → (p : ℕ) → (steps : ℕ) → (seen : List ℕ) → (q : ℕ) → Way
way t waits p zero seen q = Lost
way t waits p (suc steps) seen q =
    onward p seen (λ r. way t waits p steps (r ∷ seen) r) (awaited t (wait_at waits q))

-- a way that comes round leads over these others
pub record ComesRound (t : Tables) (waits : List Wait) (p q : ℕ) (others : List ℕ) : Type 0 where
  pub turn : WaitInTurn t waits q others p
  pub absent : ¬ Contains others p

record RoundOver (r : ℕ) (w : Way) (others : List ℕ) : Type 0 where
  rest : List ℕ
  is : r ∷ rest ≡ others
  from : w ≡ Round rest

round_over : (r : ℕ) (w : Way) (others : List ℕ) → over r w ≡ Round others → RoundOver r w others
round_over r (Round found) others e = record { rest = found; is = cc; from = refl }
round_over r Off others e = absurd cc
round_over r Lost others e = absurd cc

module _ (t : Tables) (waits : List Wait) (p : ℕ) where
  round_by : (q : ℕ) (others : List ℕ) (r : ℕ) (next : Way) → awaited t (wait_at waits q) ≡ Some r
      → ((rest : List ℕ) → next ≡ Round rest → ComesRound t waits p r rest) → (back : Bool) → nat_eq r p ≡ back
      → (known : Bool) → turned back known r next ≡ Round others → ComesRound t waits p q others
  round_by q others r next is onwards true here known e =
      let none : [] ≡ others = cc in
      subst (λ xs. ComesRound t waits p q xs) none
      (record { turn = record { awaited = is ∙ ap Some (eqb-true r p here) }; absent = Contains-none p })
  round_by q others r next is onwards false other true e = absurd cc
  round_by q others r next is onwards false other false e =
      let whole = round_over r next others e in
      let rest = onwards whole.rest whole.from in
      subst (λ xs. ComesRound t waits p q xs) whole.is (record {
        turn = (record { awaited = is }, rest.turn);
        absent = λ h. elim (Contains-cases r whole.rest p h) [
          | inl same ↦ eqb-false r p other same
          | inr later ↦ rest.absent later
        ];
      })

  round_from : (seen : List ℕ) (q : ℕ) (others : List ℕ) (next : ℕ → Way)
      → ((r : ℕ) (rest : List ℕ) → next r ≡ Round rest → ComesRound t waits p r rest) → (o : Option ℕ)
      → awaited t (wait_at waits q) ≡ o → onward p seen next o ≡ Round others → ComesRound t waits p q others
  round_from seen q others next onwards None is e = absurd cc
  round_from seen q others next onwards (Some r) is e =
      round_by q others r (next r) is (onwards r) (nat_eq r p) refl (member r seen) e

  -- a process that waits in turn for itself by a way is on a cycle
  pub way-round : (steps : ℕ) (seen : List ℕ) (q : ℕ) (others : List ℕ) → way t waits p steps seen q ≡ Round others
      → ComesRound t waits p q others
  way-round zero seen q others e = absurd cc
  way-round (suc steps) seen q others e =
      round_from seen q others (λ r. way t waits p steps (r ∷ seen) r) (λ r rest. way-round steps (r ∷ seen) r rest)
      (awaited t (wait_at waits q)) refl e

  -- ---- each way is followed to its end

  over_lost : (r : ℕ) (w : Way) → over r w ≡ Lost → w ≡ Lost
  over_lost r (Round found) e = absurd cc
  over_lost r Off e = absurd cc
  over_lost r Lost e = refl

  none_equal : (r : ℕ) (ys : List ℕ) → member r ys ≡ false → AllByRecursion (λ y. nat_eq r y ≡ false) ys
  none_equal r [] e = tt
  none_equal r (y ∷ ys) e = let parts = or_parts (nat_eq r y) (member r ys) e in (parts.0, none_equal r ys parts.1)

  -- distinct processes of the network
  record AreProcesses (seen : List ℕ) : Type 0 where
    distinct : IsDistinct nat_eq seen
    below : (x : ℕ) → member x seen ≡ true → x < length t.instances

  one_more_process : (r : ℕ) (seen : List ℕ) → AreProcesses seen → r < length t.instances → member r seen ≡ false
      → AreProcesses (r ∷ seen)
  one_more_process r seen known there new =
      record {
        distinct = IsDistinct-cons nat_eq r seen (none_equal r seen new) known.distinct;
        below = λ x h. elim (or_cases (nat_eq x r) (member x seen) h) [
          | inl same ↦ subst (λ y. y < length t.instances) (sym (eqb-true x r same)) there
          | inr earlier ↦ known.below x earlier
        ];
      }

  lost_by : (seen : List ℕ) (q r : ℕ) (next : Way) → awaited t (wait_at waits q) ≡ Some r
      → (AreProcesses (r ∷ seen) → next ≡ Lost → ⊥) → AreProcesses seen → (back known : Bool) → member r seen ≡ known
      → turned back known r next ≡ Lost → ⊥
  lost_by seen q r next is onwards seen_before true known new e = cc
  lost_by seen q r next is onwards seen_before false true new e = cc
  lost_by seen q r next is onwards seen_before false false new e =
      onwards (one_more_process r seen seen_before (awaited_below t waits (wait_at waits q) r is) new)
      (over_lost r next e)

  lost_from : (seen : List ℕ) (q : ℕ) (next : ℕ → Way) → ((r : ℕ) → AreProcesses (r ∷ seen) → next r ≡ Lost → ⊥)
      → AreProcesses seen → (o : Option ℕ) → awaited t (wait_at waits q) ≡ o → onward p seen next o ≡ Lost → ⊥
  lost_from seen q next onwards known None is e = cc
  lost_from seen q next onwards known (Some r) is e =
      lost_by seen q r (next r) is (onwards r) known (nat_eq r p) (member r seen) refl e

  -- with more steps than there are processes
  never_lost : (steps : ℕ) (seen : List ℕ) (q : ℕ) → AreProcesses seen → length t.instances < length seen + steps
      → way t waits p steps seen q ≡ Lost → ⊥
  never_lost zero seen q known enough e =
      let few = length-le_from_distinct_below seen (length t.instances) known.distinct known.below in omega arith
  never_lost (suc steps) seen q known enough e =
      lost_from seen q (λ r. way t waits p steps (r ∷ seen) r)
      (λ r more. never_lost steps (r ∷ seen) r more (omega arith)) known (awaited t (wait_at waits q)) refl e

  no_processes : AreProcesses []
  unfolding IsDistinct
  no_processes = record { distinct = tt; below = λ x h. absurd cc }

  pub way-ends : (q : ℕ) → way t waits p (suc (length t.instances)) [] q ≡ Lost → ⊥
  way-ends q = never_lost (suc (length t.instances)) [] q no_processes (omega arith)

-- a way does not speak against a cycle over these others
abbrev pub Allows : Way → List ℕ → Type 0
Allows (Round found) others = found ≡ others
Allows Off others = ⊥
Allows Lost others = Unit {0}

allows_over : (w : Way) (r : ℕ) (others : List ℕ) → Allows w others → Allows (over r w) (r ∷ others)
allows_over (Round found) r others h = ap (λ xs. r ∷ xs) h
allows_over Off r others h = h
allows_over Lost r others h = tt

-- none of the one list is in the other
pub record AreApart (seen others : List ℕ) : Type 0 where
  pub each : (x : ℕ) → Contains others x → ¬ Contains seen x

apart_next : (r : ℕ) (seen others : List ℕ) → AreApart seen (r ∷ others) → (¬ Contains others r)
    → AreApart (r ∷ seen) others
apart_next r seen others apart new = record {
  each = λ x h k.
      elim (Contains-cases r seen x k) [
        | inl same ↦ new (subst (λ y. Contains others y) (sym same) h)
        | inr earlier ↦ apart.each x (Contains-later r others x h) earlier
      ];
}

absent : (x : ℕ) (ys : List ℕ) → (¬ Contains ys x) → member x ys ≡ false
absent x ys h = false_from_ne_true _ (λ e. h (member-true x ys e))

onward_back : (p : ℕ) (seen : List ℕ) (next : ℕ → Way) (o : Option ℕ) → o ≡ Some p → Allows (onward p seen next o) []
onward_back p seen next o e = rw (e, eq-eqb p p refl) refl

onward_over : (p r : ℕ) (seen others : List ℕ) (next : ℕ → Way) (o : Option ℕ) → o ≡ Some r → (r ≡ p → ⊥)
    → member r seen ≡ false → Allows (next r) others → Allows (onward p seen next o) (r ∷ others)
onward_over p r seen others next o e other new h = rw (e, ne_eqb r p other, new) (allows_over (next r) r others h)

-- from q a cycle to p is over the others that the way finds
pub way-allows : (t : Tables) (waits : List Wait) (p steps : ℕ) (seen : List ℕ) (q : ℕ) (others : List ℕ)
    → WaitInTurn t waits q others p → AreDistinct others → (¬ Contains others p) → AreApart seen others
    → Allows (way t waits p steps seen q) others
way-allows t waits p zero seen q others turn distinct new apart = tt
way-allows t waits p (suc steps) seen q [] turn distinct new apart = onward_back p seen _ _ turn.awaited
way-allows t waits p (suc steps) seen q (r ∷ others) turn distinct new apart =
    onward_over p r seen others (λ s. way t waits p steps (s ∷ seen) s) _ turn.0.awaited
    (λ e. new (subst (λ z. Contains (r ∷ others) z) e (Contains-first r others)))
    (absent r seen (apart.each r (Contains-first r others)))
    (way-allows t waits p steps (r ∷ seen) r others turn.1 distinct.1 (λ h. new (Contains-later r others p h))
    (apart_next r seen others apart distinct.0))
