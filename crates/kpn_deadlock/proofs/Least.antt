-- There is a ring if and only if some are told: a ring is also one from its member of least number on.
use Rattle.kpn_deadlock.proofs.Common.{Contains, ◌≡◌, ◌↔◌, ℕ, ◌<◌, ◌≤◌, true, List, [], ◌∷◌, length, ltb-true, lt-ltb, refl, sym, ap, ◌∙◌, subst, inl, inr, arith, cases_lt, Wait, Tables, Contains-first, Contains-later, Contains-cases, Contains-none, rotated, IsRing, HasRing, IsRingFrom, AreRings, are_some}
use Rattle.std.specs.List.Sorted.{IsPermutation}
use Rattle.std.proofs.lemmas.List.Sorted.{IsPermutation-sym, Contains-permutation}

-- a member of least number
record LeastOf (members : List ℕ) : Type 0 where
  pub member : ℕ
  pub among : Contains members member
  pub least : (q : ℕ) → Contains members q → member ≤ q

least_of : (p : ℕ) (others : List ℕ) → LeastOf (p ∷ others)
least_of p [] =
    record {
      member = p;
      among = Contains-first p [];
      least = λ q h. elim (Contains-cases p [] q h) [
        | inl same ↦ omega arith
        | inr none ↦ absurd (Contains-none q none)
      ];
    }
least_of p (r ∷ others) =
    let l = least_of r others in
    elim (cases_lt p l.member) [
      | inl less ↦ record {
        member = p;
        among = Contains-first p (r ∷ others);
        least = λ q h. elim (Contains-cases p (r ∷ others) q h) [
          | inl same ↦ omega arith
          | inr later ↦ let no_less = l.least q later in omega arith
        ];
      }
      | inr more ↦ record {
        member = l.member;
        among = Contains-later p (r ∷ others) l.member l.among;
        least = λ q h. elim (Contains-cases p (r ∷ others) q h) [
          | inl same ↦ omega arith
          | inr later ↦ l.least q later
        ];
      }
    ]

-- a ring from its member of least number on
record FromLeast (t : Tables) (waits : List Wait) : Type 0 where
  pub first : ℕ
  pub others : List ℕ
  pub is : IsRingFrom t waits first others

from_least : (t : Tables) (waits : List Wait) (p : ℕ) (others : List ℕ) → IsRing t waits p others → FromLeast t waits
from_least t waits p others ring =
    let l = least_of p others in
    let r = rotated t waits p others ring.cycle l.member l.among in
    let back : IsPermutation (l.member ∷ r.rest) (p ∷ others) =
    IsPermutation-sym (p ∷ others) (l.member ∷ r.rest) r.members in
    record {
      first = l.member;
      others = r.rest;
      is = record {
        ring = record {
          cycle = r.cycle;
          empty = λ q h. ring.empty q (Contains-permutation (l.member ∷ r.rest) (p ∷ others) q back h);
        };
        least = λ q h.
            let no_less =
            l.least q
            (Contains-permutation (l.member ∷ r.rest) (p ∷ others) q back (Contains-later l.member r.rest q h)) in
            elim (cases_lt l.member q) [
              | inl less ↦ less
              | inr same ↦
                  let is : q ≡ l.member = omega arith in
                  absurd (r.cycle.distinct.0 (subst (Contains r.rest) is h))
            ];
      };
    }

module _ (t : Tables) (waits : List Wait) where
  first_told : (told : List (List ℕ)) → AreRings t waits told → 0 < length told → HasRing t waits
  first_told [] are some = absurd (omega arith)
  first_told (members ∷ more) are some =
      let one = are.each members (Contains-first members more) in
      record { first = one.first; others = one.others; ring = one.so.ring }

  pub some_told : (told : List (List ℕ)) → AreRings t waits told → (are_some told ≡ true) ↔ HasRing t waits
  some_told told are = (
    λ some. first_told told are (ltb-true 0 (length told) some),
    λ has.
        let from = from_least t waits has.first has.others has.ring in
        let there = are.all from.first from.others from.is in
        let below = there.1 in
        lt-ltb 0 (length told) (omega arith),
  )
