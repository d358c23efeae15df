-- What the walk from a process finds, and what all walks tell together.
use Rattle.kpn_deadlock.proofs.Common.{Contains, slice_get, ◌≡◌, ◌≢◌, ◌⊎◌, ℕ, zero, suc, ◌+◌, ◌<◌, ◌≤◌, List, [], ◌∷◌, ◌++◌, length, Option, Some, None, refl, sym, ap, ◌∙◌, subst, inl, inr, arith, length-append, append_assoc, cases_lt, Contains-append_left, Contains-append_right, Contains-push_cases, Wait, Tables, wait_at, awaited, WaitsFor, WaitInTurn, IsCycle, Contains-first, Contains-later, Contains-cases, Contains-none, cycle_from, cycle_short, waits_for_one, IsLeastOf, IsCycleFrom, IsOneOf, AreTold, FindsFrom, with_found}
use Rattle.kpn_cycle.proofs.Walks.{IsAhead, IsClosed}

-- ---- the walk from a process

-- a walk from p that has come to a process over these members, in as many steps, each of them and this one no less than
-- p
pub record WalkedTo (t : Tables) (waits : List Wait) (p steps at : ℕ) (members : List ℕ) : Type 0 where
  pub count : length members ≡ steps
  pub here : p ≤ at
  pub least : (q : ℕ) → Contains members q → p ≤ q
  pub ahead : (others : List ℕ) → IsCycle t waits p others → IsAhead t waits p others members at
  pub closes : (rest : List ℕ) → WaitInTurn t waits at rest p → ¬ Contains rest p → IsClosed t waits p members at rest

module _ (t : Tables) (waits : List Wait) (p : ℕ) where
  pub walk_none : (members : List ℕ) → members ≡ [] → WalkedTo t waits p 0 p members
  walk_none members none =
      subst (WalkedTo t waits p 0 p) (sym none)
      (record {
        count = refl;
        here = omega arith;
        least = λ q h. absurd (Contains-none q h);
        ahead = λ others cycle. record { rest = others; is = refl; turn = cycle.in_turn };
        closes =
            λ rest turn absent. record { others = rest; is = refl; cycle = cycle_from t waits p rest turn absent };
      })

  -- the first of the rest is the process that is waited for
  ahead_next : (others before : List ℕ) (at next : ℕ) → WaitsFor t waits at next → next ≢ p → (rest : List ℕ)
      → p ∷ others ≡ before ++ at ∷ rest → WaitInTurn t waits at rest p
      → IsAhead t waits p others (before ++ at ∷ []) next
  ahead_next others before at next w other [] is turn = absurd (other (waits_for_one t waits at next p w turn))
  ahead_next others before at next w other (x ∷ rest) is turn =
      let same = waits_for_one t waits at x next turn.0 w in
      record {
        rest = rest;
        is = is ∙ ap (λ z. before ++ at ∷ z ∷ rest) same ∙ sym (append_assoc before (at ∷ []) (next ∷ rest));
        turn = subst (λ z. WaitInTurn t waits z rest p) same turn.1;
      }

  closes_next : (before : List ℕ) (at next : ℕ) → WaitsFor t waits at next → next ≢ p → (rest : List ℕ)
      → WaitInTurn t waits next rest p → ¬ Contains rest p
      → ((more : List ℕ) → WaitInTurn t waits at more p → ¬ Contains more p → IsClosed t waits p before at more)
      → IsClosed t waits p (before ++ at ∷ []) next rest
  closes_next before at next w other rest turn absent closes =
      let c =
      closes (next ∷ rest) (w, turn)
      (λ h. elim (Contains-cases next rest p h) [ inl same ↦ other same | inr later ↦ absent later ]) in
      record { others = c.others; is = c.is ∙ sym (append_assoc before (at ∷ []) (next ∷ rest)); cycle = c.cycle }

  module _ (steps at : ℕ) (members : List ℕ) (walk : WalkedTo t waits p steps at members) where
    least_with : (q : ℕ) → Contains (members ++ at ∷ []) q → p ≤ q
    least_with q h =
        elim (Contains-push_cases members at q h) [
          | inl before ↦ walk.least q before
          | inr last ↦ subst (λ x. p ≤ x) last walk.here
        ]

    pub walk_more : (more : List ℕ) → more ≡ members ++ at ∷ [] → (next : ℕ)
        → awaited t (wait_at waits at) ≡ Some next → next ≢ p → p ≤ next
        → WalkedTo t waits p (steps + 1) next more
    walk_more more is next e other large =
        let w : WaitsFor t waits at next = record { awaited = e } in
        subst (WalkedTo t waits p (steps + 1) next) (sym is)
        (record {
          count = length-append members (at ∷ []) ∙ ap (λ n. n + 1) walk.count;
          here = large;
          least = least_with;
          ahead = λ others cycle. let a =
              walk.ahead others cycle in ahead_next others members at next w other a.rest a.is a.turn;
          closes = λ rest turn absent. closes_next members at next w other rest turn absent walk.closes;
        })

    -- the walk has come back to p
    pub walk_closed : (more : List ℕ) → more ≡ members ++ at ∷ [] → awaited t (wait_at waits at) ≡ Some p
        → FindsFrom (IsCycleFrom t waits) p (Some more)
    walk_closed more is e =
        let c = walk.closes [] (record { awaited = e }) (Contains-none p) in (
          c.others,
          is ∙ sym c.is,
          record {
            cycle = c.cycle;
            least = λ q h.
                let no_less : p ≤ q =
                least_with q (subst (λ xs. Contains xs q) c.is (Contains-later p c.others q h)) in
                elim (cases_lt p q) [
                  | inl less ↦ less
                  | inr same ↦
                      let is : q ≡ p = omega arith in
                      absurd (c.cycle.distinct.0 (subst (Contains c.others) is h))
                ];
          },
        )

    -- the walk has come to an end
    no_turn : (rest : List ℕ) → awaited t (wait_at waits at) ≡ None → WaitInTurn t waits at rest p → ⊥
    no_turn [] e turn = let f = turn.awaited in absurd cc
    no_turn (x ∷ rest) e turn = let f = turn.0.awaited in absurd cc

    pub walk_ended : awaited t (wait_at waits at) ≡ None → FindsFrom (IsCycleFrom t waits) p None
    walk_ended e = λ others h. let a = walk.ahead others h.cycle in no_turn a.rest e a.turn

    -- the walk has come to a process below p
    smaller : (next : ℕ) → awaited t (wait_at waits at) ≡ Some next → next < p → (others rest : List ℕ)
        → IsLeastOf p others → p ∷ others ≡ members ++ at ∷ rest → WaitInTurn t waits at rest p → ⊥
    smaller next e less others [] least is turn =
        let same = waits_for_one t waits at next p (record { awaited = e }) turn in
        omega arith
    smaller next e less others (x ∷ rest) least is turn =
        let same = waits_for_one t waits at x next turn.0 (record { awaited = e }) in
        let there : Contains (p ∷ others) x =
        subst (λ xs. Contains xs x) (sym is)
        (Contains-append_right members (at ∷ x ∷ rest) x (Contains-later at (x ∷ rest) x (Contains-first x rest))) in
        elim (Contains-cases p others x there) [
          | inl first ↦ omega arith
          | inr later ↦ let more = least x later in omega arith
        ]

    pub walk_smaller : (next : ℕ) → awaited t (wait_at waits at) ≡ Some next → next < p
        → FindsFrom (IsCycleFrom t waits) p None
    walk_smaller next e less = λ others h.
        let a = walk.ahead others h.cycle in smaller next e less others a.rest h.least a.is a.turn

    -- the walk has made as many steps as there are processes, and has not come back
    pub walk_long : length t.instances ≤ steps → FindsFrom (IsCycleFrom t waits) p None
    walk_long long = λ others h.
        let a = walk.ahead others h.cycle in
        let short = cycle_short t waits p others h.cycle in
        let lengths = ap length a.is in
        let count = walk.count in
        omega (arith, length-append members (at ∷ a.rest))

-- ---- what all walks tell

-- those that are so and begin below n are told, each once
pub record ToldSoFar (Is : ℕ → List ℕ → Type 0) (n : ℕ) (told : List (List ℕ)) : Type 0 where
  pub each : (members : List ℕ) → Contains told members → (one : IsOneOf Is members) × (one.first < n)
  pub all : (p : ℕ) (others : List ℕ) → Is p others → p < n → Contains told (p ∷ others)
  pub once : (i j : ℕ) (members : List ℕ) → slice_get told i ≡ Some members → slice_get told j ≡ Some members → i ≡ j

contains_at : (told : List (List ℕ)) (i : ℕ) (members : List ℕ) → slice_get told i ≡ Some members
    → Contains told members
contains_at [] zero members is = absurd cc
contains_at [] (suc i) members is = absurd cc
contains_at (x ∷ told) zero members is = let same : x ≡ members = cc in (0, omega arith, same)
contains_at (x ∷ told) (suc i) members is = Contains-later x told members (contains_at told i members is)

at_push : (told : List (List ℕ)) (x : List ℕ) (i : ℕ) (members : List ℕ) → slice_get (told ++ x ∷ []) i ≡ Some members
    → (slice_get told i ≡ Some members) ⊎ ((i ≡ length told) × (x ≡ members))
at_push [] x zero members is = inr (refl, cc)
at_push [] x (suc i) members is = absurd cc
at_push (y ∷ told) x zero members is = inl is
at_push (y ∷ told) x (suc i) members is =
    elim (at_push told x i members is) [
      | inl before ↦ inl before
      | inr last ↦ inr (ap suc last.0, last.1)
    ]

module _ (Is : ℕ → List ℕ → Type 0) where
  pub told_none : (told : List (List ℕ)) → told ≡ [] → ToldSoFar Is 0 told
  told_none told none =
      subst (ToldSoFar Is 0) (sym none)
      (record {
        each = λ members h. absurd (Contains-none members h);
        all = λ p others h below. absurd (omega arith);
        once = λ i j members a b. absurd (Contains-none members (contains_at [] i members a));
      })

  module _ (n : ℕ) (told : List (List ℕ)) (so_far : ToldSoFar Is n told) where
    -- none begins at n
    told_no_more : FindsFrom Is n None → ToldSoFar Is (n + 1) told
    told_no_more none =
        record {
          each = λ members h. let o = so_far.each members h in let below = o.1 in (o.0, omega arith);
          all = λ p others h below.
              elim (cases_lt p n) [
                | inl less ↦ so_far.all p others h less
                | inr last ↦
                    let same : p ≡ n = omega arith in
                    absurd (none others (subst (λ q. Is q others) same h))
              ];
          once = so_far.once;
        }

    -- one begins at n
    module _ (members : List ℕ) (found : FindsFrom Is n (Some members))
        (unique : (others more : List ℕ) → Is n others → Is n more → others ≡ more) where
      new_to_them : Contains told members → ⊥
      new_to_them h =
          let o = so_far.each members h in
          let below = o.1 in
          let same : o.0.first ∷ o.0.others ≡ n ∷ found.0 = sym o.0.is ∙ found.1 in
          let first : o.0.first ≡ n = cc in
          omega arith

      more_once : (i j : ℕ) (x : List ℕ) → slice_get (told ++ members ∷ []) i ≡ Some x
          → slice_get (told ++ members ∷ []) j ≡ Some x → i ≡ j
      more_once i j x a b =
          elim (at_push told members i x a) [
            | inl before ↦ elim (at_push told members j x b) [
              | inl other ↦ so_far.once i j x before other
              | inr last ↦ absurd
                  (new_to_them (subst (Contains told) (sym last.1) (contains_at told i x before)))
            ]
            | inr last ↦ elim (at_push told members j x b) [
              | inl other ↦ absurd
                  (new_to_them (subst (Contains told) (sym last.1) (contains_at told j x other)))
              | inr both ↦ last.0 ∙ sym both.0
            ]
          ]

      told_more : (more : List (List ℕ)) → more ≡ told ++ members ∷ [] → ToldSoFar Is (n + 1) more
      told_more more is =
          subst (ToldSoFar Is (n + 1)) (sym is)
          (record {
            each = λ x h.
                elim (Contains-push_cases told members x h) [
                  | inl before ↦ let o = so_far.each x before in let below = o.1 in (o.0, omega arith)
                  | inr last ↦ (
                    record {
                      first = n;
                      others = found.0;
                      is = sym last ∙ found.1;
                      so = found.2;
                    },
                    omega arith,
                  )
                ];
            all = λ p others h below.
                elim (cases_lt p n) [
                  | inl less ↦ Contains-append_left told (members ∷ []) (p ∷ others) (so_far.all p others h less)
                  | inr last ↦
                      let same : p ≡ n = omega arith in
                      let here = unique found.0 others found.2 (subst (λ q. Is q others) same h) in
                      let is : members ≡ p ∷ others =
                      found.1 ∙ ap (λ xs. n ∷ xs) here ∙ ap (λ q. q ∷ others) (sym same) in
                      Contains-append_right told (members ∷ []) (p ∷ others)
                      (subst (Contains (members ∷ [])) is (Contains-first members []))
                ];
            once = more_once;
          })

    pub told_next : (found : Option (List ℕ)) → FindsFrom Is n found
        → ((others more : List ℕ) → Is n others → Is n more → others ≡ more) → (more : List (List ℕ))
        → more ≡ with_found told found → ToldSoFar Is (n + 1) more
    told_next None none unique more is = subst (ToldSoFar Is (n + 1)) (sym is) (told_no_more none)
    told_next (Some members) found unique more is = told_more members found unique more is

    -- all walks were made
    pub told_all : ((p : ℕ) (others : List ℕ) → Is p others → p < n) → (result : List (List ℕ)) → result ≡ told
        → AreTold Is result
    told_all below result is =
        subst (AreTold Is) (sym is)
        (record {
          each = λ members h. (so_far.each members h).0;
          all = λ p others h. so_far.all p others h (below p others h);
          once = so_far.once;
        })
