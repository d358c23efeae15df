-- The walk from a process along the waits. If there is a cycle through the process, the walk goes along it.
use Rattle.kpn_cycle.proofs.Common.{◌≡◌, ◌≢◌, ℕ, ◌+◌, ◌≤◌, List, [], ◌∷◌, ◌++◌, length, Option, Some, None, refl, sym, ap, ◌∙◌, subst, inl, inr, arith, length-append, append_assoc, Contains, cons_option, range_with_len, Wait, Tables, wait_at, awaited, full_channel, WaitsFor, WaitInTurn, IsCycle, full_channels, FindsSmallest, NoCycle, Finds, found_on, Contains-none, Contains-cases, cycle_from, cycle_short, waits_for_one}
use Rattle.std.specs.Option.{option_to_list}
use Rattle.std.proofs.lemmas.List.{map-id}
use Rattle.std.proofs.lemmas.List.FromFn.{map-range_with_len_more}
use Rattle.std.proofs.lemmas.List.Elements.{filter_map-append}

-- the cycle through p, while a walk from p is at a process: it is what was walked, this process, and a rest that leads
-- back to p
pub record IsAhead (t : Tables) (waits : List Wait) (p : ℕ) (others before : List ℕ) (at : ℕ) : Type 0 where
  pub rest : List ℕ
  pub is : p ∷ others ≡ before ++ at ∷ rest
  pub turn : WaitInTurn t waits at rest p

-- the cycle that closes if this rest leads from here to p
pub record IsClosed (t : Tables) (waits : List Wait) (p : ℕ) (before : List ℕ) (at : ℕ) (rest : List ℕ) : Type 0 where
  pub others : List ℕ
  pub is : p ∷ others ≡ before ++ at ∷ rest
  pub cycle : IsCycle t waits p others

-- a walk from p that has come to a process in a number of steps, with the smallest full channel that it met before
pub record Walked (t : Tables) (waits : List Wait) (cap : ℕ → ℕ) (p steps at : ℕ) (smallest : Option ℕ) : Type 0 where
  pub before : List ℕ
  pub count : length before ≡ steps
  pub ahead : (others : List ℕ) → IsCycle t waits p others → IsAhead t waits p others before at
  pub closes : (rest : List ℕ) → WaitInTurn t waits at rest p → ¬ Contains rest p → IsClosed t waits p before at rest
  pub met : FindsSmallest cap (full_channels waits before) smallest

module _ (t : Tables) (waits : List Wait) (cap : ℕ → ℕ) (p : ℕ) where
  pub walk-none : Walked t waits cap p 0 p None
  walk-none =
      record {
        before = [];
        count = refl;
        ahead = λ others cycle. record { rest = others; is = refl; turn = cycle.in_turn };
        closes =
            λ rest turn absent. record { others = rest; is = refl; cycle = cycle_from t waits p rest turn absent };
        met = refl;
      }

  -- the full channel of one process more
  full-push : (before : List ℕ) (at : ℕ)
      → full_channels waits (before ++ at ∷ [])
      ≡ full_channels waits before ++ option_to_list (full_channel (wait_at waits at))
  full-push before at =
      filter_map-append (λ q. full_channel (wait_at waits q)) before (at ∷ [])
      ∙ ap (λ xs. full_channels waits before ++ xs) (one (full_channel (wait_at waits at)))
    where
      one : (o : Option ℕ) → cons_option o [] ≡ option_to_list o
      one None = refl
      one (Some c) = refl

  pub met-push : (before : List ℕ) (at : ℕ) (smallest after : Option ℕ)
      → FindsSmallest cap (full_channels waits before) smallest
      → ((channels : List ℕ) → FindsSmallest cap channels smallest
      → FindsSmallest cap (channels ++ option_to_list (full_channel (wait_at waits at))) after)
      → FindsSmallest cap (full_channels waits (before ++ at ∷ [])) after
  met-push before at smallest after met more =
      subst (λ xs. FindsSmallest cap xs after) (sym (full-push before at)) (more (full_channels waits before) met)

  -- the first of the rest is the process that is waited for
  ahead-next : (others before : List ℕ) (at next : ℕ) → WaitsFor t waits at next → next ≢ p → (rest : List ℕ)
      → p ∷ others ≡ before ++ at ∷ rest → WaitInTurn t waits at rest p
      → IsAhead t waits p others (before ++ at ∷ []) next
  ahead-next others before at next w other [] is turn = absurd (other (waits_for_one t waits at next p w turn))
  ahead-next others before at next w other (x ∷ rest) is turn =
      let same = waits_for_one t waits at x next turn.0 w in
      record {
        rest = rest;
        is = is ∙ ap (λ z. before ++ at ∷ z ∷ rest) same ∙ sym (append_assoc before (at ∷ []) (next ∷ rest));
        turn = subst (λ z. WaitInTurn t waits z rest p) same turn.1;
      }

  closes-next : (before : List ℕ) (at next : ℕ) → WaitsFor t waits at next → next ≢ p → (rest : List ℕ)
      → WaitInTurn t waits next rest p → ¬ Contains rest p
      → ((more : List ℕ) → WaitInTurn t waits at more p → ¬ Contains more p → IsClosed t waits p before at more)
      → IsClosed t waits p (before ++ at ∷ []) next rest
  closes-next before at next w other rest turn absent closes =
      let c =
      closes (next ∷ rest) (w, turn)
      (λ h. elim (Contains-cases next rest p h) [ inl same ↦ other same | inr later ↦ absent later ]) in
      record { others = c.others; is = c.is ∙ sym (append_assoc before (at ∷ []) (next ∷ rest)); cycle = c.cycle }

  pub walk-more : (steps at next : ℕ) (smallest after : Option ℕ) → Walked t waits cap p steps at smallest
      → awaited t (wait_at waits at) ≡ Some next → next ≢ p
      → ((channels : List ℕ) → FindsSmallest cap channels smallest
      → FindsSmallest cap (channels ++ option_to_list (full_channel (wait_at waits at))) after)
      → Walked t waits cap p (steps + 1) next after
  walk-more steps at next smallest after walk e other more =
      let w : WaitsFor t waits at next = record { awaited = e } in
      record {
        before = walk.before ++ at ∷ [];
        count = length-append walk.before (at ∷ []) ∙ ap (λ n. n + 1) walk.count;
        ahead = λ others cycle. let a =
            walk.ahead others cycle in ahead-next others walk.before at next w other a.rest a.is a.turn;
        closes = λ rest turn absent. closes-next walk.before at next w other rest turn absent walk.closes;
        met = met-push walk.before at smallest after walk.met more;
      }

  -- the walk has come back to p
  found-met : (others : List ℕ) → IsCycle t waits p others → (after : Option ℕ)
      → FindsSmallest cap (full_channels waits (p ∷ others)) after → Finds t waits cap p (found_on after)
  found-met others cycle None met = record { others = others; cycle = cycle; empty = met }
  found-met others cycle (Some c) met = record { others = others; cycle = cycle; smallest = met }

  pub walk-closed : (steps at : ℕ) (smallest after : Option ℕ) → Walked t waits cap p steps at smallest
      → awaited t (wait_at waits at) ≡ Some p
      → ((channels : List ℕ) → FindsSmallest cap channels smallest
      → FindsSmallest cap (channels ++ option_to_list (full_channel (wait_at waits at))) after)
      → Finds t waits cap p (found_on after)
  walk-closed steps at smallest after walk e more =
      let c = walk.closes [] (record { awaited = e }) (Contains-none p) in
      found-met c.others c.cycle after
      (subst (λ zs. FindsSmallest cap (full_channels waits zs) after) (sym c.is)
      (met-push walk.before at smallest after walk.met more))

  -- the walk has come to an end
  no-turn : (at : ℕ) (rest : List ℕ) → awaited t (wait_at waits at) ≡ None → WaitInTurn t waits at rest p → ⊥
  no-turn at [] e turn = let f = turn.awaited in absurd cc
  no-turn at (x ∷ rest) e turn = let f = turn.0.awaited in absurd cc

  pub walk-ended : (steps at : ℕ) (smallest : Option ℕ) → Walked t waits cap p steps at smallest
      → awaited t (wait_at waits at) ≡ None → Finds t waits cap p NoCycle
  walk-ended steps at smallest walk e = λ others cycle. let a = walk.ahead others cycle in no-turn at a.rest e a.turn

  -- the walk has made as many steps as there are processes, and has not come back
  pub walk-long : (steps at : ℕ) (smallest : Option ℕ) → Walked t waits cap p steps at smallest
      → length t.instances ≤ steps → Finds t waits cap p NoCycle
  walk-long steps at smallest walk long = λ others cycle.
      let a = walk.ahead others cycle in
      let short = cycle_short t waits p others cycle in
      let lengths = ap length a.is in
      let count = walk.count in
      omega (arith, length-append walk.before (at ∷ a.rest))

-- one number more
range-more : (n : ℕ) → range_with_len 0 (n + 1) ≡ range_with_len 0 n ++ n ∷ []
range-more n =
    sym (map-id (range_with_len 0 (n + 1))) ∙ map-range_with_len_more (λ p. p) 0 n n (omega arith)
    ∙ ap (λ xs. xs ++ n ∷ []) (map-id (range_with_len 0 n))

-- the smallest of the channels that the first processes wait on as full, with one process more
pub met-more : (t : Tables) (waits : List Wait) (cap : ℕ → ℕ) (p : ℕ) (smallest after : Option ℕ)
    → FindsSmallest cap (full_channels waits (range_with_len 0 p)) smallest
    → ((channels : List ℕ) → FindsSmallest cap channels smallest
    → FindsSmallest cap (channels ++ option_to_list (full_channel (wait_at waits p))) after)
    → FindsSmallest cap (full_channels waits (range_with_len 0 (p + 1))) after
met-more t waits cap p smallest after met more =
    subst (λ ps. FindsSmallest cap (full_channels waits ps) after) (sym (range-more p))
    (met-push t waits cap p (range_with_len 0 p) p smallest after met more)
