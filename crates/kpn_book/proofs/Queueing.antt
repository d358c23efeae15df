-- The queue of a schedule as its states change.
use Rattle.kpn_book.proofs.Common.{◌≡◌, ℕ, zero, suc, ◌+◌, ◌<◌, ◌≤◌, false, cond, List, [], ◌∷◌, ◌++◌, length, set, get_or, drop, slice_get, Some, count_by, refl, sym, ap, ◌∙◌, subst, inl, inr, arith, length-append, cases_eq, both_ways, length-replicate, length-set, get_or-set_same, get_or-set_other, get_or-replicate, set-set, set-get_or, Contains-append_left, Contains-append_cases, Contains-push, length-range_with_len, get_or-range_with_len, count_by-le-length, AreDistinct, Contains-first, Contains-later, Contains-cases, Contains-none, State, Ready, Held, is_ready, Schedule, IsSchedule, HoldsFirst, all_ready, first_held, made_ready, with_state}
use Rattle.std.specs.List.{Contains, range_with_len}
use Rattle.kpn_book.proofs.Waiting.{first_taken}
use Rattle.kpn_book.proofs.Tallies.{count_set, AreCounts-ready}

-- ---- all are ready at the start

range_from : (a n q : ℕ) → Contains (range_with_len a n) q → (a ≤ q) × (q < a + n)
range_from a n q (k, below, e) =
    let long = length-range_with_len a n in
    let at = get_or-range_with_len a n k q (omega arith) in
    (omega (arith, e), omega (arith, e))

range_distinct : (a n : ℕ) → AreDistinct (range_with_len a n)
range_distinct a zero = tt
range_distinct a (suc n) = (λ h. let above = (range_from (a + 1) n a h).0 in omega arith, range_distinct (a + 1) n)

pub range_has : (n q : ℕ) → q < n → Contains (range_with_len 0 n) q
range_has n q below =
    (q, omega (arith, length-range_with_len 0 n), get_or-range_with_len 0 n q q below ∙ omega arith)

range_more : (a n : ℕ) → range_with_len a (suc n) ≡ range_with_len a n ++ (a + n) ∷ []
range_more a zero = let same : a ≡ a + 0 = omega arith in ap (λ z. z ∷ []) same
range_more a (suc n) =
    let same : a + 1 + n ≡ a + suc n = omega arith in
    ap (λ zs. a ∷ zs) (range_more (a + 1) n ∙ ap (λ z. range_with_len (a + 1) n ++ z ∷ []) same)

-- one number more
pub range_next : (n : ℕ) → range_with_len 0 (n + 1) ≡ range_with_len 0 n ++ n ∷ []
range_next n =
    let one : n + 1 ≡ suc n = omega arith in
    let same : 0 + n ≡ n = omega arith in
    ap (range_with_len 0) one ∙ range_more 0 n ∙ ap (λ z. range_with_len 0 n ++ z ∷ []) same

pub IsSchedule-ready : (n : ℕ) → IsSchedule (all_ready n)
IsSchedule-ready n = record {
  once = range_distinct 0 n;
  ready = λ p. (
    λ h.
        let below = (range_from 0 n p h).1 in
        (omega (arith, length-replicate n Ready), get_or-replicate n p Ready Ready (omega arith)),
    λ h. let below = h.0 in range_has n p (omega (arith, length-replicate n Ready)),
  );
  count = length-range_with_len 0 n ∙ (AreCounts-ready n).ready;
}

-- ---- the first of the queue is held

module _ (states : List State) (p : ℕ) (rest : List ℕ)
    (is : IsSchedule (record { states = states; queue = p ∷ rest })) where
  pub first_there : p < length states
  first_there = ((is.ready p).0 (Contains-first p rest)).0

  pub first_ready : get_or states p Ready ≡ Ready
  first_ready = ((is.ready p).0 (Contains-first p rest)).1

  rest_ready : (q : ℕ) → Contains rest q
      → (q < length (set states p Held)) × (get_or (set states p Held) q Ready ≡ Ready)
  rest_ready q h =
      elim (cases_eq q p) [
        | inl same ↦ absurd (is.once.0 (subst (λ z. Contains rest z) same h))
        | inr other ↦
            let r = (is.ready q).0 (Contains-later p rest q h) in
            let below = r.0 in
            (omega (arith, length-set states p Held), get_or-set_other states p q Held Ready other ∙ r.1)
      ]

  ready_rest : (q : ℕ) → (q < length (set states p Held)) × (get_or (set states p Held) q Ready ≡ Ready)
      → Contains rest q
  ready_rest q h =
      elim (cases_eq q p) [
        | inl same ↦
            let held : Held ≡ Ready =
            sym (get_or-set_same states p Held Ready first_there)
            ∙ ap (λ z. get_or (set states p Held) z Ready) (sym same) ∙ h.1 in
            absurd cc
        | inr other ↦
            let below = h.0 in
            elim (Contains-cases p rest q ((is.ready q).1
            (omega (arith, length-set states p Held), sym (get_or-set_other states p q Held Ready other) ∙ h.1))) [
              | inl same ↦ absurd (other (sym same))
              | inr later ↦ later
            ]
      ]

  pub IsSchedule-held : IsSchedule (record { states = set states p Held; queue = rest })
  IsSchedule-held = record {
    once = is.once.1;
    ready = λ q. (rest_ready q, ready_rest q);
    count =
        let moved = count_set is_ready states p Held first_there in
        let one : cond {A = ℕ} (is_ready (get_or states p Ready)) 1 0 ≡ 1 =
        ap (λ s. cond (is_ready s) 1 0) first_ready in
        let before : suc (length rest) ≡ count_by is_ready states = is.count in
        omega arith;
  }

-- the queue of a schedule, taken apart
pub popped : (states : List State) (queue : List ℕ) (p : ℕ) (rest : List ℕ)
    → IsSchedule (record { states = states; queue = queue }) → queue ≡ p ∷ rest
    → IsSchedule (record { states = states; queue = p ∷ rest })
popped states queue p rest is e = subst (λ q. IsSchedule (record { states = states; queue = q })) e is

pub HoldsFirst-popped : (states : List State) (queue : List ℕ) (p : ℕ) (rest : List ℕ)
    → IsSchedule (record { states = states; queue = queue }) → queue ≡ p ∷ rest
    → HoldsFirst p (record { states = states; queue = queue }) (record { states = set states p Held; queue = rest })
HoldsFirst-popped states queue p rest is e =
    let apart = popped states queue p rest is e in
    record {
      there = first_there states p rest apart;
      was_ready = first_ready states p rest apart;
      queue = e;
      states = refl;
    }

-- ---- one that is not ready becomes ready, or changes its state otherwise

distinct_more : (xs : List ℕ) (p : ℕ) → AreDistinct xs → (Contains xs p → ⊥) → AreDistinct (xs ++ p ∷ [])
distinct_more [] p distinct new = (λ h. Contains-none p h, tt)
distinct_more (x ∷ xs) p distinct new = (
  λ h.
      elim (Contains-append_cases xs (p ∷ []) x h) [
        | inl there ↦ distinct.0 there
        | inr last ↦
            elim (Contains-cases p [] x last) [
              | inl same ↦ new (subst (λ z. Contains (x ∷ xs) z) (sym same) (Contains-first x xs))
              | inr none ↦ Contains-none x none
            ]
      ],
  distinct_more xs p distinct.1 (λ h. new (Contains-later x xs p h)),
)

module _ (states : List State) (queue : List ℕ) (is : IsSchedule (record { states = states; queue = queue })) (p : ℕ)
    (there : p < length states) (waits : is_ready (get_or states p Ready) ≡ false) where
  not_queued : Contains queue p → ⊥
  not_queued h = both_ways (is_ready (get_or states p Ready)) waits (ap is_ready ((is.ready p).0 h).1)

  counted_no : cond {A = ℕ} (is_ready (get_or states p Ready)) 1 0 ≡ 0
  counted_no = ap (λ b. cond b 1 0) waits

  -- the queue has room for it
  pub has_room : length queue < length states
  has_room =
      let moved = count_set is_ready states p Ready there in
      let most = count_by-le-length is_ready (set states p Ready) in
      let no = counted_no in
      let long = is.count in
      omega (arith, length-set states p Ready)

  more_ready : (q : ℕ) → Contains (queue ++ p ∷ []) q
      → (q < length (set states p Ready)) × (get_or (set states p Ready) q Ready ≡ Ready)
  more_ready q h =
      elim (cases_eq q p) [
        | inl same ↦ (
          omega (arith, length-set states p Ready),
          ap (λ z. get_or (set states p Ready) z Ready) same ∙ get_or-set_same states p Ready Ready there,
        )
        | inr other ↦
            elim (Contains-append_cases queue (p ∷ []) q h) [
              | inl before ↦
                  let r = (is.ready q).0 before in
                  let below = r.0 in
                  (omega (arith, length-set states p Ready), get_or-set_other states p q Ready Ready other ∙ r.1)
              | inr last ↦
                  elim (Contains-cases p [] q last) [
                    | inl same ↦ absurd (other (sym same))
                    | inr none ↦ absurd (Contains-none q none)
                  ]
            ]
      ]

  ready_more : (q : ℕ) → (q < length (set states p Ready)) × (get_or (set states p Ready) q Ready ≡ Ready)
      → Contains (queue ++ p ∷ []) q
  ready_more q h =
      elim (cases_eq q p) [
        | inl same ↦ subst (λ z. Contains (queue ++ p ∷ []) z) (sym same) (Contains-push queue p)
        | inr other ↦
            let below = h.0 in
            Contains-append_left queue (p ∷ []) q ((is.ready q).1
            (omega (arith, length-set states p Ready), sym (get_or-set_other states p q Ready Ready other) ∙ h.1))
      ]

  pub IsSchedule-made_ready : IsSchedule (made_ready p (record { states = states; queue = queue }))
  IsSchedule-made_ready = record {
    once = distinct_more queue p is.once not_queued;
    ready = λ q. (more_ready q, ready_more q);
    count =
        let moved = count_set is_ready states p Ready there in
        let no = counted_no in
        let before = is.count in
        omega (arith, length-append queue (p ∷ []));
  }

  module _ (state : State) (neither : is_ready state ≡ false) where
    same_ready : (q : ℕ) → Contains queue q
        → (q < length (set states p state)) × (get_or (set states p state) q Ready ≡ Ready)
    same_ready q h =
        elim (cases_eq q p) [
          | inl same ↦ absurd (not_queued (subst (λ z. Contains queue z) same h))
          | inr other ↦
              let r = (is.ready q).0 h in
              let below = r.0 in
              (omega (arith, length-set states p state), get_or-set_other states p q state Ready other ∙ r.1)
        ]

    ready_same : (q : ℕ) → (q < length (set states p state)) × (get_or (set states p state) q Ready ≡ Ready)
        → Contains queue q
    ready_same q h =
        elim (cases_eq q p) [
          | inl same ↦
              let is_it : state ≡ Ready =
              sym (get_or-set_same states p state Ready there)
              ∙ ap (λ z. get_or (set states p state) z Ready) (sym same) ∙ h.1 in
              absurd (both_ways (is_ready state) neither (ap is_ready is_it))
          | inr other ↦
              let below = h.0 in
              (is.ready q).1
              (omega (arith, length-set states p state), sym (get_or-set_other states p q state Ready other) ∙ h.1)
        ]

    pub IsSchedule-set : IsSchedule (with_state p state (record { states = states; queue = queue }))
    IsSchedule-set = record {
      once = is.once;
      ready = λ q. (same_ready q, ready_same q);
      count =
          let moved = count_set is_ready states p state there in
          let no = counted_no in
          let none : cond {A = ℕ} (is_ready state) 1 0 ≡ 0 = ap (λ b. cond b 1 0) neither in
          let before = is.count in
          omega arith;
    }

-- ---- the first moves to the tail

abbrev pub scheduled : List State → List ℕ → Schedule
scheduled states queue = record { states = states; queue = queue }

module _ (states : List State) (queue : List ℕ) (p : ℕ)
    (is : IsSchedule (record { states = states; queue = queue })) (first : slice_get queue 0 ≡ Some p) where
  apart : IsSchedule (record { states = states; queue = p ∷ drop 1 queue })
  apart = popped states queue p (drop 1 queue) is (first_taken queue 0 p first)

  -- it is held, and ready again
  states_back : set (set states p Held) p Ready ≡ states
  states_back =
      set-set states p Held Ready
      ∙ ap (set states p) (sym (first_ready states p (drop 1 queue) apart))
      ∙ set-get_or states p Ready

  pub IsSchedule-rotated : IsSchedule (record { states = states; queue = drop 1 queue ++ p ∷ [] })
  IsSchedule-rotated =
      let there = first_there states p (drop 1 queue) apart in
      let still : p < length (set states p Held) = omega (arith, there, length-set states p Held) in
      subst (λ xs. IsSchedule (record { states = xs; queue = drop 1 queue ++ p ∷ [] })) states_back
      (IsSchedule-made_ready (set states p Held) (drop 1 queue) (IsSchedule-held states p (drop 1 queue) apart) p still
      (ap is_ready (get_or-set_same states p Held Ready there)))

  pub rotated : (after : List ℕ) → after ≡ drop 1 queue ++ p ∷ []
      → scheduled states after ≡ made_ready p (first_held p (scheduled states queue))
  rotated after same =
      ap (scheduled states) same ∙ ap (λ xs. scheduled xs (drop 1 queue ++ p ∷ [])) (sym states_back)

  pub first_is_there : p < length states
  first_is_there = first_there states p (drop 1 queue) apart

  pub first_is_ready : get_or states p Ready ≡ Ready
  first_is_ready = first_ready states p (drop 1 queue) apart

  -- it leaves the queue for another state
  pub IsSchedule-left : (state : State) → is_ready state ≡ false
      → IsSchedule (record { states = set states p state; queue = drop 1 queue })
  IsSchedule-left state neither =
      let there = first_is_there in
      let still : p < length (set states p Held) = omega (arith, there, length-set states p Held) in
      subst (λ xs. IsSchedule (record { states = xs; queue = drop 1 queue })) (set-set states p Held state)
      (IsSchedule-set (set states p Held) (drop 1 queue) (IsSchedule-held states p (drop 1 queue) apart) p still
      (ap is_ready (get_or-set_same states p Held Ready there)) state neither)

  -- after it, the queue has room for it
  pub few_wait : length (drop 1 queue) < length states
  few_wait =
      let long : suc (length (drop 1 queue)) ≡ count_by is_ready states = apart.count in
      let most = count_by-le-length is_ready states in
      omega (arith, long, most)

pub left_first : (states : List State) (queue : List ℕ) (p : ℕ) (state : State) (states_after : List State)
    (after : List ℕ) → states_after ≡ set states p state → after ≡ drop 1 queue
    → scheduled states_after after ≡ with_state p state (first_held p (scheduled states queue))
left_first states queue p state states_after after changed same =
    ap (λ xs. scheduled xs after) (changed ∙ sym (set-set states p Held state))
    ∙ ap (scheduled (set (set states p Held) p state)) same
