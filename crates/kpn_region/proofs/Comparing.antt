-- What the tests of a channel and its claim say.
use Rattle.std.proofs.Common.{◌≡◌, ◌↔◌, ℕ, ◌+◌, ◌-◌, ◌≤◌, ◌&&◌, ◌||◌, Bool, true, false, not, leb, leb-true, le-leb, eqb, eqb-true, eq-eqb, min, ℤ, List, [], ◌++◌, length, take, drop, Option, Some, None, refl, sym, ap, ◌∙◌, subst, inl, inr, arith, append-nil}
use Rattle.kpn_region.proofs.Common.{take-append-add, take-append_seam, drop-append_seam, cases_lt, false≢true, and_parts, or_cases, Tables, channel_at, is_sink, ChannelState, unread, readable, has_places_for, SideState, TakesInOrder, ChannelAgrees}
use Rattle.std.proofs.lemmas.List.{length-take, length-drop, take_all, take-append-le, take-append-drop}
use Rattle.kpn_region.specs.Agreeing.{is_within_capacity, keeps_capacity, empties_a_sink, takes_in_order, rest_agrees}

both_true : (a b : Bool) → a ≡ true → b ≡ true → (a && b) ≡ true
both_true true b x y = y
both_true false b x y = absurd (false≢true x)

first_true : (a b : Bool) → a ≡ true → (a || b) ≡ true
first_true true b x = refl
first_true false b x = absurd (false≢true x)

second_true : (a b : Bool) → b ≡ true → (a || b) ≡ true
second_true true b x = refl
second_true false b x = x

capacity_means : (gone : Bool) (cap : Option ℕ) (wanted claimed : ℕ)
    → ((gone || is_within_capacity wanted claimed cap) ≡ true)
    ↔ (gone ≡ false → (k : ℕ) → cap ≡ Some k → wanted ≤ k + claimed)
capacity_means true cap wanted claimed = (λ is there k e. absurd (false≢true (sym there)), λ h. refl)
capacity_means false None wanted claimed = (λ is there k e. absurd cc, λ h. refl)
capacity_means false (Some cap) wanted claimed = (
  λ is there k e.
      let same : cap ≡ k = cc in subst (λ n. wanted ≤ n + claimed) same (leb-true wanted (cap + claimed) is),
  λ h. le-leb wanted (cap + claimed) (h refl cap refl),
)

sink_means : (drains sink gone : Bool) (claimed : ℕ)
    → ((not drains || (sink && (not gone && eqb claimed 0))) ≡ true)
    ↔ (drains ≡ true → (sink ≡ true) × (gone ≡ false) × (claimed ≡ 0))
sink_means false sink gone claimed = (λ is e. absurd (false≢true e), λ h. refl)
sink_means true false gone claimed = (λ is e. absurd (false≢true is), λ h. absurd (false≢true (h refl).0))
sink_means true true true claimed = (λ is e. absurd (false≢true is), λ h. absurd (false≢true (sym (h refl).1)))
sink_means true true false claimed = (λ is e. (refl, refl, eqb-true claimed 0 is), λ h. eq-eqb claimed 0 (h refl).2)

order_means : (side : SideState) (channel : ChannelState)
    → (takes_in_order side channel ≡ true) ↔ TakesInOrder side channel
order_means side channel = (
  λ is. elim (or_cases (leb side.taken side.claimed) (eqb side.claimed (length (unread channel))) is) [
    | inl early ↦ inl (leb-true side.taken side.claimed early)
    | inr whole ↦ inr (eqb-true side.claimed (length (unread channel)) whole)
  ],
  λ h. elim h [
    | inl early ↦ first_true (leb side.taken side.claimed) _ (le-leb side.taken side.claimed early)
    | inr whole ↦ second_true (leb side.taken side.claimed) _ (eq-eqb side.claimed (length (unread channel)) whole)
  ],
)

module _ (t : Tables) (c : ℕ) (sink : Bool) (is : sink ≡ is_sink (channel_at t c)) (side : SideState)
    (channel : ChannelState) (few : side.claimed ≤ length side.items) where
  -- the claimed items are the next ones of the reader
  abbrev Begins : Type 0
  Begins = take side.claimed side.items ≡ take (length (take side.claimed side.items)) (readable channel)

  pub agrees_if : Begins → rest_agrees sink side channel ≡ true → ChannelAgrees t c side channel
  agrees_if begins rest =
      let first = and_parts (keeps_capacity side channel) _ rest in
      let others = and_parts (empties_a_sink sink side channel) _ first.1 in
      let last = and_parts (takes_in_order side channel) _ others.1 in
      record {
        claim = record {
          count = let long = length-take side.claimed side.items in omega (arith, long, few);
          first = begins;
          room =
              (capacity_means channel.is_retired channel.capacity (side.room + length (unread channel))
              side.claimed).0 first.0;
          drained = λ drains.
              let at = (sink_means side.is_drained sink channel.is_retired side.claimed).0 others.0 drains in
              record { sink = sym is ∙ at.0; open_still = at.1; none = at.2 };
        };
        in_order = (order_means side channel).0 last.0;
        places = last.1;
      }

  pub rest_if : ChannelAgrees t c side channel → rest_agrees sink side channel ≡ true
  rest_if h =
      both_true (keeps_capacity side channel) _
      ((capacity_means channel.is_retired channel.capacity (side.room + length (unread channel)) side.claimed).1
      h.claim.room)
      (both_true (empties_a_sink sink side channel) _
      ((sink_means side.is_drained sink channel.is_retired side.claimed).1
      (λ drains. let at = h.claim.drained drains in (is ∙ at.sink, at.open_still, at.none)))
      (both_true (takes_in_order side channel) _ ((order_means side channel).1 h.in_order) h.places))

-- ---- the next items of a reader, which lie in two parts

-- the first n of both parts
pub first_of_both : (first rest all : List ℤ) (n k : ℕ) → first ++ rest ≡ all → k ≡ min (length first) n
    → take k first ++ take (n - k) rest ≡ take n all
first_of_both first rest all n k parts is =
    elim (cases_lt (length first) n) [
      | inl long ↦
          let whole : k ≡ length first = omega (arith, is, long) in
          let left : n ≡ length first + (n - k) = omega (arith, whole, long) in
          ap (λ xs. xs ++ take (n - k) rest) (take_all k first (omega (arith, whole)))
          ∙ sym (take-append-add first rest (n - k))
          ∙ ap (λ m. take m (first ++ rest)) (sym left)
          ∙ ap (take n) parts
      | inr short ↦
          let all_n : k ≡ n = omega (arith, is, short) in
          let none : n - k ≡ 0 = omega (arith, all_n) in
          ap (λ m. take k first ++ take m rest) none
          ∙ append-nil (take k first)
          ∙ ap (λ m. take m first) all_n
          ∙ sym (take-append-le n first rest (omega (arith, short)))
          ∙ ap (take n) parts
    ]

-- these items, no more than the first part has, are the next ones if that begins with them
pub begins_first : (items first rest all : List ℤ) → first ++ rest ≡ all → length items ≤ length first
    → take (length items) first ≡ take (length items) all
begins_first items first rest all parts few =
    sym (take-append-le (length items) first rest few) ∙ ap (take (length items)) parts

module _ (items first rest all : List ℤ) (parts : first ++ rest ≡ all) (more : length first ≤ length items) where
  front_and_back : take (length first) items ++ drop (length first) items ≡ items
  front_and_back = take-append-drop (length first) items

  long_back : length items ≡ length first + length (drop (length first) items)
  long_back = let long = length-drop (length first) items in omega (arith, long, more)

  next_ones : take (length items) all ≡ first ++ take (length (drop (length first) items)) rest
  next_ones =
      ap (take (length items)) (sym parts)
      ∙ ap (λ n. take n (first ++ rest)) long_back
      ∙ take-append-add first rest (length (drop (length first) items))

  -- others, of which the first part has not all, are the next ones if they are it and a beginning of the second one
  pub begins_both : take (length first) items ≡ first
      → drop (length first) items ≡ take (length (drop (length first) items)) rest
      → items ≡ take (length items) all
  begins_both front back =
      sym front_and_back
      ∙ ap (λ xs. xs ++ drop (length first) items) front
      ∙ ap (λ xs. first ++ xs) back
      ∙ sym next_ones

  pub begins_front : items ≡ take (length items) all → take (length first) items ≡ first
  begins_front is =
      ap (take (length first)) (is ∙ next_ones)
      ∙ take-append_seam first (take (length (drop (length first) items)) rest)

  pub begins_back : items ≡ take (length items) all
      → drop (length first) items ≡ take (length (drop (length first) items)) rest
  begins_back is =
      ap (drop (length first)) (is ∙ next_ones)
      ∙ drop-append_seam first (take (length (drop (length first) items)) rest)

-- ---- a channel of which the region sees nothing

module _ (t : Tables) (c : ℕ) (side : SideState) (channel : ChannelState) (none : side.items ≡ [])
    (claimed : side.claimed ≡ 0) (taken : side.taken ≡ 0) (room : side.room ≡ 0) (drained : side.is_drained ≡ false)
    (most : channel.is_retired ≡ false → length (unread channel) ≤ channel.most)
    (within : (cap : ℕ) → channel.capacity ≡ Some cap → channel.most ≤ cap) where
  -- it agrees with every channel of a machine
  pub unseen_agrees : ChannelAgrees t c side channel
  unseen_agrees =
      record {
        claim = record {
          count = claimed ∙ sym (ap (λ (xs : List ℤ). length xs) nothing);
          first = nothing ∙ ap (λ (xs : List ℤ). take (length xs) (readable channel)) (sym nothing);
          room = λ there cap is.
              let few = most there in
              let all = within cap is in
              omega (arith, few, all, room, claimed);
          drained = λ drains. absurd (false≢true (sym drained ∙ drains));
        };
        in_order = inl (omega (arith, taken, claimed));
        places = ap (λ (xs : List ℤ). has_places_for (length xs) channel) nothing_put;
      }
    where
      nothing : take side.claimed side.items ≡ []
      nothing = ap (take side.claimed) none ∙ ap (λ n. take {A = ℤ} n []) claimed

      nothing_put : drop side.claimed side.items ≡ []
      nothing_put = ap (drop side.claimed) none ∙ ap (λ n. drop {A = ℤ} n []) claimed
