-- If no event of any part may come, and some are left, these come in no order: what may come stays possible, so another
-- order would have got stuck as well.
use Rattle.kpn_parts.proofs.Common.{◌≡◌, ℕ, zero, suc, ◌+◌, ◌≤◌, min, List, [], ◌∷◌, ◌++◌, length, take, get_or, refl, sym, ap, ◌∙◌, subst, inl, inr, append_assoc, arith, cases_eq, cases_lt, append-nil, length-take, flat_map-append, IsPrefix, IsPrefix-refl, IsPrefix-trans, IsPrefix-same, IsPrefix-append, IsPrefix-from_rest, rest_of_prefix, length_of_prefix, same_from_prefix, prefixes_of_one, prefix_of_push, Event, written_in, written_on, PartEvent, PartLink, event_of, events_of_part, put_on_link, fed_on, IsSentOn, AreSent, history_at, MayCome, IsStuck}
use Rattle.kpn_parts.proofs.Orders.{event_of-own, event_of-other, events_of-push}

-- ---- beginnings

-- of two beginnings of a list the one that is no longer begins the other
shorter_begins : {A : Type 0} (xs ys zs : List A) → IsPrefix xs zs → IsPrefix ys zs → length xs ≤ length ys
    → IsPrefix xs ys
shorter_begins xs ys zs p q h =
    elim (prefixes_of_one xs ys zs p q) [
      | inl r ↦ r
      | inr r ↦ IsPrefix-same xs ys (sym (same_from_prefix ys xs r h))
    ]

written_begins : (G H : List Event) (c : ℕ) → IsPrefix G H → IsPrefix (written_on G c) (written_on H c)
written_begins G H c p =
    let r = rest_of_prefix G H p in
    subst (λ K. IsPrefix (written_on G c) (written_on K c)) r.1
    (subst (IsPrefix (written_on G c)) (sym (flat_map-append (written_in c) G r.0))
    (IsPrefix-append (written_on G c) (written_on r.0 c)))

events_begin : (r : ℕ) (B M : List PartEvent) → IsPrefix B M → IsPrefix (events_of_part r B) (events_of_part r M)
events_begin r B M p =
    let k = rest_of_prefix B M p in
    subst (λ K. IsPrefix (events_of_part r B) (events_of_part r K)) k.1
    (subst (IsPrefix (events_of_part r B)) (sym (flat_map-append (event_of r) B k.0))
    (IsPrefix-append (events_of_part r B) (events_of_part r k.0)))

same_place : (e : PartEvent) (s : ℕ) (event : Event) → e.part ≡ s → e.event ≡ event
    → e ≡ record { part = s; event = event }
same_place e s event p q = λ i. record { part = p i; event = q i }

-- the first items of a list begin it
take_begins : {A : Type 0} (n : ℕ) (xs : List A) → IsPrefix (take n xs) xs
take_begins zero xs = tt
take_begins (suc n) [] = tt
take_begins (suc n) (x ∷ xs) = (refl, take_begins n xs)

-- the last event of a beginning of a list stands at its place there
last_at : (xs zs : List Event) (x : Event) (d : Event) → IsPrefix (xs ++ x ∷ []) zs → get_or zs (length xs) d ≡ x
last_at [] [] x d p = absurd p
last_at [] (z ∷ zs) x d p = sym p.0
last_at (y ∷ xs) [] x d p = absurd p
last_at (y ∷ xs) (z ∷ zs) x d p = last_at xs zs x d p.1

length_push : (xs : List Event) (x : Event) → length (xs ++ x ∷ []) ≡ length xs + 1
length_push [] x = refl
length_push (y ∷ xs) x = let e = length_push xs x in omega (arith, e)

module _ (histories : List (List Event)) (links : List PartLink) (at : List ℕ) (order : List PartEvent)
    (made : (r : ℕ) → events_of_part r order ≡ take (get_or at r 0) (history_at histories r))
    (sent : AreSent links order) (stuck : IsStuck histories links at order) (M : List PartEvent)
    (begin : (r : ℕ) → IsPrefix (events_of_part r M) (history_at histories r)) (sent-M : AreSent links M) where
  order_begins : (r : ℕ) → IsPrefix (events_of_part r order) (history_at histories r)
  order_begins r =
      subst (λ xs. IsPrefix xs (history_at histories r)) (sym (made r))
      (take_begins (get_or at r 0) (history_at histories r))

  -- how many events the order has of a part
  count_is : (r : ℕ) → length (events_of_part r order) ≡ min (get_or at r 0) (length (history_at histories r))
  count_is r = ap length (made r) ∙ length-take (get_or at r 0) (history_at histories r)

  part_begins : (B : List PartEvent) → IsPrefix B M → (r : ℕ) → IsPrefix (events_of_part r B) (history_at histories r)
  part_begins B p r =
      IsPrefix-trans (events_of_part r B) (events_of_part r M) (history_at histories r) (events_begin r B M p) (begin r)

  -- an event that comes next of its part in both could come at the end of the order
  module _ (B : List PartEvent) (e : PartEvent) (p : IsPrefix (B ++ e ∷ []) M)
      (fewer : (r : ℕ) → length (events_of_part r B) ≤ length (events_of_part r order))
      (same : events_of_part e.part B ≡ events_of_part e.part order) where
    both : events_of_part e.part (B ++ e ∷ []) ≡ events_of_part e.part (order ++ e ∷ [])
    both = events_of-push e.part B e ∙ ap (λ xs. xs ++ event_of e.part e) same ∙ sym (events_of-push e.part order e)

    others : (r : ℕ) (H : List PartEvent) → (e.part ≡ r → ⊥) → events_of_part r (H ++ e ∷ []) ≡ events_of_part r H
    others r H differ =
        events_of-push r H e ∙ ap (λ xs. events_of_part r H ++ xs) (event_of-other r e differ)
        ∙ append-nil (events_of_part r H)

    -- of each part the order has with the event what the beginning has with it
    covers : (r : ℕ) → IsPrefix (events_of_part r (B ++ e ∷ [])) (events_of_part r (order ++ e ∷ []))
    covers r =
        elim (cases_eq e.part r) [
          | inl here ↦
              IsPrefix-same _ _ (subst (λ s. events_of_part s (B ++ e ∷ []) ≡ events_of_part s (order ++ e ∷ [])) here both)
          | inr differ ↦
              subst (λ xs. IsPrefix xs (events_of_part r (order ++ e ∷ []))) (sym (others r B differ))
              (subst (IsPrefix (events_of_part r B)) (sym (others r order differ))
              (shorter_begins (events_of_part r B) (events_of_part r order) (history_at histories r)
              (part_begins B (IsPrefix-trans B (B ++ e ∷ []) M (IsPrefix-append B (e ∷ [])) p) r)
              (order_begins r) (fewer r)))
        ]

    -- on this link all is put before with the event
    with_event : (link : PartLink) → IsSentOn M link → IsSentOn order link
        → IsPrefix (fed_on (order ++ e ∷ []) link) (put_on_link (order ++ e ∷ []) link)
    with_event link on mine =
        elim (cases_eq e.part link.reader) [
          | inl here ↦
              subst (λ xs. IsPrefix (written_on xs link.source) (put_on_link (order ++ e ∷ []) link))
              (subst (λ s. events_of_part s (B ++ e ∷ []) ≡ events_of_part s (order ++ e ∷ [])) here both)
              (IsPrefix-trans (fed_on (B ++ e ∷ []) link) (put_on_link (B ++ e ∷ []) link) (put_on_link (order ++ e ∷ []) link)
              (on (B ++ e ∷ []) p)
              (written_begins (events_of_part link.writer (B ++ e ∷ [])) (events_of_part link.writer (order ++ e ∷ []))
              link.sink (covers link.writer)))
          | inr differ ↦
              subst (λ xs. IsPrefix (written_on xs link.source) (put_on_link (order ++ e ∷ []) link))
              (sym (others link.reader order differ))
              (IsPrefix-trans (fed_on order link) (put_on_link order link) (put_on_link (order ++ e ∷ []) link)
              (mine order (IsPrefix-refl order))
              (written_begins (events_of_part link.writer order) (events_of_part link.writer (order ++ e ∷ [])) link.sink
              (events_begin link.writer order (order ++ e ∷ []) (IsPrefix-append order (e ∷ [])))))
        ]

    could_come : MayCome links order e
    could_come l x below begun begins =
        elim (prefix_of_push begun order e begins) [
          | inl earlier ↦ sent l x below begun earlier
          | inr now ↦
              subst (λ C. IsPrefix (fed_on C (get_or links l x)) (put_on_link C (get_or links l x))) (sym now)
              (with_event (get_or links l x) (sent-M l x below) (sent l x below))
        ]

    -- so it would not stand still
    not_still : ⊥
    not_still =
        let s = e.part in
        let h = history_at histories s in
        let n = length (events_of_part s B) in
        let pushed : events_of_part s (B ++ e ∷ []) ≡ events_of_part s B ++ e.event ∷ [] =
        events_of-push s B e ∙ ap (λ xs. events_of_part s B ++ xs) (event_of-own s e refl) in
        let begins : IsPrefix (events_of_part s B ++ e.event ∷ []) h =
        subst (λ xs. IsPrefix xs h) pushed (part_begins (B ++ e ∷ []) p s) in
        let long : length (events_of_part s B ++ e.event ∷ []) ≤ length h = length_of_prefix _ h begins in
        let more : length (events_of_part s B ++ e.event ∷ []) ≡ n + 1 = length_push (events_of_part s B) e.event in
        let count : n ≡ min (get_or at s 0) (length h) = ap length same ∙ count_is s in
        let place : get_or at s 0 ≡ n = omega (arith, long, more, count) in
        let event : get_or h (get_or at s 0) e.event ≡ e.event =
        ap (λ k. get_or h k e.event) place ∙ last_at (events_of_part s B) h e.event e.event begins in
        stuck s e.event (omega (arith, long, more, place))
        (subst (MayCome links order) (same_place e s (get_or h (get_or at s 0) e.event) refl (sym event)) could_come)

  -- a beginning of the join has of each part no more events than the order
  one_more : (B : List PartEvent) (e : PartEvent) → IsPrefix (B ++ e ∷ []) M
      → ((r : ℕ) → length (events_of_part r B) ≤ length (events_of_part r order))
      → (r : ℕ) → length (events_of_part r (B ++ e ∷ [])) ≤ length (events_of_part r order)
  one_more B e p fewer r =
      elim (cases_eq e.part r) [
        | inr differ ↦
            subst (λ xs. length xs ≤ length (events_of_part r order))
            (sym
            (events_of-push r B e ∙ ap (λ xs. events_of_part r B ++ xs) (event_of-other r e differ)
            ∙ append-nil (events_of_part r B)))
            (fewer r)
        | inl here ↦ subst (λ s. length (events_of_part s (B ++ e ∷ [])) ≤ length (events_of_part s order)) here own
      ]
    where
      pushed : length (events_of_part e.part (B ++ e ∷ [])) ≡ length (events_of_part e.part B) + 1
      pushed =
          ap length
          (events_of-push e.part B e ∙ ap (λ xs. events_of_part e.part B ++ xs) (event_of-own e.part e refl))
          ∙ length_push (events_of_part e.part B) e.event

      as_long : length (events_of_part e.part order) ≤ length (events_of_part e.part B)
          → events_of_part e.part B ≡ events_of_part e.part order
      as_long long =
          same_from_prefix (events_of_part e.part B) (events_of_part e.part order)
          (shorter_begins (events_of_part e.part B) (events_of_part e.part order) (history_at histories e.part)
          (part_begins B (IsPrefix-trans B (B ++ e ∷ []) M (IsPrefix-append B (e ∷ [])) p) e.part)
          (order_begins e.part) (fewer e.part))
          long

      own : length (events_of_part e.part (B ++ e ∷ [])) ≤ length (events_of_part e.part order)
      own =
          elim (cases_lt (length (events_of_part e.part B)) (length (events_of_part e.part order))) [
            | inl less ↦ let q = pushed in omega (arith, q, less)
            | inr long ↦ absurd (not_still B e p fewer (as_long long))
          ]

  all_more : (rest B : List PartEvent) → B ++ rest ≡ M
      → ((r : ℕ) → length (events_of_part r B) ≤ length (events_of_part r order))
      → (r : ℕ) → length (events_of_part r M) ≤ length (events_of_part r order)
  all_more [] B same h =
      subst (λ C. (r : ℕ) → length (events_of_part r C) ≤ length (events_of_part r order)) (sym (append-nil B) ∙ same) h
  all_more (e ∷ rest) B same h =
      let longer : (B ++ e ∷ []) ++ rest ≡ M = append_assoc B (e ∷ []) rest ∙ same in
      all_more rest (B ++ e ∷ []) longer (one_more B e (IsPrefix-from_rest (B ++ e ∷ []) rest M longer) h)

  pub none_behind : (r : ℕ) → length (events_of_part r M) ≤ get_or at r 0
  none_behind r =
      let few : length (events_of_part r M) ≤ length (events_of_part r order) = all_more M [] refl (λ s. omega arith) r in
      let count = count_is r in omega (arith, few, count)
