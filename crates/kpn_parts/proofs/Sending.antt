-- What was put on a link and fed on it, event by event.
use Rattle.kpn_parts.proofs.Common.{flat_map, ◌≡◌, ℕ, ◌+◌, ℤ, List, [], ◌∷◌, ◌++◌, length, slice_get, Option, Some, None, refl, sym, ap, ◌∙◌, subst, inl, inr, arith, append-nil, flat_map-append, IsPrefix, IsPrefix-refl, IsPrefix-trans, IsPrefix-append, prefix_of_push, nil_from_prefix, written_in, written_on, PartEvent, PartLink, event_of, events_of_part, put_on_link, fed_on, IsSentOn, IsCarriedOn, items_on, items_of, IsNext, FeedsNext}
use Rattle.kpn_parts.proofs.Orders.{events_of-push}

-- ---- lists

prefix_more : (xs ys : List ℤ) (v : ℤ) → IsPrefix xs ys → slice_get ys (length xs) ≡ Some v → IsPrefix (xs ++ v ∷ []) ys
prefix_more [] [] v p e = absurd cc
prefix_more [] (y ∷ ys) v p e = let same : v ≡ y = cc in (same, tt)
prefix_more (x ∷ xs) [] v p e = absurd p
prefix_more (x ∷ xs) (y ∷ ys) v p e = (p.0, prefix_more xs ys v p.1 e)

prefix_at : (xs ys : List ℤ) (v : ℤ) → IsPrefix (xs ++ v ∷ []) ys → slice_get ys (length xs) ≡ Some v
prefix_at [] [] v p = absurd p
prefix_at [] (y ∷ ys) v p = ap (λ x. Some x) (sym p.0)
prefix_at (x ∷ xs) [] v p = absurd p
prefix_at (x ∷ xs) (y ∷ ys) v p = prefix_at xs ys v p.1

length_push : (xs : List ℤ) (v : ℤ) → length (xs ++ v ∷ []) ≡ length xs + 1
length_push [] v = refl
length_push (x ∷ xs) v = let e = length_push xs v in omega (arith, e)

-- ---- one event more

written-push : (B : List PartEvent) (e : PartEvent) (r c : ℕ)
    → written_on (events_of_part r (B ++ e ∷ [])) c ≡ written_on (events_of_part r B) c ++ items_on r c e
written-push B e r c =
    ap (flat_map (written_in c)) (events_of-push r B e) ∙ flat_map-append (written_in c) (events_of_part r B) (event_of r e)

pub sent_start : (link : PartLink) (B : List PartEvent) (items : List ℤ) (fed : ℕ) → B ≡ [] → items ≡ [] → fed ≡ 0
    → IsCarriedOn link B items fed
sent_start link B items fed none e f =
    subst (λ H. IsCarriedOn link H items fed) (sym none)
    (record {
      put = e;
      count = f;
      sent = λ begun begins.
          let same = nil_from_prefix begun begins in
          subst (λ C. IsPrefix (fed_on C link) (put_on_link C link)) (sym same) tt;
    })

module _ (link : PartLink) (B : List PartEvent) (e : PartEvent) (items : List ℤ) (fed : ℕ) (put feed : Option ℤ)
    (after : List ℤ) (before : IsCarriedOn link B items fed) (puts : items_on link.writer link.sink e ≡ items_of put)
    (feeds : items_on link.reader link.source e ≡ items_of feed) (more : after ≡ items ++ items_of put) where
  after_is : after ≡ put_on_link (B ++ e ∷ []) link
  after_is =
      more ∙ ap (λ xs. xs ++ items_of put) before.put ∙ ap (λ xs. put_on_link B link ++ xs) (sym puts)
      ∙ sym (written-push B e link.writer link.sink)

  fed_is : fed_on (B ++ e ∷ []) link ≡ fed_on B link ++ items_of feed
  fed_is = written-push B e link.reader link.source ∙ ap (λ xs. fed_on B link ++ xs) feeds

  fed_begins : IsPrefix (fed_on B link) after
  fed_begins =
      IsPrefix-trans (fed_on B link) (put_on_link B link) after (before.sent B (IsPrefix-refl B))
      (subst (λ xs. IsPrefix xs after) before.put
      (subst (IsPrefix items) (sym more) (IsPrefix-append items (items_of put))))

  still_sent : (feed' : Option ℤ) → feed ≡ feed' → (now : ℕ) → FeedsNext after fed feed' now
      → IsPrefix (fed_on B link ++ items_of feed') after
  still_sent None f now h = subst (λ xs. IsPrefix xs after) (sym (append-nil (fed_on B link))) fed_begins
  still_sent (Some v) f now h =
      prefix_more (fed_on B link) after v fed_begins (subst (λ n. slice_get after n ≡ Some v) before.count h.1)

  counted_now : (feed' : Option ℤ) (now : ℕ) → FeedsNext after fed feed' now
      → now ≡ length (fed_on B link ++ items_of feed')
  counted_now None now h = h ∙ before.count ∙ ap length (sym (append-nil (fed_on B link)))
  counted_now (Some v) now h =
      h.0 ∙ ap (λ n. n + 1) before.count ∙ sym (length_push (fed_on B link) v)

  pub sent_next : (now : ℕ) → FeedsNext after fed feed now → IsCarriedOn link (B ++ e ∷ []) after now
  sent_next now h =
      record {
        put = after_is;
        count = counted_now feed now h ∙ ap length (sym fed_is);
        sent = λ begun begins. elim (prefix_of_push begun B e begins) [
          | inl earlier ↦ before.sent begun earlier
          | inr same ↦
              subst (λ C. IsPrefix (fed_on C link) (put_on_link C link)) (sym same)
              (subst (IsPrefix (fed_on (B ++ e ∷ []) link)) after_is
              (subst (λ xs. IsPrefix xs after) (sym fed_is) (still_sent feed refl now h)))
        ];
      }

  is_next : (feed' : Option ℤ) → IsPrefix (fed_on B link ++ items_of feed') after → IsNext after fed feed'
  is_next None p = tt
  is_next (Some v) p =
      subst (λ n. slice_get after n ≡ Some v) (sym before.count) (prefix_at (fed_on B link) after v p)

  pub next_if_sent : IsSentOn (B ++ e ∷ []) link → IsNext after fed feed
  next_if_sent sent =
      is_next feed
      (subst (λ xs. IsPrefix xs after) fed_is
      (subst (IsPrefix (fed_on (B ++ e ∷ []) link)) (sym after_is)
      (sent (B ++ e ∷ []) (IsPrefix-refl (B ++ e ∷ [])))))
