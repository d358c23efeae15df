-- What links carry, event by event.
use Rattle.kpn_parts.proofs.Common.{◌≡◌, ◌↔◌, ℕ, ◌+◌, ◌<◌, ◌≤◌, Bool, true, false, ℤ, List, [], ◌∷◌, ◌++◌, length, get_or, set, Option, Some, None, refl, sym, ap, ◌∙◌, subst, inl, inr, arith, cases_eq, both_ways, get_or_default, length-set, get_or-set_same, get_or-set_other, IsPrefix-refl, length_of_prefix, PartEvent, PartLink, Carried, put_on_link, fed_on, IsSentOn, AreSent, IsCarriedOn, IsCarried, AreCarried, CarryNothing, CarryMore, FedAtMost, MayCome, items_on, items_of, IsNext}
use Rattle.kpn_parts.proofs.Sending.{sent_start, sent_next, next_if_sent}

-- ---- one link and one event

-- a feed of the next item keeps the link sent, and no other
pub next_exactly : (link : PartLink) (order : List PartEvent) (e : PartEvent) (items : List ℤ) (fed : ℕ)
    (put feed : Option ℤ) → IsCarriedOn link order items fed → items_on link.writer link.sink e ≡ items_of put
    → items_on link.reader link.source e ≡ items_of feed
    → IsNext (items ++ items_of put) fed feed ↔ IsSentOn (order ++ e ∷ []) link
next_exactly link order e items fed put feed carried puts feeds = (
  λ next. by_feed feed feeds next,
  λ sent. next_if_sent link order e items fed put feed (items ++ items_of put) carried puts feeds refl sent,
)
  where
    by_feed : (feed' : Option ℤ) → items_on link.reader link.source e ≡ items_of feed'
        → IsNext (items ++ items_of put) fed feed' → IsSentOn (order ++ e ∷ []) link
    by_feed None is next =
        (sent_next link order e items fed put None (items ++ items_of put) carried puts is refl fed refl).sent
    by_feed (Some v) is next =
        (sent_next link order e items fed put (Some v) (items ++ items_of put) carried puts is refl (fed + 1)
        (refl, next)).sent

pub fed_at_most : (link : PartLink) (order : List PartEvent) (items : List ℤ) (fed : ℕ) → IsCarriedOn link order items fed
    → fed ≤ length items
fed_at_most link order items fed h =
    let long = length_of_prefix (fed_on order link) (put_on_link order link) (h.sent order (IsPrefix-refl order)) in
    let a = h.count in let b = ap length h.put in omega (arith, long, a, b)

-- ---- all links

pub carried_start : (links : List PartLink) (carried : List Carried) → CarryNothing carried (length links)
    → AreCarried links [] carried
carried_start links carried h =
    record {
      same = h.count;
      each = λ l x d below.
          let none = h.each l d below in
          sent_start (get_or links l x) [] (get_or carried l d).items.items (get_or carried l d).fed refl none.0 none.1;
    }

pub are_fed_at_most : (links : List PartLink) (order : List PartEvent) (carried : List Carried)
    → AreCarried links order carried → FedAtMost carried
are_fed_at_most [] order carried h l d below = let none = h.same in absurd omega (arith, none, below)
are_fed_at_most (x ∷ links) order carried h l d below =
    fed_at_most (get_or (x ∷ links) l x) order (get_or carried l d).items.items (get_or carried l d).fed
    (h.each l x d (subst (λ n. l < n) h.same below))

pub carried_next : (links : List PartLink) (order : List PartEvent) (e : PartEvent) (old new : List Carried)
    → AreCarried links order old → MayCome links order e → CarryMore links e old new (length links)
    → AreCarried links (order ++ e ∷ []) new
carried_next links order e old new h may more =
    record {
      same = more.same ∙ h.same;
      each = λ l x d below. more.below l x d below order (h.each l x d below) (may l x below);
    }

pub carried_sent : (links : List PartLink) (order : List PartEvent) (carried : List Carried)
    → AreCarried links order carried → AreSent links order
carried_sent links order [] h l x below = let none = h.same in absurd omega (arith, none, below)
carried_sent links order (c ∷ carried) h l x below = (h.each l x c below).sent

-- ---- the loops

pub more_next : (links : List PartLink) (e : PartEvent) (old new : List Carried) (n : ℕ) (y : PartLink) (c b : Carried)
    → CarryMore links e old new n → n < length links → n < length old → c ≡ get_or new n b → (after : Carried)
    → ((order : List PartEvent) → IsCarried (get_or links n y) order c
    → IsSentOn (order ++ e ∷ []) (get_or links n y) → IsCarried (get_or links n y) (order ++ e ∷ []) after)
    → CarryMore links e old (set new n after) (n + 1)
more_next links e old new n y c b h below there at after step =
    let inside = subst (λ k. n < k) (sym h.same) there in
    record {
      same = length-set new n after ∙ h.same;
      below = λ l x d less order was sent. elim (cases_eq l n) [
        | inl same ↦
            subst (λ k. IsCarried (get_or links k x) (order ++ e ∷ []) (get_or (set new n after) k d)) (sym same)
            (subst (IsCarried (get_or links n x) (order ++ e ∷ [])) (sym (get_or-set_same new n after d inside))
            (subst (λ z. IsCarried z (order ++ e ∷ []) after) (get_or_default links n y x below)
            (step order
            (subst (IsCarried (get_or links n y) order)
            (sym (at ∙ get_or_default new n b d inside ∙ h.above n d (omega arith)))
            (subst (λ z. IsCarried z order (get_or old n d)) (get_or_default links n x y below)
            (subst (λ k. IsCarried (get_or links k x) order (get_or old k d)) same was)))
            (subst (IsSentOn (order ++ e ∷ [])) (get_or_default links n x y below)
            (subst (λ k. IsSentOn (order ++ e ∷ []) (get_or links k x)) same sent)))))
        | inr differ ↦
            subst (IsCarried (get_or links l x) (order ++ e ∷ [])) (sym (get_or-set_other new n l after d differ))
            (h.below l x d (omega (arith, less, differ)) order was sent)
      ];
      above = λ l d past.
          get_or-set_other new n l after d (λ same. omega (arith, same, past)) ∙ h.above l d (omega (arith, past));
    }

-- ---- the test of an event

-- one link more
links_next : (order : List PartEvent) (links : List PartLink) (l : ℕ) (d : PartLink)
    → ((j : ℕ) (x : PartLink) → j < l → IsSentOn order (get_or links j x)) → l < length links
    → IsSentOn order (get_or links l d) → (j : ℕ) (x : PartLink) → j < l + 1 → IsSentOn order (get_or links j x)
links_next order links l d before below now j x h =
    elim (cases_eq j l) [
      | inl same ↦
          subst (λ k. IsSentOn order (get_or links k x)) (sym same)
          (subst (IsSentOn order) (get_or_default links l d x below) now)
      | inr differ ↦ before j x (omega arith)
    ]

-- what the test of one link shows
abbrev pub Tests : PartLink → Carried → PartEvent → Bool → Type 0
Tests link carried e result =
    (order : List PartEvent) → IsCarried link order carried → ((result ≡ true) ↔ IsSentOn (order ++ e ∷ []) link)

pub refused : (links : List PartLink) (carried : List Carried) (e : PartEvent) (l : ℕ) (y : PartLink) (b one : Carried)
    (result : Bool) → l < length links → one ≡ get_or carried l b → Tests (get_or links l y) one e result
    → result ≡ false → (order : List PartEvent) → AreCarried links order carried → MayCome links order e → ⊥
refused links carried e l y b one result below at tests fails order h may =
    let is =
    (tests order (subst (IsCarried (get_or links l y) order) (sym at) (h.each l y b below))).1 (may l y below) in
    both_ways result fails is

pub accepted : (links : List PartLink) (carried : List Carried) (e : PartEvent) (l : ℕ) (y : PartLink) (b one : Carried)
    (result : Bool) → l < length links → one ≡ get_or carried l b → Tests (get_or links l y) one e result
    → result ≡ true
    → ((order : List PartEvent) → AreCarried links order carried → (j : ℕ) (x : PartLink) → j < l
    → IsSentOn (order ++ e ∷ []) (get_or links j x))
    → (order : List PartEvent) → AreCarried links order carried → (j : ℕ) (x : PartLink) → j < l + 1
    → IsSentOn (order ++ e ∷ []) (get_or links j x)
accepted links carried e l y b one result below at tests is before order h =
    links_next (order ++ e ∷ []) links l y (before order h) below
    ((tests order (subst (IsCarried (get_or links l y) order) (sym at) (h.each l y b below))).0 is)
