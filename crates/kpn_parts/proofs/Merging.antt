-- An order that is made of the beginnings of histories, event by event.
use Rattle.kpn_parts.proofs.Common.{◌≡◌, ◌↔◌, Bool, true, false, ℕ, zero, suc, ◌+◌, ◌<◌, ◌≤◌, List, [], ◌∷◌, ◌++◌, length, take, get_or, set, replicate, refl, sym, ap, ◌∙◌, subst, inl, inr, arith, cases_eq, cases_lt, both_ways, append-nil, take_more, get_or_default, get_or_past, take_all, length-set, length-replicate, get_or-set_same, get_or-set_other, IsPrefix, IsPrefix-refl, IsPrefix-trans, IsPrefix-append, length_of_prefix, same_from_prefix, Event, PartEvent, events_of_part, PartLink, Carried, IsJoinOf, history_at, AreCarried, CarryNothing, CarryMore, MayCome, SoFar, StandsStill, IsStuck, UsesAll, ComesInNone}
use Rattle.kpn_parts.proofs.Carrying.{carried_start, carried_next, carried_sent}
use Rattle.kpn_parts.proofs.Stuck.{none_behind}
use Rattle.kpn_parts.proofs.Orders.{event_of-own, event_of-other, events_of-push}

-- ---- the events of one part

-- the first k events of part r are in the order, which has of other parts what it had
pub record PartSoFar (history : List Event) (r : ℕ) (first order : List PartEvent) (k : ℕ) : Type 0 where
  pub own : events_of_part r order ≡ take k history
  pub other : (s : ℕ) → (s ≡ r → ⊥) → events_of_part s order ≡ events_of_part s first

pub part_next : (history : List Event) (r : ℕ) (first order after : List PartEvent) (k : ℕ) (d : Event)
    (e : PartEvent) → PartSoFar history r first order k → k < length history → e.part ≡ r
    → e.event ≡ get_or history k d → after ≡ order ++ e ∷ [] → PartSoFar history r first after (k + 1)
part_next history r first order after k d e before below part event more =
    record {
      own =
          ap (events_of_part r) more ∙ events_of-push r order e
          ∙ ap (λ xs. events_of_part r order ++ xs) (event_of-own r e part)
          ∙ ap (λ xs. xs ++ e.event ∷ []) before.own
          ∙ ap (λ x. take k history ++ x ∷ []) event
          ∙ sym (take_more history k d below);
      other = λ s differ.
          ap (events_of_part s) more ∙ events_of-push s order e
          ∙ ap (λ xs. events_of_part s order ++ xs) (event_of-other s e (λ same. differ (sym same ∙ part)))
          ∙ append-nil (events_of_part s order)
          ∙ before.other s differ;
    }

-- the same, with what the links carry
pub record GoesOn (history : List Event) (r : ℕ) (links : List PartLink) (first order : List PartEvent)
    (carried : List Carried) (k : ℕ) : Type 0 where
  pub part : PartSoFar history r first order k
  pub begins : IsPrefix first order
  pub on_links : AreCarried links order carried

pub goes_on_start : (history : List Event) (r : ℕ) (links : List PartLink) (order : List PartEvent)
    (carried : List Carried) (k : ℕ) → events_of_part r order ≡ take k history → AreCarried links order carried
    → GoesOn history r links order order carried k
goes_on_start history r links order carried k own h =
    record {
      part = record { own = own; other = λ s differ. refl };
      begins = IsPrefix-refl order;
      on_links = h;
    }

pub goes_on_next : (history : List Event) (r : ℕ) (links : List PartLink) (first order after : List PartEvent)
    (carried now : List Carried) (k : ℕ) (d : Event) (e : PartEvent) → GoesOn history r links first order carried k
    → k < length history → e.part ≡ r → e.event ≡ get_or history k d → MayCome links order e
    → CarryMore links e carried now (length links) → after ≡ order ++ e ∷ []
    → GoesOn history r links first after now (k + 1)
goes_on_next history r links first order after carried now k d e before below part event may more is =
    record {
      part = part_next history r first order after k d e before.part below part event is;
      begins =
          IsPrefix-trans first order after before.begins
          (subst (IsPrefix order) (sym is) (IsPrefix-append order (e ∷ [])));
      on_links =
          subst (λ B. AreCarried links B now) (sym is)
          (carried_next links order e carried now before.on_links may more);
    }

-- an event that may not come at the end of the order
pub still_there : (links : List PartLink) (order : List PartEvent) (r : ℕ) (history : List Event) (k : ℕ) (b : Event)
    (result : Bool) → ((result ≡ true) ↔ MayCome links order (record { part = r; event = get_or history k b }))
    → result ≡ false → (d : Event) → k < length history
    → MayCome links order (record { part = r; event = get_or history k d }) → ⊥
still_there links order r history k b result tests fails d below may =
    both_ways result fails
    (tests.1
    (subst (λ event. MayCome links order (record { part = r; event = event })) (get_or_default history k d b below)
    may))

-- ---- all parts

zero_at : (n r : ℕ) → ◌≡◌ {A = ℕ} (get_or (replicate n 0) r 0) 0
zero_at zero r = refl
zero_at (suc n) zero = refl
zero_at (suc n) (suc r) = zero_at n r

pub so_far_start : (histories : List (List Event)) (links : List PartLink) (at : List ℕ) (order : List PartEvent)
    (carried : List Carried) → at ≡ replicate (length histories) 0 → order ≡ []
    → CarryNothing carried (length links) → SoFar histories links at order carried
so_far_start histories links at order carried zeros none nothing =
    record {
      parts = ap length zeros ∙ length-replicate (length histories) 0;
      each = λ r.
          ap (events_of_part r) none
          ∙ sym
          (ap (λ n. take n (history_at histories r))
          (ap (λ xs. get_or xs r 0) zeros ∙ zero_at (length histories) r));
      on_links = subst (λ B. AreCarried links B carried) (sym none) (carried_start links carried nothing);
    }

so_far_next : (histories : List (List Event)) (links : List PartLink) (at : List ℕ) (order after : List PartEvent)
    (carried now : List Carried) (r to : ℕ) (d : List Event) → SoFar histories links at order carried
    → r < length histories → events_of_part r after ≡ take to (get_or histories r d)
    → ((s : ℕ) → (s ≡ r → ⊥) → events_of_part s after ≡ events_of_part s order) → AreCarried links after now
    → SoFar histories links (set at r to) after now
so_far_next histories links at order after carried now r to d before below own other links_now =
    record {
      parts = length-set at r to ∙ before.parts;
      each = λ s. elim (cases_eq s r) [
        | inl same ↦
            subst (λ x. events_of_part x after ≡ take (get_or (set at r to) x 0) (history_at histories x)) (sym same)
            (own ∙ ap (take to) (get_or_default histories r d [] below)
            ∙ sym
            (ap (λ n. take n (history_at histories r))
            (get_or-set_same at r to 0 (subst (λ n. r < n) (sym before.parts) below))))
        | inr differ ↦
            other s differ ∙ before.each s
            ∙ sym (ap (λ n. take n (history_at histories s)) (get_or-set_other at r s to 0 differ))
      ];
      on_links = links_now;
    }

-- a round that has gone over the parts below r; if it added nothing, these stand still
pub record Round (histories : List (List Event)) (links : List PartLink) (first : List PartEvent) (at : List ℕ)
    (order : List PartEvent) (carried : List Carried) (r : ℕ) : Type 0 where
  pub so_far : SoFar histories links at order carried
  pub begins : IsPrefix first order
  pub idle : length order ≡ length first → (j : ℕ) → j < r → StandsStill histories links at order j

pub round_start : (histories : List (List Event)) (links : List PartLink) (at : List ℕ) (order : List PartEvent)
    (carried : List Carried) → SoFar histories links at order carried → Round histories links order at order carried 0
round_start histories links at order carried h =
    record { so_far = h; begins = IsPrefix-refl order; idle = λ same j below. absurd omega (arith, below) }

pub round_next : (histories : List (List Event)) (links : List PartLink) (first : List PartEvent) (at : List ℕ)
    (order after : List PartEvent) (carried now : List Carried) (r to : ℕ) (d history : List Event)
    → history ≡ get_or histories r d → Round histories links first at order carried r → r < length histories
    → events_of_part r after ≡ take to history
    → ((s : ℕ) → (s ≡ r → ⊥) → events_of_part s after ≡ events_of_part s order) → IsPrefix order after
    → AreCarried links after now
    → ((e : Event) → to < length history
    → MayCome links after (record { part = r; event = get_or history to e }) → ⊥)
    → Round histories links first (set at r to) after now (r + 1)
round_next histories links first at order after carried now r to d history lent before below own other begins links_now
    still =
    record {
      so_far =
          so_far_next histories links at order after carried now r to d before.so_far below (own ∙ ap (take to) lent)
          other links_now;
      begins = IsPrefix-trans first order after before.begins begins;
      idle = λ same j less. elim (cases_eq j r) [
        | inl here ↦ subst (StandsStill histories links (set at r to) after) (sym here) standing
        | inr differ ↦ staying same j differ (before_idle same j (omega (arith, less, differ)))
      ];
    }
  where
    inside : r < length at
    inside = subst (λ n. r < n) (sym before.so_far.parts) below

    standing : StandsStill histories links (set at r to) after r
    standing e left may =
        subst
        (λ n. n < length (history_at histories r)
        → MayCome links after (record { part = r; event = get_or (history_at histories r) n e }) → ⊥)
        (sym (get_or-set_same at r to 0 inside))
        (subst
        (λ h. to < length h → MayCome links after (record { part = r; event = get_or h to e }) → ⊥)
        (lent ∙ get_or_default histories r d [] below) (still e))
        left may

    short : length after ≡ length first → length after ≤ length order
    short same =
        let long = length_of_prefix first order before.begins in omega (arith, same, long)

    before_idle : length after ≡ length first → (j : ℕ) → j < r → StandsStill histories links at order j
    before_idle same =
        let long = length_of_prefix first order before.begins in
        let longer = length_of_prefix order after begins in
        before.idle (omega (arith, same, long, longer))

    staying : length after ≡ length first → (j : ℕ) → (j ≡ r → ⊥) → StandsStill histories links at order j
        → StandsStill histories links (set at r to) after j
    staying same j differ h e left may =
        subst
        (λ n. n < length (history_at histories j)
        → MayCome links after (record { part = j; event = get_or (history_at histories j) n e }) → ⊥)
        (sym (get_or-set_other at r j to 0 differ))
        (subst
        (λ B. get_or at j 0 < length (history_at histories j)
        → MayCome links B (record { part = j; event = get_or (history_at histories j) (get_or at j 0) e }) → ⊥)
        (same_from_prefix order after begins (short same)) (h e))
        left may

pub round_all : (histories : List (List Event)) (links : List PartLink) (first : List PartEvent) (at : List ℕ)
    (order : List PartEvent) (carried : List Carried) (r : ℕ) → Round histories links first at order carried r
    → length histories ≤ r → length order ≡ length first → IsStuck histories links at order
round_all histories links first at order carried r h past same j =
    elim (cases_lt j r) [
      | inl below ↦ h.idle same j below
      | inr above ↦ nothing_there (get_or_past histories j [] (omega (arith, past, above)))
    ]
  where
    nothing_there : history_at histories j ≡ [] → StandsStill histories links at order j
    nothing_there none e left may =
        let no : get_or at j 0 < 0 = subst (λ h. get_or at j 0 < length h) none left in omega (arith, no)

-- ---- the end

pub joined_all : (histories : List (List Event)) (links : List PartLink) (at : List ℕ) (order : List PartEvent)
    (carried : List Carried) → SoFar histories links at order carried → UsesAll histories at
    → IsJoinOf histories links order
joined_all histories links at order carried h uses =
    record {
      whole = λ r. h.each r ∙ take_all (get_or at r 0) (history_at histories r) (uses r);
      sent = carried_sent links order carried h.on_links;
    }

pub comes_in_none : (histories : List (List Event)) (links : List PartLink) (at : List ℕ) (order : List PartEvent)
    (carried : List Carried) → SoFar histories links at order carried → IsStuck histories links at order → (r : ℕ)
    → get_or at r 0 < length (history_at histories r) → ComesInNone histories links r (get_or at r 0)
comes_in_none histories links at order carried h stuck r left =
    record {
      there = left;
      never = λ other begin sent.
          none_behind histories links at order h.each (carried_sent links order carried h.on_links) stuck other begin sent
          r;
    }
