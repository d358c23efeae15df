-- Plain tests of orders of the events of parts. If they say yes, the run is joined, at rest, or has nothing on the way.
use Rattle.check_histories.proofs.Common.{nat_lt, if◌then◌else◌, int_eq, list_all, ◌≡◌, ℕ, suc, ◌≤◌, Bool, true, ◌&&◌, ◌||◌, List, [], ◌∷◌, ◌++◌, length, take, refl, sym, ap, ◌∙◌, subst, inl, inr, arith, and_parts, ltb-true, or_cases, cases_lt, both_ways, Decides-int_eq, get_or_past, take-append-le, IsPrefix, rest_of_prefix, length_of_prefix, Tables, channel_at, is_source, Event, written_on, Legal, IsQuiet, is_quiet, is_quiet-true, Legal-nil, each_below, each_below-at, Part, whole_channel, empty_part, part_at, IsCutSource, events_of_part, whole_history, IsSent, IsJoined, IsDelivered, AreQuiet}
use Rattle.kpn_net.proofs.Networks.{source_there}
use Rattle.kpn_parts.specs.declared.order.PartEvent.{PartEvent}
use Rattle.kpn_parts.proofs.Orders.{event_of-other}
use Rattle.check_histories.proofs.ListTests.{begins, equals, begins-true, equals-true}
use Rattle.check_histories.proofs.Passing.{passes, passes-legal}

int_eq-true : (x y : _) → int_eq x y ≡ true → x ≡ y
int_eq-true x y = (Decides-int_eq x y).0

take_all : {A : Type 0} (xs : List A) → take (length xs) xs ≡ xs
take_all [] = refl
take_all (x ∷ xs) = ap (λ ys. x ∷ ys) (take_all xs)

prefix_taken : {A : Type 0} (xs ys : List A) → IsPrefix xs ys → take (length xs) ys ≡ xs
prefix_taken xs ys p =
    let r = rest_of_prefix xs ys p in
    sym (ap (take (length xs)) r.1) ∙ take-append-le (length xs) xs r.0 (omega arith) ∙ take_all xs

-- ---- parts that are there

-- each event is of a part that is there
abbrev pub are_there : List Part → List PartEvent → Bool
are_there cut order = list_all (λ e. nat_lt e.part (length cut)) order

none_past : (cut : List Part) (order : List PartEvent) → are_there cut order ≡ true → (r : ℕ) → length cut ≤ r
    → events_of_part r order ≡ []
none_past cut [] e r past = refl
none_past cut (x ∷ order) e r past =
    let parts = and_parts _ _ e in
    let below = ltb-true x.part (length cut) parts.0 in
    ap (λ xs. xs ++ events_of_part r order) (event_of-other r x (λ same. absurd omega (arith, same, below, past)))
    ∙ none_past cut order parts.1 r past

legal_past : (r : ℕ) (cut : List Part) (order : List PartEvent) → are_there cut order ≡ true → length cut ≤ r
    → Legal (part_at cut r).tables (events_of_part r order)
legal_past r cut order e past =
    subst (λ part. Legal part.tables (events_of_part r order)) (sym (get_or_past cut r empty_part past))
    (subst (Legal empty_part.tables) (sym (none_past cut order e r past)) (Legal-nil empty_part.tables))

-- ---- legal, quiet

abbrev pub are_legal : List Part → (n : ℕ) → List PartEvent → Bool
are_legal cut n order =
    are_there cut order && each_below (λ r. passes (part_at cut r).tables n (events_of_part r order)) (length cut)

pub are_legal-true : (cut : List Part) (n : ℕ) (order : List PartEvent) → are_legal cut n order ≡ true → (r : ℕ)
    → Legal (part_at cut r).tables (events_of_part r order)
are_legal-true cut n order e r =
    let parts = and_parts _ _ e in
    elim (cases_lt r (length cut)) [
      | inl below ↦
          passes-legal (part_at cut r).tables n (events_of_part r order)
          (each_below-at (λ s. passes (part_at cut s).tables n (events_of_part s order)) (length cut) parts.1 r below)
      | inr past ↦ legal_past r cut order parts.0 past
    ]

quiet_past : (r : ℕ) (cut : List Part) (H : List Event) → length cut ≤ r → IsQuiet (part_at cut r).tables H
quiet_past r cut H past =
    subst (λ part. IsQuiet part.tables H) (sym (get_or_past cut r empty_part past))
    (record { each = λ p below. absurd omega (arith, below) })

abbrev pub are_quiet : List Part → List PartEvent → Bool
are_quiet cut order = each_below (λ r. is_quiet (part_at cut r).tables (events_of_part r order)) (length cut)

pub are_quiet-true : (cut : List Part) (order : List PartEvent) → are_quiet cut order ≡ true → AreQuiet cut order
are_quiet-true cut order e r =
    elim (cases_lt r (length cut)) [
      | inl below ↦
          is_quiet-true (part_at cut r).tables (events_of_part r order)
          (each_below-at (λ s. is_quiet (part_at cut s).tables (events_of_part s order)) (length cut) e r below)
      | inr past ↦ quiet_past r cut (events_of_part r order) past
    ]

-- ---- a test of each cut source

-- the channel is no cut source, or passes
abbrev if_cut : Tables → Part → (c : ℕ) → Bool → Bool
if_cut t part c passed =
    if is_source (channel_at part.tables c) then is_source (channel_at t (whole_channel part c)) || passed else true

if_cut-true : (t : Tables) (part : Part) (c : ℕ) (passed : Bool) → if_cut t part c passed ≡ true
    → IsCutSource t part c → passed ≡ true
if_cut-true t part c passed e cut =
    let k : (is_source (channel_at t (whole_channel part c)) || passed) ≡ true =
    subst (λ b. (if b then is_source (channel_at t (whole_channel part c)) || passed else true) ≡ true) cut.source e in
    elim (or_cases (is_source (channel_at t (whole_channel part c))) passed k) [
      | inl outside ↦ absurd (both_ways _ cut.cut outside)
      | inr yes' ↦ yes'
    ]

abbrev each_cut : Tables → List Part → (test : (r c : ℕ) → Bool) → Bool
each_cut t cut test =
    each_below (λ r. each_below (λ c. if_cut t (part_at cut r) c (test r c)) (length (part_at cut r).tables.channels))
    (length cut)

no_source_past : (t : Tables) (r : ℕ) (cut : List Part) (c : ℕ) → length cut ≤ r → IsCutSource t (part_at cut r) c → ⊥
no_source_past t r cut c past h =
    let none = subst (λ part. IsCutSource t part c) (get_or_past cut r empty_part past) h in
    let below = source_there empty_part.tables c none.source in omega (arith, below)

each_cut-true : (t : Tables) (cut : List Part) (test : (r c : ℕ) → Bool) → each_cut t cut test ≡ true → (r c : ℕ)
    → IsCutSource t (part_at cut r) c → test r c ≡ true
each_cut-true t cut test e r c h =
    elim (cases_lt r (length cut)) [
      | inl below ↦
          if_cut-true t (part_at cut r) c (test r c)
          (each_below-at (λ d. if_cut t (part_at cut r) d (test r d)) (length (part_at cut r).tables.channels)
          (each_below-at
          (λ s.
          each_below (λ d. if_cut t (part_at cut s) d (test s d)) (length (part_at cut s).tables.channels))
          (length cut) e r below)
          c (source_there (part_at cut r).tables c h.source))
          h
      | inr past ↦ absurd (no_source_past t r cut c past h)
    ]

-- ---- sent, delivered

abbrev is_sent : Tables → List Part → List PartEvent → (r c : ℕ) → Bool
is_sent t cut order r c =
    begins int_eq (written_on (events_of_part r order) c)
    (written_on (whole_history t cut order) (whole_channel (part_at cut r) c))

abbrev pub are_sent : Tables → List Part → List PartEvent → Bool
are_sent t cut order =
    each_below (λ k. each_cut t cut (is_sent t cut (take k order))) (suc (length order))

pub are_sent-true : (t : Tables) (cut : List Part) (order : List PartEvent) → are_sent t cut order ≡ true
    → (begun : List PartEvent) → IsPrefix begun order → (r c : ℕ) → IsCutSource t (part_at cut r) c
    → IsSent t cut begun r c
are_sent-true t cut order e begun begins' r c h =
    let long = length_of_prefix begun order begins' in
    subst (λ B. IsSent t cut B r c) (prefix_taken begun order begins')
    (begins-true int_eq int_eq-true _ _
    (each_cut-true t cut (is_sent t cut (take (length begun) order))
    (each_below-at (λ k. each_cut t cut (is_sent t cut (take k order))) (suc (length order)) e (length begun)
    (omega arith))
    r c h))

pub joins-true : (t : Tables) (cut : List Part) (n : ℕ) (order : List PartEvent) → are_legal cut n order ≡ true
    → are_sent t cut order ≡ true → IsJoined t cut order
joins-true t cut n order legal sent =
    record { legal = are_legal-true cut n order legal; sent = are_sent-true t cut order sent }

abbrev has_all : Tables → List Part → List PartEvent → (r c : ℕ) → Bool
has_all t cut order r c =
    equals int_eq (written_on (events_of_part r order) c)
    (written_on (whole_history t cut order) (whole_channel (part_at cut r) c))

abbrev pub are_delivered : Tables → List Part → List PartEvent → Bool
are_delivered t cut order = each_cut t cut (has_all t cut order)

pub are_delivered-true : (t : Tables) (cut : List Part) (order : List PartEvent) → are_delivered t cut order ≡ true
    → IsDelivered t cut order
are_delivered-true t cut order e =
    record {
      each = λ r c h.
          equals-true int_eq int_eq-true _ _ (each_cut-true t cut (has_all t cut order) e r c h);
    }
