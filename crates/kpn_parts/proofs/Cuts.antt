-- What is decided of a cut: parts whose channels differ, and processes that each have one home.
use Rattle.kpn_parts.proofs.Common.{◌≡◌, ◌≢◌, ℕ, ◌+◌, ◌<◌, ◌≤◌, ◌⊎◌, true, false, Bool, List, [], zero, suc, ◌∷◌, ◌++◌, length, get_or, set, replicate, refl, sym, ap, ◌∙◌, subst, inl, inr, arith, Option, Some, None, Result, Ok, Err, IfOk, IfSome, cases_eq, cases_lt, both_ways, get_or-set_same, get_or-set_other, get_or_default, get_or_past, Tables, source_there, PartLink, Part, whole_process, whole_channel, empty_part, part_at, HasHome, IsPart, AreOnce, IsCutSource, EndsIn, HasLink, AreLinks}
use Rattle.std.proofs.lemmas.List.Elements.{Contains-append_left, Contains-append_right}

-- the first channels of a part are different ones in the whole
abbrev pub DifferBelow : Part → (n : ℕ) → Type 0
DifferBelow part n = (c d : ℕ) → c < n → d < n → whole_channel part c ≡ whole_channel part d → c ≡ d

pub differ_next : (part : Part) (n : ℕ) → DifferBelow part n
    → ((d : ℕ) → d < n → whole_channel part n ≢ whole_channel part d) → DifferBelow part (n + 1)
differ_next part n before new c d below under same =
    elim (cases_eq c n) [
      | inl last ↦
          elim (cases_eq d n) [
            | inl too ↦ last ∙ sym too
            | inr other ↦
                absurd (new d (omega (arith, under)) (subst (λ x. whole_channel part x ≡ whole_channel part d) last same))
          ]
      | inr first ↦
          elim (cases_eq d n) [
            | inl too ↦
                absurd
                (new c (omega (arith, below)) (sym (subst (λ x. whole_channel part c ≡ whole_channel part x) too same)))
            | inr other ↦ before c d (omega (arith, below)) (omega (arith, under)) same
          ]
    ]

-- ---- an order of places, one part after the other

-- place q of part s comes before place p of part r
abbrev pub IsBefore : (s q r p : ℕ) → Type 0
IsBefore s q r p = (s < r) ⊎ ((s ≡ r) × (q < p))

-- whether it comes before the next place, it comes before this one or is this one
pub before_next : (s q r p : ℕ) → IsBefore s q r (p + 1) → IsBefore s q r p ⊎ ((s ≡ r) × (q ≡ p))
before_next s q r p (inl less) = inl (inl less)
before_next s q r p (inr here) =
    elim (cases_eq q p) [
      | inl last ↦ inr (here.0, last)
      | inr first ↦ inl (inr (here.0, omega (arith, here.1)))
    ]

-- ---- the processes of the whole that were seen in the parts

-- these are marked, each was seen once
pub record AreSeen (cut : List Part) (r p : ℕ) (seen : List Bool) : Type 0 where
  pub homes : (w : ℕ) → get_or seen w false ≡ true → HasHome cut w
  pub marked : (s q : ℕ) → IsBefore s q r p → q < length (part_at cut s).tables.instances
      → get_or seen (whole_process (part_at cut s) q) false ≡ true
  pub once : (s u q v : ℕ) → IsBefore s q r p → IsBefore u v r p → q < length (part_at cut s).tables.instances
      → v < length (part_at cut u).tables.instances
      → whole_process (part_at cut s) q ≡ whole_process (part_at cut u) v → (s ≡ u) × (q ≡ v)

unmarked : (n w : ℕ) → get_or (replicate n false) w false ≡ true → ⊥
unmarked zero w is = absurd cc
unmarked (suc n) zero is = absurd cc
unmarked (suc n) (suc w) is = unmarked n w is

pub nothing_before : (s q : ℕ) → IsBefore s q 0 0 → ⊥
nothing_before s q (inl less) = absurd omega (arith, less)
nothing_before s q (inr here) = absurd omega (arith, here.1)

pub seen_start : (cut : List Part) (n : ℕ) → AreSeen cut 0 0 (replicate n false)
seen_start cut n =
    record {
      homes = λ w is. absurd (unmarked n w is);
      marked = λ s q before below. absurd (nothing_before s q before);
      once = λ s u q v before other below under same. absurd (nothing_before s q before);
    }

pub seen_next : (cut : List Part) (r p w : ℕ) (seen : List Bool) → AreSeen cut r p seen
    → p < length (part_at cut r).tables.instances → whole_process (part_at cut r) p ≡ w → w < length seen
    → get_or seen w false ≡ false → AreSeen cut r (p + 1) (set seen w true)
seen_next cut r p w seen h there is within new =
    record {
      homes = λ x marked. home_of x marked (cases_eq x w);
      marked = λ s q before below. mark_of s q below (before_next s q r p before);
      once = λ s u q v before other below under same.
          once_of s u q v below under same (before_next s q r p before) (before_next u v r p other);
    }
  where
    home_of : (x : ℕ) → get_or (set seen w true) x false ≡ true → (x ≡ w) ⊎ (x ≡ w → ⊥) → HasHome cut x
    home_of x marked (inl same) = record { part = r; process = p; there = there; is = is ∙ sym same }
    home_of x marked (inr other) = h.homes x (sym (get_or-set_other seen w x true false other) ∙ marked)

    mark_of : (s q : ℕ) → q < length (part_at cut s).tables.instances → IsBefore s q r p ⊎ ((s ≡ r) × (q ≡ p))
        → get_or (set seen w true) (whole_process (part_at cut s) q) false ≡ true
    mark_of s q below (inl before) =
        elim (cases_eq (whole_process (part_at cut s) q) w) [
          | inl same ↦
              ap (λ x. get_or (set seen w true) x false) same ∙ get_or-set_same seen w true false within
          | inr other ↦ get_or-set_other seen w _ true false other ∙ h.marked s q before below
        ]
    mark_of s q below (inr last) =
        ap (λ x. get_or (set seen w true) x false)
        (ap (λ y. whole_process (part_at cut y) q) last.0 ∙ ap (whole_process (part_at cut r)) last.1 ∙ is)
        ∙ get_or-set_same seen w true false within

    -- what was seen before is not the new one
    differs : (s q : ℕ) → IsBefore s q r p → q < length (part_at cut s).tables.instances
        → whole_process (part_at cut s) q ≡ w → ⊥
    differs s q before below same =
        both_ways _ new (subst (λ x. get_or seen x false ≡ true) same (h.marked s q before below))

    at_last : (s q : ℕ) → (s ≡ r) × (q ≡ p) → whole_process (part_at cut s) q ≡ w
    at_last s q last =
        ap (λ y. whole_process (part_at cut y) q) last.0 ∙ ap (whole_process (part_at cut r)) last.1 ∙ is

    once_of : (s u q v : ℕ) → q < length (part_at cut s).tables.instances
        → v < length (part_at cut u).tables.instances
        → whole_process (part_at cut s) q ≡ whole_process (part_at cut u) v
        → IsBefore s q r p ⊎ ((s ≡ r) × (q ≡ p)) → IsBefore u v r p ⊎ ((u ≡ r) × (v ≡ p)) → (s ≡ u) × (q ≡ v)
    once_of s u q v below under same (inl before) (inl other) = h.once s u q v before other below under same
    once_of s u q v below under same (inl before) (inr last) =
        absurd (differs s q before below (same ∙ at_last u v last))
    once_of s u q v below under same (inr last) (inl other) =
        absurd (differs u v other under (sym same ∙ at_last s q last))
    once_of s u q v below under same (inr last) (inr too) = (last.0 ∙ sym too.0, last.1 ∙ sym too.1)

in_part : (cut : List Part) (s q r p : ℕ) → length (part_at cut r).tables.instances ≤ p → IsBefore s q (r + 1) 0
    → q < length (part_at cut s).tables.instances → IsBefore s q r p
in_part cut s q r p all (inl less) below =
    elim (cases_eq s r) [
      | inl last ↦
          let there = subst (λ y. q < length (part_at cut y).tables.instances) last below in
          inr (last, omega (arith, there, all))
      | inr first ↦ inl (omega (arith, less))
    ]
in_part cut s q r p all (inr here) below = absurd omega (arith, here.1)

pub seen_part : (cut : List Part) (r p : ℕ) (seen : List Bool) → AreSeen cut r p seen
    → length (part_at cut r).tables.instances ≤ p → AreSeen cut (r + 1) 0 seen
seen_part cut r p seen h all =
    record {
      homes = h.homes;
      marked = λ s q before below. h.marked s q (in_part cut s q r p all before below) below;
      once = λ s u q v before other below under.
          h.once s u q v (in_part cut s q r p all before below) (in_part cut u v r p all other under) below under;
    }

-- a part with a process is there
pub has_part : (cut : List Part) (s q : ℕ) → q < length (part_at cut s).tables.instances → s < length cut
has_part cut s q below =
    elim (cases_lt s (length cut)) [
      | inl there ↦ there
      | inr past ↦
          absurd
          omega (arith, subst (λ part. q < length part.tables.instances) (get_or_past cut s empty_part past) below)
    ]

pub seen_once : (cut : List Part) (r : ℕ) (seen : List Bool) → AreSeen cut r 0 seen → length cut ≤ r → AreOnce cut
seen_once cut r seen h all s u q v below under =
    let first = has_part cut s q below in
    let second = has_part cut u v under in
    h.once s u q v (inl (omega (arith, first, all))) (inl (omega (arith, second, all))) below under

-- ---- links

-- each cut source before this place has its link
pub record HaveLinks (t : Tables) (cut : List Part) (r c : ℕ) (links : List PartLink) : Type 0 where
  pub each : (s d : ℕ) → IsBefore s d r c → IsCutSource t (part_at cut s) d → HasLink cut links s d

pub links_start : (t : Tables) (cut : List Part) → HaveLinks t cut 0 0 []
links_start t cut = record { each = λ s d before source. absurd (nothing_before s d before) }

pub links_past : (t : Tables) (cut : List Part) (r c : ℕ) (links : List PartLink) → HaveLinks t cut r c links
    → (IsCutSource t (part_at cut r) c → ⊥) → HaveLinks t cut r (c + 1) links
links_past t cut r c links h none = record { each = λ s d before source. link_of s d source (before_next s d r c before) }
  where
    link_of : (s d : ℕ) → IsCutSource t (part_at cut s) d → IsBefore s d r c ⊎ ((s ≡ r) × (d ≡ c))
        → HasLink cut links s d
    link_of s d source (inl before) = h.each s d before source
    link_of s d source (inr last) =
        absurd (none (subst (λ y. IsCutSource t (part_at cut r) y) last.1
        (subst (λ y. IsCutSource t (part_at cut y) d) last.0 source)))

pub links_more : (t : Tables) (cut : List Part) (r c : ℕ) (links : List PartLink) (link : PartLink)
    → HaveLinks t cut r c links → EndsIn cut link r c → HaveLinks t cut r (c + 1) (links ++ link ∷ [])
links_more t cut r c links link h ends =
    record { each = λ s d before source. link_of s d source (before_next s d r c before) }
  where
    kept : (s d : ℕ) → HasLink cut links s d → HasLink cut (links ++ link ∷ []) s d
    kept s d has =
        record {
          link = has.link;
          among = Contains-append_left links (link ∷ []) has.link has.among;
          ends = has.ends;
        }

    new : HasLink cut (links ++ link ∷ []) r c
    new =
        record {
          link = link;
          among = Contains-append_right links (link ∷ []) link (0, omega arith, refl);
          ends = ends;
        }

    link_of : (s d : ℕ) → IsCutSource t (part_at cut s) d → IsBefore s d r c ⊎ ((s ≡ r) × (d ≡ c))
        → HasLink cut (links ++ link ∷ []) s d
    link_of s d source (inl before) = kept s d (h.each s d before source)
    link_of s d source (inr last) =
        subst (λ y. HasLink cut (links ++ link ∷ []) y d) (sym last.0)
        (subst (HasLink cut (links ++ link ∷ []) r) (sym last.1) new)

pub links_part : (t : Tables) (cut : List Part) (r c : ℕ) (links : List PartLink) → HaveLinks t cut r c links
    → length (part_at cut r).tables.channels ≤ c → HaveLinks t cut (r + 1) 0 links
links_part t cut r c links h all =
    record { each = λ s d before source. h.each s d (place s d source before) source }
  where
    place : (s d : ℕ) → IsCutSource t (part_at cut s) d → IsBefore s d (r + 1) 0 → IsBefore s d r c
    place s d source (inl less) =
        elim (cases_eq s r) [
          | inl last ↦
              let there = source_there (part_at cut s).tables d source.source in
              let here = subst (λ y. d < length (part_at cut y).tables.channels) last there in
              inr (last, omega (arith, here, all))
          | inr first ↦ inl (omega (arith, less))
        ]
    place s d source (inr here) = absurd omega (arith, here.1)

pub links_all : (t : Tables) (cut : List Part) (r : ℕ) (links : List PartLink) → HaveLinks t cut r 0 links
    → length cut ≤ r → AreLinks t cut links
links_all t cut r links h all = record { each = λ s d source. h.each s d (inl (place s d source)) source }
  where
    place : (s d : ℕ) → IsCutSource t (part_at cut s) d → s < r
    place s d source =
        elim (cases_lt s (length cut)) [
          | inl there ↦ omega (arith, there, all)
          | inr past ↦
              let none = subst (λ part. IsCutSource t part d) (get_or_past cut s empty_part past) source in
              absurd omega (arith, source_there empty_part.tables d none.source)
        ]

-- ---- parts by their number

-- a part that is there, whatever stands for one that is not
pub part_there : (cut : List Part) (r : ℕ) (d part : Part) → part ≡ get_or cut r d → r < length cut
    → part ≡ part_at cut r
part_there cut r d part is below = is ∙ get_or_default cut r d empty_part below

-- with one more part each of the first ones is one
pub parts_next : (t : Tables) (cut : List Part) (r : ℕ) (part : Part) → part ≡ part_at cut r → IsPart t part
    → ((s : ℕ) → s < r → IsPart t (part_at cut s)) → (s : ℕ) → s < r + 1 → IsPart t (part_at cut s)
parts_next t cut r part here is before s below =
    elim (cases_eq s r) [
      | inl last ↦ subst (λ y. IsPart t (part_at cut y)) (sym last) (subst (IsPart t) here is)
      | inr first ↦ before s (omega (arith, below))
    ]

-- ---- answers

-- what holds anyway holds if something is found
pub anyway : {X E : Type 0} (P : Type 0) (result : Result (Option X) E) → P
    → IfOk result (λ found. IfSome found (λ links. P))
anyway P (Ok (Some x)) is = is
anyway P (Ok None) is = tt
anyway P (Err error) is = tt
