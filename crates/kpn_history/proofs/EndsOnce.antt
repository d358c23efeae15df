-- A process has ended if some end of it is among the events. In a legal history that is one event.
use Rattle.std.specs.Prelude.{Contains, slice_get}
use Rattle.std.proofs.Common.{◌≡◌, ◌↔◌, ◌⊎◌, ℕ, zero, suc, true, eq-eqb, List, [], ◌∷◌, ◌++◌, length, Option, Some, refl, sym, ap, ◌∙◌, subst, inl, inr}
use Rattle.kpn_history.proofs.Common.{both_ways, eqb-true, false≢true, or_cases, or_left, or_right, Tables, How, Event, Ended, is_of, is_end_of, has_ended, Legal, Contains-first, Contains-later, Contains-cases, Contains-none}
use Rattle.std.proofs.lemmas.Option.{slice_get_within, get_or_from_slice_get, slice_get-get_or}
use Rattle.kpn_history.proofs.Legality.{by_events}
use Rattle.kpn_history.proofs.WaitsAfter.{alive_before}

-- ---- some end is among the events

pub ended_by : (H : List Event) (p : ℕ) (how : How) → Contains H (Ended p how) → has_ended H p ≡ true
ended_by [] p how h = absurd (Contains-none (Ended p how) h)
ended_by (e ∷ H) p how h =
    elim (Contains-cases e H (Ended p how) h) [
      | inl same ↦ or_left (is_end_of p e) (has_ended H p) (ap (is_end_of p) same ∙ eq-eqb p p refl)
      | inr later ↦ or_right (is_end_of p e) (has_ended H p) (ended_by H p how later)
    ]

how_it_ended : (p : ℕ) (e : Event) → is_end_of p e ≡ true → (how : How) × (e ≡ Ended p how)
how_it_ended p (Ended q how) is = (how, ap (λ x. Ended x how) (eqb-true q p is))
how_it_ended p event is = absurd (false≢true is)

pub end_among : (H : List Event) (p : ℕ) → has_ended H p ≡ true → (how : How) × Contains H (Ended p how)
end_among [] p is = absurd (false≢true is)
end_among (e ∷ H) p is =
    elim (or_cases (is_end_of p e) (has_ended H p) is) [
      | inl here ↦ let h = how_it_ended p e here in (h.0, subst (Contains (e ∷ H)) h.1 (Contains-first e H))
      | inr later ↦ let h = end_among H p later in (h.0, Contains-later e H (Ended p h.0) h.1)
    ]

pub ended_exactly : (H : List Event) (p : ℕ) → (has_ended H p ≡ true) ↔ ((how : How) × Contains H (Ended p how))
ended_exactly H p = (end_among H p, λ h. ended_by H p h.0 h.1)

-- ---- one place

at_push : (B : List Event) (e : Event) (i : ℕ) (x : Event) → slice_get (B ++ e ∷ []) i ≡ Some x
    → (slice_get B i ≡ Some x) ⊎ ((i ≡ length B) × (e ≡ x))
at_push [] e zero x is = inr (refl, cc)
at_push [] e (suc i) x is = absurd cc
at_push (y ∷ B) e zero x is = inl is
at_push (y ∷ B) e (suc i) x is =
    elim (at_push B e i x is) [
      | inl before ↦ inl before
      | inr last ↦ inr (ap suc last.0, last.1)
    ]

ended_at : (H : List Event) (i p : ℕ) (how : How) → slice_get H i ≡ Some (Ended p how) → has_ended H p ≡ true
ended_at H i p how is =
    ended_by H p how
    (i, slice_get_within H i (Ended p how) is, get_or_from_slice_get H i (Ended p how) (Ended p how) is)

-- a process that has ended makes no event more
no_later_end : (t : Tables) (B : List Event) (e : Event) → Legal t (B ++ e ∷ []) → (i p : ℕ) (how other : How)
    → slice_get B i ≡ Some (Ended p how) → e ≡ Ended p other → ⊥
no_later_end t B e legal i p how other before last =
    both_ways (has_ended B p) (alive_before t B e legal p (ap (is_of p) last ∙ eq-eqb p p refl))
    (ended_at B i p how before)

pub ends_once : (t : Tables) (H : List Event) → Legal t H → (p i j : ℕ) (how other : How)
    → slice_get H i ≡ Some (Ended p how) → slice_get H j ≡ Some (Ended p other) → i ≡ j
ends_once t H legal p =
    by_events t
    (λ H. (i j : ℕ) (how other : How) → slice_get H i ≡ Some (Ended p how) → slice_get H j ≡ Some (Ended p other)
    → i ≡ j)
    (λ i j how other a b. absurd (nothing_there i how a))
    (λ B e legal h i j how other a b. elim (at_push B e i (Ended p how) a) [
      | inl before ↦ elim (at_push B e j (Ended p other) b) [
        | inl too ↦ h i j how other before too
        | inr last ↦ absurd (no_later_end t B e legal i p how other before last.1)
      ]
      | inr last ↦ elim (at_push B e j (Ended p other) b) [
        | inl before ↦ absurd (no_later_end t B e legal j p other how before last.1)
        | inr too ↦ last.0 ∙ sym too.0
      ]
    ]) H legal
  where
    nothing_there : (i : ℕ) (how : How) → slice_get [] i ≡ Some (Ended p how) → ⊥
    nothing_there zero how is = cc
    nothing_there (suc i) how is = cc

pub ends_one_way : (t : Tables) (H : List Event) → Legal t H → (p : ℕ) (how other : How) → Contains H (Ended p how)
    → Contains H (Ended p other) → how ≡ other
ends_one_way t H legal p how other a b =
    let first : slice_get H a.0 ≡ Some (Ended p how) = slice_get-get_or H a.0 (Ended p how) a.1 ∙ ap Some a.2 in
    let second : slice_get H b.0 ≡ Some (Ended p other) = slice_get-get_or H b.0 (Ended p other) b.1 ∙ ap Some b.2 in
    let place = ends_once t H legal p a.0 b.0 how other first second in
    let same : ◌≡◌ {A = Option Event} (Some (Ended p how)) (Some (Ended p other)) =
    sym first ∙ ap (slice_get H) place ∙ second in
    cc
