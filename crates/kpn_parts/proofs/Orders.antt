-- Joined runs event by event: beginnings of them are joined runs, and each event belongs to whatever made it.
use Rattle.kpn_parts.proofs.Common.{◌≡◌, ℕ, cond, eq-eqb, List, [], ◌∷◌, ◌++◌, refl, sym, ap, ◌∙◌, subst, inl, inr, append_assoc, flat_map, cases_eq, ne_eqb, append-nil, flat_map-append, IsPrefix, IsPrefix-trans, IsPrefix-append, Tables, IsNetwork, Event, Legal, Legal-prefix, Owns, Owns-last, PartEvent, Part, part_at, IsCut, event_of, events_of_part, whole_event, whole_history, AreLegal, IsJoined}
use Rattle.kpn_history.proofs.Events.{flat_map-push}
use Rattle.kpn_parts.proofs.Ends.{part_of}

-- ---- the events of one part

pub event_of-own : (r : ℕ) (e : PartEvent) → e.part ≡ r → event_of r e ≡ e.event ∷ []
event_of-own r e same = ap (λ b. cond b (e.event ∷ []) []) (eq-eqb e.part r same)

pub event_of-other : (r : ℕ) (e : PartEvent) → (e.part ≡ r → ⊥) → event_of r e ≡ []
event_of-other r e differ = ap (λ b. cond b (e.event ∷ []) []) (ne_eqb e.part r differ)

pub events_of-push : (r : ℕ) (B : List PartEvent) (e : PartEvent)
    → events_of_part r (B ++ e ∷ []) ≡ events_of_part r B ++ event_of r e
events_of-push r B e = flat_map-push (event_of r) B e

module _ (t : Tables) (network : IsNetwork t) (cut : List Part) (is : IsCut t cut) where
  pub whole_history-push : (B : List PartEvent) (e : PartEvent)
      → whole_history t cut (B ++ e ∷ []) ≡ whole_history t cut B ++ whole_event t cut e
  whole_history-push B e = flat_map-push (whole_event t cut) B e

  -- ---- beginnings

  pub legal-prefix : (B rest : List PartEvent) → AreLegal cut (B ++ rest) → AreLegal cut B
  legal-prefix B rest legal r =
      Legal-prefix (part_at cut r).tables (events_of_part r B) (events_of_part r (B ++ rest))
      (subst (IsPrefix (events_of_part r B)) (sym (flat_map-append (event_of r) B rest))
      (IsPrefix-append (events_of_part r B) (events_of_part r rest)))
      (legal r)

  pub joined-prefix : (B rest : List PartEvent) → IsJoined t cut (B ++ rest) → IsJoined t cut B
  joined-prefix B rest joined =
      record {
        legal = legal-prefix B rest joined.legal;
        sent = λ begun begins.
            joined.sent begun (IsPrefix-trans begun B (B ++ rest) begins (IsPrefix-append B rest));
      }

  -- the last event belongs to whatever made it in its part
  pub owns_last : (B : List PartEvent) (e : PartEvent) → AreLegal cut (B ++ e ∷ [])
      → Owns (part_at cut e.part).tables e.event
  owns_last B e legal =
      let u = (part_at cut e.part).tables in
      Owns-last u (part_of t cut is e.part).network (events_of_part e.part B) e.event
      (subst (Legal u)
      (events_of-push e.part B e ∙ ap (λ xs. events_of_part e.part B ++ xs) (event_of-own e.part e refl))
      (legal e.part))

  -- if Q holds of the beginnings of what it holds of: what holds of no events, and of each such order with one more
  -- event if of that before it, holds of each such order
  module _ (Q P : List PartEvent → Type 0) (begins : (B rest : List PartEvent) → Q (B ++ rest) → Q B)
      (step : (B : List PartEvent) (e : PartEvent) → Q (B ++ e ∷ []) → P B → P (B ++ e ∷ [])) where
    onward : (rest B : List PartEvent) → Q (B ++ rest) → P B → P (B ++ rest)
    onward [] B q h = subst P (sym (append-nil B)) h
    onward (e ∷ rest) B q h =
        let same : (B ++ e ∷ []) ++ rest ≡ B ++ (e ∷ rest) = append_assoc B (e ∷ []) rest in
        let longer = subst Q (sym same) q in
        subst P same (onward rest (B ++ e ∷ []) longer (step B e (begins (B ++ e ∷ []) rest longer) h))

    by_events : P [] → (order : List PartEvent) → Q order → P order
    by_events start order q = onward order [] q start

  pub by_legal : (P : List PartEvent → Type 0)
      → ((B : List PartEvent) (e : PartEvent) → AreLegal cut (B ++ e ∷ []) → P B → P (B ++ e ∷ [])) → P []
      → (order : List PartEvent) → AreLegal cut order → P order
  by_legal P step = by_events (AreLegal cut) P legal-prefix step

  pub by_joined : (P : List PartEvent → Type 0)
      → ((B : List PartEvent) (e : PartEvent) → IsJoined t cut (B ++ e ∷ []) → P B → P (B ++ e ∷ [])) → P []
      → (order : List PartEvent) → IsJoined t cut order → P order
  by_joined P step = by_events (IsJoined t cut) P joined-prefix step

  -- ---- what the whole shows of a part

  -- lists that each event adds to in the whole as in part r, and that events of other parts leave
  pub seen : {X : Type 0} (r : ℕ) (f g : Event → List X)
      → ((e : PartEvent) → e.part ≡ r → Owns (part_at cut r).tables e.event
      → flat_map f (whole_event t cut e) ≡ g e.event)
      → ((e : PartEvent) → (e.part ≡ r → ⊥) → Owns (part_at cut e.part).tables e.event
      → flat_map f (whole_event t cut e) ≡ [])
      → (order : List PartEvent) → AreLegal cut order
      → flat_map f (whole_history t cut order) ≡ flat_map g (events_of_part r order)
  seen r f g own other =
      by_legal (λ order. flat_map f (whole_history t cut order) ≡ flat_map g (events_of_part r order))
      (λ B e legal h.
      let owns = owns_last B e legal in
      let split =
      ap (flat_map f) (whole_history-push B e)
      ∙ flat_map-append f (whole_history t cut B) (whole_event t cut e)
      ∙ ap (λ xs. xs ++ flat_map f (whole_event t cut e)) h in
      elim (cases_eq e.part r) [
        | inl same ↦
            split
            ∙ ap (λ xs. flat_map g (events_of_part r B) ++ xs)
            (own e same (subst (λ s. Owns (part_at cut s).tables e.event) same owns))
            ∙ sym
            (ap (flat_map g)
            (events_of-push r B e ∙ ap (λ xs. events_of_part r B ++ xs) (event_of-own r e same))
            ∙ flat_map-push g (events_of_part r B) e.event)
        | inr differ ↦
            split
            ∙ ap (λ xs. flat_map g (events_of_part r B) ++ xs) (other e differ owns)
            ∙ append-nil (flat_map g (events_of_part r B))
            ∙ sym
            (ap (flat_map g)
            (events_of-push r B e ∙ ap (λ xs. events_of_part r B ++ xs) (event_of-other r e differ)
            ∙ append-nil (events_of_part r B)))
      ])
      refl
