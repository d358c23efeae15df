-- In a joined run all journals of the whole are below one iterate of Kahn's iteration for what was fed.
use Rattle.kpn_parts.proofs.Common.{◌≡◌, ℕ, ◌<◌, Bool, true, false, cond, List, [], ◌∷◌, ◌++◌, length, refl, sym, ap, ◌∙◌, subst, flat_map, append-nil, flat_map-append, IsPrefix, IsPrefix-trans, IsPrefix-append, Tables, IsNetwork, Family, iterate, IsPrefixOnSources, IsBelowLeast, Event, written_in, written_on, fed, IsSpoken, IsBelowIterate, one_more, fed_on_sources, PartEvent, Part, whole_channel, part_at, IsCut, events_of_part, in_whole, is_of_whole, whole_event, whole_history, IsJoined}
use Rattle.kpn_parts.proofs.Orders.{whole_history-push, joined-prefix, owns_last, by_joined}
use Rattle.kpn_parts.proofs.Whole.{own_in_whole, journal_begins, is_spoken}

module _ (t : Tables) (network : IsNetwork t) (cut : List Part) (is : IsCut t cut) (given : Family) where
  -- what was fed before one more event
  fed_before : (B : List PartEvent) (e : PartEvent)
      → IsPrefixOnSources t (written_on (whole_history t cut (B ++ e ∷ []))) given
      → IsPrefixOnSources t (written_on (whole_history t cut B)) given
  fed_before B e begun =
      record {
        each = λ c source.
            IsPrefix-trans (written_on (whole_history t cut B) c) (written_on (whole_history t cut (B ++ e ∷ [])) c)
            (given c)
            (subst (IsPrefix (written_on (whole_history t cut B) c))
            (sym
            (ap (flat_map (written_in c)) (whole_history-push t network cut is B e)
            ∙ flat_map-append (written_in c) (whole_history t cut B) (whole_event t cut e)))
            (IsPrefix-append (written_on (whole_history t cut B) c) (flat_map (written_in c) (whole_event t cut e))))
            (begun.each c source);
      }

  -- one event more of a part, which is one of the whole or none
  event_more : (B : List PartEvent) (e : PartEvent) → IsJoined t cut (B ++ e ∷ [])
      → (IsPrefixOnSources t (written_on (whole_history t cut B)) given
      → IsBelowIterate t given (whole_history t cut B))
      → IsPrefixOnSources t (written_on (whole_history t cut (B ++ e ∷ []))) given
      → IsBelowIterate t given (whole_history t cut (B ++ e ∷ []))
  event_more B e joined h begun = which (is_of_whole t event) refl
    where
      event : Event
      event = in_whole (part_at cut e.part) e.event

      now : (b : Bool) → is_of_whole t event ≡ b
          → whole_history t cut (B ++ e ∷ []) ≡ whole_history t cut B ++ cond b (event ∷ []) []
      now b f =
          whole_history-push t network cut is B e ∙ ap (λ x. whole_history t cut B ++ cond x (event ∷ []) []) f

      which : (b : Bool) → is_of_whole t event ≡ b → IsBelowIterate t given (whole_history t cut (B ++ e ∷ []))
      which true f =
          subst (IsBelowIterate t given) (sym (now true f))
          (one_more t network given (whole_history t cut B) event
          (is_spoken t network cut is B (joined-prefix t network cut is B (e ∷ []) joined))
          (subst (IsSpoken t) (now true f) (is_spoken t network cut is (B ++ e ∷ []) joined))
          (own_in_whole t network cut is e.part e.event (owns_last t network cut is B e joined.legal) f)
          (subst (λ H. IsPrefixOnSources t (written_on H) given) (now true f) begun)
          (h (fed_before B e begun)))
      which false f =
          subst (IsBelowIterate t given) (sym (now false f ∙ append-nil (whole_history t cut B)))
          (h (fed_before B e begun))

  pub below_one_iterate : (order : List PartEvent) → IsJoined t cut order
      → IsPrefixOnSources t (fed t (whole_history t cut order)) given
      → IsBelowIterate t given (whole_history t cut order)
  below_one_iterate order joined begun =
      by_joined t network cut is
      (λ M. IsPrefixOnSources t (written_on (whole_history t cut M)) given
      → IsBelowIterate t given (whole_history t cut M))
      event_more (λ none. record { turns = 0; below = λ c. tt }) order joined
      (fed_on_sources t (whole_history t cut order) given begun)

  pub below_least : (order : List PartEvent) → IsJoined t cut order
      → IsPrefixOnSources t (fed t (whole_history t cut order)) given → (c : ℕ)
      → IsBelowLeast t given c (written_on (whole_history t cut order) c)
  below_least order joined begun c =
      let b = below_one_iterate order joined begun in
      record { turns = b.turns; below = b.below c }

  pub part_below_least : (order : List PartEvent) → IsJoined t cut order
      → IsPrefixOnSources t (fed t (whole_history t cut order)) given → (r c : ℕ)
      → c < length (part_at cut r).tables.channels
      → IsBelowLeast t given (whole_channel (part_at cut r) c) (written_on (events_of_part r order) c)
  part_below_least order joined begun r c there =
      let b = below_one_iterate order joined begun in
      let x = whole_channel (part_at cut r) c in
      record {
        turns = b.turns;
        below =
            IsPrefix-trans (written_on (events_of_part r order) c) (written_on (whole_history t cut order) x)
            (iterate t given b.turns x)
            (journal_begins t network cut is r c there order joined) (b.below x);
      }
