-- The whole at rest. If it is quiet, its journals contain what each process puts on them, so they are the least
-- solution. It is quiet if each part is and nothing is on the way.
use Rattle.kpn_parts.proofs.Common.{◌≡◌, ◌⊎◌, ℕ, ◌<◌, true, cond, eqb, List, length, drop, sym, ap, ◌∙◌, subst, inl, inr, option_map, cases_Bool, both_ways, IsPrefix-trans, IsPrefix-same, Tables, channel_at, is_source, IsNetwork, Family, iterate, AgreeOnSources, IsLeast, closed_below-IsLeast, IsPrefixOnSources-refl, IsPrefixOnSources-agree, round-depends_on_sources, Reads-below, last_event, has_ended, written_on, read_on, fed, is_empty, WaitsOnEmpty, IsQuiet, empty_wait, IsStarved-last, IsClosed-quiet, PartEvent, Part, whole_process, whole_channel, part_at, IsCut, IsCutSource, events_of_part, in_whole, whole_history, IsJoined, HasAll, IsDelivered, AreQuiet, AreAtRest}
use Rattle.kpn_net.specs.declared.wait.Wait.TheVariants.{Nobody, Empty}
use Rattle.kpn_history.specs.Waiting.{wait_of, wait_of_last}
use Rattle.kpn_parts.proofs.Renaming.{reads_in_whole}
use Rattle.kpn_parts.proofs.Ends.{part_of, by_reader}
use Rattle.kpn_parts.proofs.Whole.{journal_same, read_same}
use Rattle.kpn_parts.proofs.Ended.{last_same, ended_same, says_all}
use Rattle.kpn_parts.proofs.Below.{below_least}

module _ (t : Tables) (network : IsNetwork t) (cut : List Part) (is : IsCut t cut) (order : List PartEvent)
    (joined : IsJoined t cut order) where
  least_if_quiet_fed : IsQuiet t (whole_history t cut order) → (c : ℕ)
      → IsLeast t (fed t (whole_history t cut order)) c (written_on (whole_history t cut order) c)
  least_if_quiet_fed quiet =
      let W = whole_history t cut order in
      closed_below-IsLeast t (fed t W) (written_on W)
      (IsClosed-quiet t network W (says_all t network cut is order joined) quiet)
      (below_least t network cut is (fed t W) order joined (IsPrefixOnSources-refl t (fed t W)))

  pub least_if_quiet : IsQuiet t (whole_history t cut order) → (given : Family)
      → AgreeOnSources t (fed t (whole_history t cut order)) given → (c : ℕ)
      → IsLeast t given c (written_on (whole_history t cut order) c)
  least_if_quiet quiet given agree c =
      let W = whole_history t cut order in
      record {
        below = below_least t network cut is given order joined (IsPrefixOnSources-agree t (fed t W) given agree) c;
        above = λ n.
            IsPrefix-trans (iterate t given n c) (iterate t (fed t W) n c) (written_on W c)
            (IsPrefix-same _ _ (sym (round-depends_on_sources t (fed t W) given agree n n c)))
            ((least_if_quiet_fed quiet c).above n);
      }

  -- ---- it is quiet if the parts are

  -- a channel on which a part has all that was put
  written_same : (r c : ℕ) → c < length (part_at cut r).tables.channels
      → (IsCutSource t (part_at cut r) c → HasAll t cut order r c)
      → written_on (whole_history t cut order) (whole_channel (part_at cut r) c) ≡ written_on (events_of_part r order) c
  written_same r c there delivered =
      elim (cases_Bool (is_source (channel_at (part_at cut r).tables c))) [
        | inl source ↦ elim (cases_Bool (is_source (channel_at t (whole_channel (part_at cut r) c)))) [
          | inl outside ↦
              journal_same t network cut is r c there
              (λ h. both_ways (is_source (channel_at t (whole_channel (part_at cut r) c))) h.cut outside) order
              joined.legal
          | inr other ↦ sym (delivered (record { source = source; cut = other }))
        ]
        | inr inner ↦
            journal_same t network cut is r c there
            (λ h. both_ways (is_source (channel_at (part_at cut r).tables c)) inner h.source) order joined.legal
      ]

  -- a process that waits in its part waits in the whole, if its part was fed all that was put there
  pub wait_in_whole : (r p c : ℕ) → p < length (part_at cut r).tables.instances
      → wait_of (part_at cut r).tables (events_of_part r order) p ≡ Empty c
      → (IsCutSource t (part_at cut r) c → HasAll t cut order r c)
      → wait_of t (whole_history t cut order) (whole_process (part_at cut r) p)
      ≡ Empty (whole_channel (part_at cut r) c)
  wait_in_whole r p c below waits delivered =
      let part = part_at cut r in
      let x = whole_channel part c in
      let H = events_of_part r order in
      let W = whole_history t cut order in
      let w = empty_wait part.tables H (last_event H p) c waits in
      let reads =
      (IsStarved-last part.tables (part_of t cut is r).network p H (joined.legal r) w.process c w.is).reads in
      let there = Reads-below part.tables (part_of t cut is r).network p c reads in
      let empty : is_empty W x ≡ true =
      ap (λ xs. eqb (length (drop (length xs) (written_on W x))) 0)
      (read_same t network cut is r c (by_reader p reads) order joined.legal)
      ∙ ap (λ ys. eqb (length (drop (length (read_on H c)) ys)) 0) (written_same r c there delivered)
      ∙ w.empty in
      ap (wait_of_last t W)
      (last_same t network cut is r p below order joined.legal ∙ ap (option_map (in_whole part)) w.is)
      ∙ ap (λ b. cond b (Empty x) Nobody) empty

  -- a channel for which a process waits is there, in its part and in the whole
  pub waited_there : (r p c : ℕ) → p < length (part_at cut r).tables.instances
      → wait_of (part_at cut r).tables (events_of_part r order) p ≡ Empty c
      → (c < length (part_at cut r).tables.channels) × (whole_channel (part_at cut r) c < length t.channels)
  waited_there r p c below waits =
      let part = part_at cut r in
      let H = events_of_part r order in
      let w = empty_wait part.tables H (last_event H p) c waits in
      let reads =
      (IsStarved-last part.tables (part_of t cut is r).network p H (joined.legal r) w.process c w.is).reads in (
        Reads-below part.tables (part_of t cut is r).network p c reads,
        Reads-below t network _ _ (reads_in_whole t part (part_of t cut is r) p below c reads),
      )

  -- what a process waits for is not on the way
  abbrev AreSettled : Type 0
  AreSettled =
      (r p c : ℕ) → p < length (part_at cut r).tables.instances
      → wait_of (part_at cut r).tables (events_of_part r order) p ≡ Empty c
      → IsCutSource t (part_at cut r) c → HasAll t cut order r c

  quiet_if : AreQuiet cut order → AreSettled → IsQuiet t (whole_history t cut order)
  quiet_if quiet settled =
      let W = whole_history t cut order in
      record {
        each = λ p below.
            let home = is.home p below in
            let q = whole_process (part_at cut home.part) home.process in
            subst (λ x. (has_ended W x ≡ true) ⊎ WaitsOnEmpty t W x) home.is
            (elim ((quiet home.part).each home.process home.there)
            as (λ _. (has_ended W q ≡ true) ⊎ WaitsOnEmpty t W q) [
              | inl ended ↦
                  inl (ended_same t network cut is home.part home.process home.there order joined.legal ∙ ended)
              | inr waits ↦
                  inr
                  (record {
                    channel = whole_channel (part_at cut home.part) waits.channel;
                    blocked =
                        wait_in_whole home.part home.process waits.channel home.there waits.blocked
                        (settled home.part home.process waits.channel home.there waits.blocked);
                  })
            ]);
      }

  quiet_whole : AreQuiet cut order → IsDelivered t cut order → IsQuiet t (whole_history t cut order)
  quiet_whole quiet delivered = quiet_if quiet (λ r p c below waits. delivered.each r c)

  pub quiet_at_rest : AreAtRest t cut order → IsQuiet t (whole_history t cut order)
  quiet_at_rest rest = quiet_if rest.quiet (λ r p c below waits source. rest.settled r p c below waits)

  pub least_at_rest : AreQuiet cut order → IsDelivered t cut order → (given : Family)
      → AgreeOnSources t (fed t (whole_history t cut order)) given → (c : ℕ)
      → IsLeast t given c (written_on (whole_history t cut order) c)
  least_at_rest quiet delivered = least_if_quiet (quiet_whole quiet delivered)

  -- the journals of the parts
  pub part_least_at_rest : AreQuiet cut order → IsDelivered t cut order → (given : Family)
      → AgreeOnSources t (fed t (whole_history t cut order)) given
      → (r c : ℕ) → c < length (part_at cut r).tables.channels
      → IsLeast t given (whole_channel (part_at cut r) c) (written_on (events_of_part r order) c)
  part_least_at_rest quiet delivered given agree r c there =
      subst (IsLeast t given (whole_channel (part_at cut r) c))
      (written_same r c there (delivered.each r c))
      (least_at_rest quiet delivered given agree (whole_channel (part_at cut r) c))
