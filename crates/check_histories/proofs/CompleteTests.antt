-- Plain tests of finished processes and of complete channels. A set of processes is given, or the waits are followed.
use Rattle.check_histories.proofs.Common.{list_all, Contains, ◌≡◌, ℕ, zero, suc, Bool, true, false, not, ◌&&◌, ◌||◌, List, [], ◌∷◌, refl, sym, ◌∙◌, subst, inl, inr, and_parts, or_cases, both_ways, not-true, Wait, Nobody, Empty, Full, Tables, writer_of, Contains-none, Contains-cases, Event, has_ended, is_closed, wait_of, PutsNoMore, StarvesAmong, IsFinished, IsComplete, WaitsOnComplete, member, member-true}
use Rattle.kpn_net.specs.declared.tables.End.{End}
use Rattle.kpn_net.specs.declared.tables.End.TheVariants.{Process, Source, Sink}
use Rattle.kpn_history.proofs.Finished.{complete_among, finished_cases}

module _ (t : Tables) (H : List Event) where
  -- ---- complete channels

  module _ (among : List ℕ) where
    abbrev puts_no_more : (c : ℕ) → End → Bool
    puts_no_more c (Process p) = member p among
    puts_no_more c Source = is_closed H c
    puts_no_more c Sink = false

    abbrev starves : Wait → Bool
    starves (Empty c) = puts_no_more c (writer_of t c)
    starves other = false

    abbrev is_finished : (p : ℕ) → Bool
    is_finished p = has_ended H p || starves (wait_of t H p)

    puts_no_more-true : (c : ℕ) (writer : End) → puts_no_more c writer ≡ true
        → PutsNoMore (Contains among) H c writer
    puts_no_more-true c (Process p) e = member-true p among e
    puts_no_more-true c Source e = e
    puts_no_more-true c Sink e = absurd cc

    starves-true : (p : ℕ) (wait : Wait) → wait_of t H p ≡ wait → starves wait ≡ true → StarvesAmong t H among p
    starves-true p (Empty c) is e =
        record { channel = c; waits = is; no_more = puts_no_more-true c (writer_of t c) e }
    starves-true p Nobody is e = absurd cc
    starves-true p (Full c) is e = absurd cc

    each_finished : (ps : List ℕ) → list_all is_finished ps ≡ true → (p : ℕ) → Contains ps p
        → is_finished p ≡ true
    each_finished [] e p m = absurd (Contains-none p m)
    each_finished (q ∷ ps) e p m =
        elim (Contains-cases q ps p m) [
          | inl same ↦ subst (λ r. is_finished r ≡ true) same (and_parts _ _ e).0
          | inr later ↦ each_finished ps (and_parts _ _ e).1 p later
        ]

    -- all of these processes are finished, and one of them writes the channel, or it is a closed source
    abbrev pub completes : (c : ℕ) → Bool
    completes c = list_all is_finished among && puts_no_more c (writer_of t c)

    pub completes-true : (c : ℕ) → completes c ≡ true → IsComplete t H c
    completes-true c e =
        let parts = and_parts _ _ e in
        complete_among t H among
        (record {
          each = λ p m. elim (or_cases _ _ (each_finished among parts.0 p m)) [
            | inl ended ↦ inl ended
            | inr waits ↦ inr (starves-true p (wait_of t H p) refl waits)
          ];
        })
        c (puts_no_more-true c (writer_of t c) parts.1)

  -- ---- channels that are not complete

  abbrev leads_from : (leads_on : ℕ → Bool) → Wait → Bool
  leads_from leads_on (Empty c) = leads_on c
  leads_from leads_on other = true

  abbrev leads_by : (leads_on : ℕ → Bool) → (c : ℕ) → End → Bool
  leads_by leads_on c (Process p) = not (has_ended H p) && leads_from leads_on (wait_of t H p)
  leads_by leads_on c Source = not (is_closed H c)
  leads_by leads_on c Sink = false

  -- in this many turns the waits lead from the channel to an open source, or to a process that waits for no item
  abbrev pub leads_on : (turns c : ℕ) → Bool
  leads_on zero c = false
  leads_on (suc turns) c = leads_by (leads_on turns) c (writer_of t c)

  module _ (go : ℕ → Bool) (goes : (c : ℕ) → go c ≡ true → IsComplete t H c → ⊥) where
    leads_from-true : (p : ℕ) (wait : Wait) → wait_of t H p ≡ wait → leads_from go wait ≡ true
        → WaitsOnComplete t H p → ⊥
    leads_from-true p (Empty c) is e h =
        let waits : Empty h.channel ≡ Empty c = sym h.waits ∙ is in
        let same : h.channel ≡ c = cc in goes c e (subst (IsComplete t H) same h.complete)
    leads_from-true p Nobody is e h = let waits : Empty h.channel ≡ Nobody = sym h.waits ∙ is in cc
    leads_from-true p (Full c) is e h = let waits : Empty h.channel ≡ Full c = sym h.waits ∙ is in cc

    leads_by-true : (c : ℕ) (writer : End) → writer_of t c ≡ writer → leads_by go c writer ≡ true
        → PutsNoMore (IsFinished t H) H c writer → ⊥
    leads_by-true c (Process p) is e h =
        let parts = and_parts _ _ e in
        elim (finished_cases t H p h) [
          | inl ended ↦ both_ways _ (not-true _ parts.0) ended
          | inr waits ↦ leads_from-true p (wait_of t H p) refl parts.1 waits
        ]
    leads_by-true c Source is e h = both_ways _ (not-true _ e) h
    leads_by-true c Sink is e h = absurd h

  pub leads_on-true : (turns c : ℕ) → leads_on turns c ≡ true → IsComplete t H c → ⊥
  leads_on-true zero c e h = cc
  leads_on-true (suc turns) c e h =
      leads_by-true (leads_on turns) (leads_on-true turns) c (writer_of t c) refl e h
