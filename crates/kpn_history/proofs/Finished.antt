-- A process is finished if and only if it has ended or waits on an empty channel that is complete. Processes that are
-- finished stay so if more are taken to be finished.
use Rattle.kpn_history.proofs.Common.{◌≡◌, ◌↔◌, ◌⊎◌, ℕ, true, List, [], ◌∷◌, refl, sym, subst, inl, inr, Contains, End, Process, Source, Sink, Empty, Tables, writer_of, Event, has_ended, wait_of, PutsNoMore, StarvesAmong, AreFinished, IsFinished, IsComplete, WaitsOnComplete, Contains-first, Contains-later, Contains-cases, Contains-none}

-- what puts no more if these processes are finished puts no more if those are
pub PutsNoMore-if : (P Q : ℕ → Type 0) (H : List Event) (c : ℕ) → ((p : ℕ) → P p → Q p) → (writer : End)
    → PutsNoMore P H c writer → PutsNoMore Q H c writer
PutsNoMore-if P Q H c more (Process p) h = more p h
PutsNoMore-if P Q H c more Source h = h
PutsNoMore-if P Q H c more Sink h = h

module _ (t : Tables) (H : List Event) where
  pub StarvesAmong-later : (q p : ℕ) (among : List ℕ) → StarvesAmong t H among p → StarvesAmong t H (q ∷ among) p
  StarvesAmong-later q p among s =
      record {
        channel = s.channel;
        waits = s.waits;
        no_more =
            PutsNoMore-if (Contains among) (Contains (q ∷ among)) H s.channel (λ r m. Contains-later q among r m)
            (writer_of t s.channel) s.no_more;
      }

  -- the channel on which one of finished processes waits is complete
  pub complete_among : (among : List ℕ) → AreFinished t H among → (c : ℕ)
      → PutsNoMore (Contains among) H c (writer_of t c) → IsComplete t H c
  complete_among among all c no_more =
      PutsNoMore-if (Contains among) (IsFinished t H) H c (λ q m. record { among = among; member = m; all = all })
      (writer_of t c) no_more

  pub finished_cases : (p : ℕ) → IsFinished t H p → (has_ended H p ≡ true) ⊎ WaitsOnComplete t H p
  finished_cases p h =
      elim (h.all.each p h.member) [
        | inl ended ↦ inl ended
        | inr s ↦ inr (record {
          channel = s.channel;
          waits = s.waits;
          complete = complete_among h.among h.all s.channel s.no_more;
        })
      ]

  pub finished_if_ended : (p : ℕ) → has_ended H p ≡ true → IsFinished t H p
  finished_if_ended p ended =
      record {
        among = p ∷ [];
        member = Contains-first p [];
        all = record {
          each = λ q m. elim (Contains-cases p [] q m) [
            | inl same ↦ inl (subst (λ r. has_ended H r ≡ true) same ended)
            | inr none ↦ absurd (Contains-none q none)
          ];
        };
      }

  -- one process more, which waits on a channel that gets no more
  one_more : (p c : ℕ) → wait_of t H p ≡ Empty c → (among : List ℕ) → AreFinished t H among
      → PutsNoMore (Contains (p ∷ among)) H c (writer_of t c) → IsFinished t H p
  one_more p c waits among all no_more =
      record {
        among = p ∷ among;
        member = Contains-first p among;
        all = record {
          each = λ q m. elim (Contains-cases p among q m) [
            | inl same ↦
                inr
                (subst (StarvesAmong t H (p ∷ among)) same
                (record { channel = c; waits = waits; no_more = no_more }))
            | inr later ↦ elim (all.each q later) [
              | inl ended ↦ inl ended
              | inr s ↦ inr (StarvesAmong-later p q among s)
            ]
          ];
        };
      }

  pub finished_if_starved : (p c : ℕ) → wait_of t H p ≡ Empty c → IsComplete t H c → IsFinished t H p
  finished_if_starved p c waits complete = by_writer (writer_of t c) refl complete
    where
      by_writer : (writer : End) → writer_of t c ≡ writer → PutsNoMore (IsFinished t H) H c writer
          → IsFinished t H p
      by_writer (Process q) w h =
          one_more p c waits h.among h.all
          (subst (PutsNoMore (Contains (p ∷ h.among)) H c) (sym w) (Contains-later p h.among q h.member))
      by_writer Source w h =
          one_more p c waits [] (record { each = λ q m. absurd (Contains-none q m) })
          (subst (PutsNoMore (Contains (p ∷ [])) H c) (sym w) h)
      by_writer Sink w h = absurd h

  pub finished_exactly : (p : ℕ) → IsFinished t H p ↔ ((has_ended H p ≡ true) ⊎ WaitsOnComplete t H p)
  finished_exactly p = (
    finished_cases p,
    λ h. elim h [
      | inl ended ↦ finished_if_ended p ended
      | inr w ↦ finished_if_starved p w.channel w.waits w.complete
    ],
  )

  -- ---- the writer of a complete channel

  pub complete-process : (c p : ℕ) → writer_of t c ≡ Process p → IsComplete t H c → IsFinished t H p
  complete-process c p w h = subst (PutsNoMore (IsFinished t H) H c) w h

  pub process-complete : (c p : ℕ) → writer_of t c ≡ Process p → IsFinished t H p → IsComplete t H c
  process-complete c p w h = subst (PutsNoMore (IsFinished t H) H c) (sym w) h
