-- Whether a run is settled, and its verdict, are as its history says.
use Rattle.std.proofs.Common.{◌≡◌, ◌≢◌, ◌↔◌, ℕ, ◌<◌, Bool, true, false, not, ℤ, eqb, List, [], ◌∷◌, length, Option, Some, None, refl, sym, ap, ◌∙◌, subst, inl, inr, ◌⊎◌, arith}
use Rattle.std.specs.List.{Contains}
use Rattle.std.proofs.lemmas.Bool.{eqb-true, both_ways}
use Rattle.kpn_machine.proofs.Common.{Wait, Tables, channel_at, is_sink, IsNetwork, IsCycle, full_channels, reader_of-sink, How, Event, Verdict, has_ended, is_left, lives, HasFullCycle, HasStopped, IsSettled, HasFullWait, IsVerdict, ended_exactly, Machine, channel_in, wait_in, end_in, IsEndOf, IsRun, IsSettledNow, HasFullCycleNow, HasFullWaitNow, IsVerdictNow}
use Rattle.kpn_net.specs.declared.wait.Wait.TheVariants.{Nobody, Empty, Full}
use Rattle.kpn_history.specs.declared.state.Verdict.TheVariants.{Ended, Clogged, Jammed}
use Rattle.kpn_machine.proofs.Due.{unread_same, empty_same}
use Rattle.kpn_machine.proofs.Growing.{same_waits}

not_not : (b : Bool) → not (not b) ≡ b
not_not true = refl
not_not false = refl

no_items : (xs : List ℤ) → eqb (length xs) 0 ≡ true → xs ≡ []
no_items [] e = refl
no_items (x ∷ xs) e = let zero : length (x ∷ xs) ≡ 0 = eqb-true (length (x ∷ xs)) 0 e in absurd (omega arith)

module _ (t : Tables) (network : IsNetwork t) (H : List Event) (s : Machine) (run : IsRun t H s) where
  stopped : (p : ℕ) → p < length t.instances → ((how : How) × (end_in s p ≡ Some how)) ⊎ (wait_in s p ≢ Nobody)
      → HasStopped t H p
  stopped p there h =
      elim h [
        | inl e ↦ inl ((ended_exactly H p).1 (e.0, subst (λ x. IsEndOf H p x) e.1 (run.leads.ends p there)))
        | inr w ↦ by_wait (wait_in s p) refl w
      ]
    where
      by_wait : (w : Wait) → wait_in s p ≡ w → w ≢ Nobody → HasStopped t H p
      by_wait Nobody is some = absurd (some refl)
      by_wait (Empty c) is some = inr (inl (record { channel = c; blocked = sym (run.leads.waits p there) ∙ is }))
      by_wait (Full c) is some = inr (inr (record { channel = c; blocked = sym (run.leads.waits p there) ∙ is }))

  stopped_now : (p : ℕ) → p < length t.instances → HasStopped t H p
      → ((how : How) × (end_in s p ≡ Some how)) ⊎ (wait_in s p ≢ Nobody)
  stopped_now p there h =
      elim h [
        | inl ended ↦ inl (by_end (end_in s p) (run.leads.ends p there) ended)
        | inr waits ↦ inr (elim waits [
          | inl w ↦ λ none. let clash : Nobody ≡ Empty w.channel =
              sym none ∙ run.leads.waits p there ∙ w.blocked in absurd cc
          | inr w ↦ λ none. let clash : Nobody ≡ Full w.channel =
              sym none ∙ run.leads.waits p there ∙ w.blocked in absurd cc
        ])
      ]
    where
      by_end : (end : Option How) → IsEndOf H p end → has_ended H p ≡ true → (how : How) × (end ≡ Some how)
      by_end None lives ended = absurd (both_ways _ lives ended)
      by_end (Some how) is ended = (how, refl)

  left_now : (c : ℕ) → c < length t.channels → is_sink (channel_at t c) ≡ true
      → (channel_in s c).is_retired ≡ is_left H c
  left_now c below sink =
      (run.leads.channels c below).retired ∙ ap not (ap (lives H c) (reader_of-sink t c sink)) ∙ not_not (is_left H c)

  pub settled_now : IsSettledNow t s ↔ IsSettled t H
  settled_now = (
    λ h. record {
      processes = λ p there. stopped p there (h.processes p there);
      sources = λ c below source. sym (run.leads.closed c below) ∙ h.outside.sources c below source;
      sinks = λ c below sink. elim (h.outside.sinks c below sink) [
        | inl empty ↦ inl (empty_same t H c (channel_in s c) (run.leads.channels c below) empty)
        | inr gone ↦ inr (sym (left_now c below sink) ∙ gone)
      ];
    },
    λ h. record {
      processes = λ p there. stopped_now p there (h.processes p there);
      outside = record {
        sources = λ c below source. run.leads.closed c below ∙ h.sources c below source;
        sinks = λ c below sink. elim (h.sinks c below sink) [
          | inl empty ↦ inl (unread_same t H c (channel_in s c) (run.leads.channels c below) ∙ no_items _ empty)
          | inr left ↦ inr (left_now c below sink ∙ left)
        ];
      };
    },
  )

  full_cycle_now : HasFullCycleNow t s ↔ HasFullCycle t H
  full_cycle_now = (
    λ h. record {
      process = h.process;
      others = h.others;
      cycle = subst (λ ws. IsCycle t ws h.process h.others) (same_waits t network H s run) h.cycle;
      channel = h.channel;
      full =
          subst (λ ws. Contains (full_channels ws (h.process ∷ h.others)) h.channel) (same_waits t network H s run)
          h.full;
    },
    λ h. record {
      process = h.process;
      others = h.others;
      cycle = subst (λ ws. IsCycle t ws h.process h.others) (sym (same_waits t network H s run)) h.cycle;
      channel = h.channel;
      full =
          subst (λ ws. Contains (full_channels ws (h.process ∷ h.others)) h.channel)
          (sym (same_waits t network H s run)) h.full;
    },
  )

  full_wait_now : HasFullWaitNow t s ↔ HasFullWait t H
  full_wait_now = (
    λ h. record {
      process = h.process;
      there = h.there;
      waits = record { channel = h.channel; blocked = sym (run.leads.waits h.process h.there) ∙ h.waits };
    },
    λ h. record {
      process = h.process;
      there = h.there;
      channel = h.waits.channel;
      waits = run.leads.waits h.process h.there ∙ h.waits.blocked;
    },
  )

  pub verdict_now : (verdict : Option Verdict) → IsVerdictNow t s verdict ↔ IsVerdict t H verdict
  verdict_now None = (λ none settled. none (settled_now.1 settled), λ none settled. none (settled_now.0 settled))
  verdict_now (Some Jammed) =
      (λ h. (settled_now.0 h.0, full_cycle_now.0 h.1), λ h. (settled_now.1 h.0, full_cycle_now.1 h.1))
  verdict_now (Some Clogged) = (
    λ h. (settled_now.0 h.0, λ full. h.1 (full_cycle_now.1 full), full_wait_now.0 h.2),
    λ h. (settled_now.1 h.0, λ full. h.1 (full_cycle_now.0 full), full_wait_now.1 h.2),
  )
  verdict_now (Some Ended) = (
    λ h. (settled_now.0 h.0, λ full. h.1 (full_cycle_now.1 full), λ waits. h.2 (full_wait_now.1 waits)),
    λ h. (settled_now.1 h.0, λ full. h.1 (full_cycle_now.0 full), λ waits. h.2 (full_wait_now.0 waits)),
  )
