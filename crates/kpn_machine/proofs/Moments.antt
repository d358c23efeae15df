-- What holds at every moment of a run: the laws of legal histories, for the machine to which a history leads.
use Rattle.std.proofs.Common.{◌≡◌, ◌↔◌, ℕ, ◌<◌, ◌≤◌, Bool, true, false, not, List, ◌∷◌, ◌++◌, length, map, Option, Some, None, refl, sym, ap, ◌∙◌, subst, inl, inr}
use Rattle.std.specs.List.{Contains}
use Rattle.kpn_machine.proofs.Common.{cases_lt, both_ways, Said, alone, IsPrefix-refl, Nobody, Tables, instance_at, program_of, IsNetwork, IsCycle, full_channels, Family, at_channel, residual, GoesOnAs, cap_in, unread, How, Event, talk_of, has_ended, read_on, fed, reader_lives, IsQuiet, OwesNothing, read_then_unread, in_limit, nothing_can_grow, ended_exactly, Machine, channel_in, wait_in, end_in, frame_in, capacities, IsEndOf, IsRun, IsQuietNow}
use Rattle.kpn_net.specs.Iteration.{IsBelowLeast, IsLeast}
use Rattle.kpn_history.proofs.Kahn.{below_least_fed, least_if_quiet}
use Rattle.kpn_history.proofs.WaitsAfter.{ended_is_not_blocked}
use Rattle.kpn_machine.proofs.Due.{unread_same}
use Rattle.kpn_machine.proofs.Talking.{IsRestAfter-more}
use Rattle.kpn_machine.proofs.Growing.{same_waits, same_capacity}

module _ (t : Tables) (network : IsNetwork t) (H : List Event) (s : Machine) (run : IsRun t H s) where
  -- ---- channels

  module _ (c : ℕ) (below : c < length t.channels) where
    pub journal_now : (channel_in s c).journal ≡ read_on H c ++ unread (channel_in s c)
    journal_now =
        (run.leads.channels c below).journal
        ∙ sym (read_then_unread t H run.legal c)
        ∙ ap (λ xs. read_on H c ++ xs) (sym (unread_same t H c (channel_in s c) (run.leads.channels c below)))

    pub within_capacity : (channel_in s c).is_retired ≡ false → (cap : ℕ) → (channel_in s c).capacity ≡ Some cap
        → length (unread (channel_in s c)) ≤ cap
    within_capacity there cap is =
        subst (λ xs. length xs ≤ cap) (sym (unread_same t H c (channel_in s c) (run.leads.channels c below)))
        ((run.legal.consistent H (IsPrefix-refl H)).within c below
        (lives_then (reader_lives t H c) (sym (run.leads.channels c below).retired ∙ there)) cap
        (sym (run.leads.channels c below).capacity ∙ is))
      where
        lives_then : (b : Bool) → not b ≡ false → b ≡ true
        lives_then true e = refl
        lives_then false e = absurd cc

    pub within_limit : (cap : ℕ) → (channel_in s c).capacity ≡ Some cap → (0 < cap) × (cap ≤ t.limit)
    within_limit cap is =
        (in_limit t network H run.legal).each c cap below (sym (run.leads.channels c below).capacity ∙ is)

    pub below_least_now : IsBelowLeast t (fed t H) c (channel_in s c).journal
    below_least_now =
        subst (λ xs. IsBelowLeast t (fed t H) c xs) (sym (run.leads.channels c below).journal)
        (below_least_fed t network H run.legal c)

  -- ---- processes

  pub ended_waits_for_nobody : (p : ℕ) → p < length t.instances → (how : How) → end_in s p ≡ Some how
      → wait_in s p ≡ Nobody
  ended_waits_for_nobody p there how is =
      run.leads.waits p there
      ∙ ended_is_not_blocked t network p H run.legal
      ((ended_exactly H p).1 (how, subst (λ e. IsEndOf H p e) is (run.leads.ends p there)))

  pub quiet_now : IsQuietNow t s ↔ IsQuiet t H
  quiet_now = (
    λ quiet. record {
      each = λ p there. elim (quiet.each p there) [
        | inl e ↦ inl ((ended_exactly H p).1 (e.0, subst (λ x. IsEndOf H p x) e.1 (run.leads.ends p there)))
        | inr w ↦ inr (record { channel = w.0; blocked = sym (run.leads.waits p there) ∙ w.1 })
      ];
    },
    λ quiet. record {
      each = λ p there. elim (quiet.each p there) [
        | inl e ↦ inl (by_end p (end_in s p) (run.leads.ends p there) e)
        | inr w ↦ inr (w.channel, run.leads.waits p there ∙ w.blocked)
      ];
    },
  )
    where
      by_end : (p : ℕ) (end : Option How) → IsEndOf H p end → has_ended H p ≡ true → (how : How) × (end ≡ Some how)
      by_end p None lives ended = absurd (both_ways _ lives ended)
      by_end p (Some how) is ended = (how, refl)

  pub least_when_quiet : IsQuietNow t s → (c : ℕ) → c < length t.channels
      → IsLeast t (fed t H) c (channel_in s c).journal
  least_when_quiet quiet c below =
      subst (λ xs. IsLeast t (fed t H) c xs) (sym (run.leads.channels c below).journal)
      (least_if_quiet t network H run.legal (quiet_now.0 quiet) c)

  -- ---- cycles

  pub no_cycle_can_grow : OwesNothing t H → (p : ℕ) (others : List ℕ) (d : ℕ) → IsCycle t s.waits p others
      → Contains (full_channels s.waits (p ∷ others)) d → t.limit ≤ cap_in (capacities s) d
  no_cycle_can_grow owes p others d cycle full =
      elim (cases_lt (cap_in (capacities s) d) t.limit) [
        | inl less ↦ absurd (nothing_can_grow t network H run.legal owes (record {
          process = p;
          others = others;
          cycle = subst (λ ws. IsCycle t ws p others) (same_waits t network H s run) cycle;
          channel = d;
          full = subst (λ ws. Contains (full_channels ws (p ∷ others)) d) (same_waits t network H s run) full;
          below_limit = subst (λ n. n < t.limit) (same_capacity t network H s run d) less;
        }))
        | inr more ↦ more
      ]

  -- ---- frames

  pub goes_on_now : (p : ℕ) → p < length t.instances → (X more : Family) → ((c : ℕ) → X c ≡ read_on H c ++ more c)
      → (said : List Said) × (map (at_channel (instance_at t p)) said ≡ talk_of H p)
      × GoesOnAs (alone (program_of t p) (instance_at t p).pars) (map X (instance_at t p).ins) said
      (residual (program_of t p).blocks (frame_in s p)) (map more (instance_at t p).ins)
  goes_on_now p there X more is =
      let stand = run.leads.frames p there in (
        stand.said,
        stand.talk,
        stand.after.goes_on (map X (instance_at t p).ins) (map more (instance_at t p).ins)
            (IsRestAfter-more t network H run.legal p there (frame_in s p) stand X more is),
      )
