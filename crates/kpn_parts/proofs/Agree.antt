-- Joined runs that are fed from the same lists agree with each other and with every run in one piece, whatever the
-- cuts.
use Rattle.kpn_parts.proofs.Common.{◌≡◌, ℕ, ◌≤◌, ◌⊎◌, max, List, length, take, sym, ◌∙◌, inl, inr, arith, IsPrefix, IsPrefix-trans, IsPrefix-antisym, prefixes_of_one, length_of_prefix, Tables, IsNetwork, Family, IsFamilyPrefix, iterate, IsPrefixOnSources, AgreeOnSources, IsLeast, iterate-grows, Event, written_on, read_on, fed, Legal, IsQuiet, reads_begin_writes, IsBelowIterate, PartEvent, Part, IsCut, whole_history, IsJoined}
use Rattle.kpn_history.specs.Complete.{IsComplete, IsFedFrom}
use Rattle.kpn_history.proofs.Kahn as kahn
use Rattle.kpn_history.proofs.Kahn.{take-prefix}
use Rattle.kpn_history.proofs.Complete as one
use Rattle.kpn_parts.proofs.Whole.{is_spoken}
use Rattle.kpn_parts.proofs.Below.{below_one_iterate}
use Rattle.kpn_parts.proofs.Ended.{says_all}
use Rattle.kpn_parts.proofs.Rest.{least_if_quiet}

-- two lists of the least solution are one
pub same_least : (t : Tables) (given : Family) (c : ℕ) (xs ys : List _) → IsLeast t given c xs → IsLeast t given c ys
    → xs ≡ ys
same_least t given c xs ys a b =
    IsPrefix-antisym xs ys
    (IsPrefix-trans xs (iterate t given a.below.turns c) ys a.below.below (b.above a.below.turns))
    (IsPrefix-trans ys (iterate t given b.below.turns c) xs b.below.below (a.above b.below.turns))

-- ---- lists of events whose journals are below one iterate

-- what is needed of a run to be compared with others
pub record IsRun (t : Tables) (given : Family) (H : List Event) : Type 0 where
  pub below : IsBelowIterate t given H
  pub in_order : IsFamilyPrefix (read_on H) (written_on H)

module _ (t : Tables) (given : Family) (G H : List Event) (a : IsRun t given G) (b : IsRun t given H) where
  -- of two journals of a channel one begins the other
  pub one_begins_other : (c : ℕ)
      → IsPrefix (written_on G c) (written_on H c) ⊎ IsPrefix (written_on H c) (written_on G c)
  one_begins_other c =
      let n = max a.below.turns b.below.turns in
      prefixes_of_one (written_on G c) (written_on H c) (iterate t given n c)
      (IsPrefix-trans (written_on G c) (iterate t given a.below.turns c) (iterate t given n c) (a.below.below c)
      (iterate-grows t given a.below.turns n (omega arith) c))
      (IsPrefix-trans (written_on H c) (iterate t given b.below.turns c) (iterate t given n c) (b.below.below c)
      (iterate-grows t given b.below.turns n (omega arith) c))

  -- the first items read are the same
  pub first_items : (c k : ℕ) → k ≤ length (read_on G c) → k ≤ length (read_on H c)
      → take k (read_on G c) ≡ take k (read_on H c)
  first_items c k enough-G enough-H =
      let read-G = a.in_order c in
      let read-H = b.in_order c in
      let long-G = length_of_prefix (read_on G c) (written_on G c) read-G in
      let long-H = length_of_prefix (read_on H c) (written_on H c) read-H in
      take-prefix (read_on G c) (written_on G c) read-G k enough-G
      ∙ elim (one_begins_other c) as (λ _. take k (written_on G c) ≡ take k (written_on H c)) [
        | inl h ↦ take-prefix (written_on G c) (written_on H c) h k (omega arith)
        | inr h ↦ sym (take-prefix (written_on H c) (written_on G c) h k (omega arith))
      ]
      ∙ sym (take-prefix (read_on H c) (written_on H c) read-H k enough-H)

-- ---- runs in parts and in one piece

pub joined_run : (t : Tables) (network : IsNetwork t) (cut : List Part) (is : IsCut t cut) (given : Family)
    (order : List PartEvent) → IsJoined t cut order → IsPrefixOnSources t (fed t (whole_history t cut order)) given
    → IsRun t given (whole_history t cut order)
joined_run t network cut is given order joined begun =
    record {
      below = below_one_iterate t network cut is given order joined begun;
      in_order = (is_spoken t network cut is order joined).in_order;
    }

pub legal_run : (t : Tables) (network : IsNetwork t) (given : Family) (H : List Event) → Legal t H
    → IsPrefixOnSources t (fed t H) given → IsRun t given H
legal_run t network given H legal begun =
    record {
      below = kahn.below_one_iterate t network H legal given begun;
      in_order = reads_begin_writes t H legal;
    }

module _ (t : Tables) (network : IsNetwork t) (cut : List Part) (is : IsCut t cut) (order : List PartEvent)
    (joined : IsJoined t cut order) where
  pub complete_least : (given : Family) → IsFedFrom t (whole_history t cut order) given → (c : ℕ)
      → IsComplete t (whole_history t cut order) c → IsLeast t given c (written_on (whole_history t cut order) c)
  complete_least given f c complete =
      one.least_where_complete t network (whole_history t cut order) (says_all t network cut is order joined) given
      (below_one_iterate t network cut is given order joined f.begun) f c complete

  -- at rest the journals are those of a run in one piece that is at rest
  pub same_at_rest : (H : List Event) → Legal t H → IsQuiet t (whole_history t cut order) → IsQuiet t H
      → AgreeOnSources t (fed t (whole_history t cut order)) (fed t H) → (c : ℕ)
      → written_on (whole_history t cut order) c ≡ written_on H c
  same_at_rest H legal quiet quiet-H agree c =
      same_least t (fed t H) c (written_on (whole_history t cut order) c) (written_on H c)
      (least_if_quiet t network cut is order joined quiet (fed t H) agree c)
      (kahn.least_if_quiet t network H legal quiet-H c)

  -- a channel that is complete in both has one journal
  pub same_if_complete : (H : List Event) → Legal t H → (given : Family)
      → IsFedFrom t (whole_history t cut order) given → IsFedFrom t H given → (c : ℕ)
      → IsComplete t (whole_history t cut order) c → IsComplete t H c
      → written_on (whole_history t cut order) c ≡ written_on H c
  same_if_complete H legal given f g c complete complete-H =
      same_least t given c (written_on (whole_history t cut order) c) (written_on H c)
      (complete_least given f c complete)
      (one.least_if_complete t network H legal given g c complete-H)
