-- The list of complete channels, entry by entry, and what it says of the journals.
use Rattle.kpn_audit.proofs.Common.{◌≡◌, ◌↔◌, ℕ, ◌+◌, ◌<◌, Bool, true, false, IsTrue, List, [], ◌∷◌, ◌++◌, length, get_or, sym, ap, ◌∙◌, subst, inl, inr, arith, length-append, cases_lt, get_or_append_left, get_or_push, get_or-map-range_with_len, Tables, IsNetwork, IsLeast, Event, written_on, Machine, IsRun, Audit, IsAudit}
use Rattle.kpn_net.specs.Process.{Family}
use Rattle.kpn_history.specs.Complete.{IsComplete, IsFedFrom}
use Rattle.kpn_history.proofs.Complete.{least_if_complete}
use Rattle.kpn_audit.specs.Complete.{TellsComplete}

-- the entries of the first channels
pub record ToldSoFar (t : Tables) (s : Machine) (n : ℕ) (complete : List Bool) : Type 0 where
  pub long : length complete ≡ n
  pub exact : (H : List Event) → IsRun t H s → (c : ℕ) → c < n
      → (get_or complete c false ≡ true) ↔ IsComplete t H c

pub told_none : (t : Tables) (s : Machine) (complete : List Bool) → complete ≡ [] → ToldSoFar t s 0 complete
told_none t s complete none = record { long = ap length none; exact = λ H run c below. absurd (omega arith) }

module _ (t : Tables) (s : Machine) (n : ℕ) (complete : List Bool) (told : ToldSoFar t s n complete)
    (answer : Bool) (exact : (H : List Event) → IsRun t H s → (IsTrue answer ↔ IsComplete t H n)) where
  entry : (H : List Event) → IsRun t H s → (c : ℕ) → c < n + 1
      → (get_or (complete ++ answer ∷ []) c false ≡ true) ↔ IsComplete t H c
  entry H run c below =
      elim (cases_lt c n) [
        | inl before ↦
            let long = told.long in
            let there : c < length complete = omega arith in
            subst (λ b. (b ≡ true) ↔ IsComplete t H c)
            (sym (get_or_append_left complete (answer ∷ []) false c there)) (told.exact H run c before)
        | inr last ↦
            let same : n ≡ c = omega arith in
            subst (λ b. (b ≡ true) ↔ IsComplete t H c)
            (sym (get_or_push complete answer false c (told.long ∙ same)))
            (subst (λ d. IsTrue answer ↔ IsComplete t H d) same (exact H run))
      ]

  pub told_more : (more : List Bool) → more ≡ complete ++ answer ∷ [] → ToldSoFar t s (n + 1) more
  told_more more is =
      record {
        long = ap length is ∙ length-append complete (answer ∷ []) ∙ ap (λ k. k + 1) told.long;
        exact = λ H run c below. subst (λ xs. (get_or xs c false ≡ true) ↔ IsComplete t H c) (sym is)
            (entry H run c below);
      }

pub told_all : (t : Tables) (s : Machine) (n : ℕ) (complete result : List Bool) → n ≡ length t.channels
    → ToldSoFar t s n complete → result ≡ complete → (H : List Event) → IsRun t H s → TellsComplete t H result
told_all t s n complete result all told is H run =
    subst (TellsComplete t H) (sym is)
    (record {
      one_each = told.long ∙ all;
      exact = λ c below. told.exact H run c (subst (λ k. c < k) (sym all) below);
    })

pub complete_least : {A : Type 0} (t : Tables) → IsNetwork t → (H : List Event) (audit : Audit A) → IsAudit t H audit
    → (given : Family) → IsFedFrom t H given → (c : ℕ) → c < length t.channels
    → get_or audit.complete c false ≡ true → IsLeast t given c (get_or audit.journals c [])
complete_least t network H audit is given f c below told =
    subst (λ xs. IsLeast t given c xs)
    (sym (ap (λ lists. get_or lists c []) is.journals
    ∙ get_or-map-range_with_len (written_on H) 0 (length t.channels) c c [] below (omega arith)))
    (least_if_complete t network H is.legal given f c ((is.complete.exact c below).0 told))
