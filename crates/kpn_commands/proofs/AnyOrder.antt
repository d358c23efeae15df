-- What a run in any order comes to under fewer commits, unless these stop it.
use Rattle.kpn_commands.proofs.Common.{◌≡◌, ℕ, ◌≤◌, ℤ, List, Option, Some, None, refl, arith, Tables, Event, Limits, Ended, Clogged, Jammed, Enough, Stopped, Report, events_of, IsReport, commits_in_any_order, limits_in_any_order}
use Rattle.kpn_book.specs.declared.outcome.Outcome.{Outcome}
use Rattle.kpn_book.specs.Outcomes.{IsOutcome}

module _ (t : Tables) (H : List Event) (commits processes : ℕ) (limits : Limits) where
  same_outcome : (outcome : Outcome) → (outcome ≡ Stopped → ⊥)
      → IsOutcome t H commits (limits_in_any_order processes limits) (Some outcome)
      → IsOutcome t H commits limits (Some outcome)
  same_outcome Enough other is = is
  same_outcome Ended other is = is
  same_outcome Clogged other is = is
  same_outcome Jammed other is = is
  same_outcome Stopped other is = absurd (other refl)

pub same_report : (t : Tables) (lists : List (List ℤ)) (processes : ℕ) (limits : Limits) (report : Report)
    → (report.outcome ≡ Stopped → ⊥) → IsReport t lists (limits_in_any_order processes limits) report
    → IsReport t lists limits report
same_report t lists processes limits report other is = record {
  legal = is.legal;
  nothing_owed = is.nothing_owed;
  view = is.view;
  nobody_held = is.nobody_held;
  fed = is.fed;
  all_fed = is.all_fed;
  taken = is.taken;
  stays = is.stays;
  committed = is.committed;
  outcome = same_outcome t (events_of report) report.commits processes limits report.outcome other is.outcome;
}

fewer : (processes : ℕ) (take : Option ℕ) (commits : ℕ) → commits_in_any_order processes take commits ≤ commits
fewer processes None commits = omega arith
fewer processes (Some items) commits = omega arith

pub fewer_commits : (processes : ℕ) (limits : Limits) → (limits_in_any_order processes limits).commits ≤ limits.commits
fewer_commits processes limits = fewer processes limits.take limits.commits
