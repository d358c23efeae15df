-- A report with a verdict is that of a final run. So two of them from the same lists are the same, and what another one
-- has read of the sinks, it has read too.
use Rattle.kpn_book.proofs.Common.{◌≡◌, ◌≢◌, ℕ, ◌<◌, ◌≤◌, true, false, ℤ, List, length, map, Option, Some, None, refl, sym, ap, ◌∙◌, subst, inl, inr, arith, both_ways, length_of_prefix, Tables, channel_at, is_sink, IsNetwork, given_by, Event, Verdict, written_on, read_on, is_left, IsSettled, IsVerdict, IsRunFrom, IsFinalRun, EndAlike, all_read, reads_begin_writes, one_verdict, made_no_more, end_alike, Limits, Outcome, Report, IsEnough, IsOutcome, verdict_of, events_of, sink_numbers, AreSupplied, IsReport}
use Rattle.kpn_history.specs.declared.state.Verdict.TheVariants as verdict
use Rattle.kpn_history.proofs.SameEnds.{same_verdict}
use Rattle.kpn_history.proofs.SameViews.{same_view}
use Rattle.kpn_book.specs.declared.outcome.Outcome.TheVariants.{Ended, Clogged, Jammed, Enough, Stopped}
use Rattle.kpn_book.proofs.Agreement.{fed_begins}
use Rattle.kpn_book.proofs.Completing.{fed_from}

-- ---- the verdict of an outcome

verdict_is : (t : Tables) (H : List Event) (commits : ℕ) (limits : Limits) (outcome : Outcome) (v : Verdict)
    → verdict_of outcome ≡ Some v → IsOutcome t H commits limits (Some outcome) → IsVerdict t H (Some v)
verdict_is t H commits limits Ended v is o = subst (IsVerdict t H) is o.1
verdict_is t H commits limits Clogged v is o = subst (IsVerdict t H) is o.1
verdict_is t H commits limits Jammed v is o = subst (IsVerdict t H) is o.1
verdict_is t H commits limits Enough v is o = absurd cc
verdict_is t H commits limits Stopped v is o = absurd cc

settled_if_verdict : (t : Tables) (H : List Event) (v : Verdict) → IsVerdict t H (Some v) → IsSettled t H
settled_if_verdict t H verdict.Jammed v = v.0
settled_if_verdict t H verdict.Clogged v = v.0
settled_if_verdict t H verdict.Ended v = v.0

-- the outcome that is this verdict
abbrev outcome_from : Option Verdict → Outcome
outcome_from (Some verdict.Ended) = Ended
outcome_from (Some verdict.Clogged) = Clogged
outcome_from (Some verdict.Jammed) = Jammed
outcome_from None = Stopped

outcome_is : (outcome : Outcome) (v : Verdict) → verdict_of outcome ≡ Some v
    → outcome ≡ outcome_from (verdict_of outcome)
outcome_is Ended v is = refl
outcome_is Clogged v is = refl
outcome_is Jammed v is = refl
outcome_is Enough v is = absurd cc
outcome_is Stopped v is = absurd cc

-- ---- two reports

module _ (t : Tables) (network : IsNetwork t) (lists : List (List ℤ)) where
  pub final_run : (limits : Limits) (report : Report) → IsReport t lists limits report → (v : Verdict)
      → verdict_of report.outcome ≡ Some v → IsFinalRun t (given_by t lists) (events_of report)
  final_run limits report is v e =
      record {
        run = record {
          legal = is.legal;
          fed = record {
            begun = fed_begins t lists limits report is;
            whole = λ c source closed. (is.all_fed v e).each c source;
          };
        };
        settled =
            settled_if_verdict t (events_of report) v
            (verdict_is t (events_of report) report.commits limits report.outcome v e is.outcome);
        nothing_owed = is.nothing_owed;
      }

  -- what another run has read of a sink that this one has not left
  pub reads_as_much : (H G : List Event) → IsRunFrom t (given_by t lists) H → IsFinalRun t (given_by t lists) G → (c : ℕ)
      → c < length t.channels → is_sink (channel_at t c) ≡ true → is_left G c ≡ false
      → length (read_on H c) ≤ length (read_on G c)
  reads_as_much H G run final c there sink stays =
      let read =
      length_of_prefix (read_on H c) (written_on H c) (reads_begin_writes t H run.legal c) in
      let written =
      length_of_prefix (written_on H c) (written_on G c)
      ((made_no_more t network (given_by t lists) G final H run).written c) in
      elim (final.settled.sinks c there sink) [
        | inl empty ↦ let all = ap length (all_read t G final.run.legal c empty) in omega arith
        | inr left ↦ absurd (both_ways (is_left G c) stays left)
      ]

  -- so if it has read enough, this one has too
  pub enough_too : (H G : List Event) → IsRunFrom t (given_by t lists) H → IsFinalRun t (given_by t lists) G
      → ((c : ℕ) → is_left G c ≡ false) → (wanted : Option ℕ) → IsEnough t H wanted → IsEnough t G wanted
  enough_too H G run final stays None enough = enough
  enough_too H G run final stays (Some items) enough = λ c there sink.
      let read = enough c there sink in
      let more = reads_as_much H G run final c there sink (stays c) in
      omega arith

  module _ (limits others : Limits) (report other : Report) (is : IsReport t lists limits report)
      (also : IsReport t lists others other) (v w : Verdict) (e : verdict_of report.outcome ≡ Some v)
      (f : verdict_of other.outcome ≡ Some w) where
    first : IsFinalRun t (given_by t lists) (events_of report)
    first = final_run limits report is v e

    second : IsFinalRun t (given_by t lists) (events_of other)
    second = final_run others other also w f

    alike : EndAlike t (events_of report) (events_of other)
    alike = end_alike t network (given_by t lists) (events_of report) (events_of other) first second

    same_outcome : report.outcome ≡ other.outcome
    same_outcome =
        let here = verdict_is t (events_of report) report.commits limits report.outcome v e is.outcome in
        let there = verdict_is t (events_of other) other.commits others other.outcome w f also.outcome in
        let one : ◌≡◌ {A = Option Verdict} (Some v) (Some w) =
        one_verdict t (events_of other) (Some v) (Some w)
        (same_verdict t (events_of report) (events_of other) alike second.settled v here) there in
        outcome_is report.outcome v e ∙ ap outcome_from (e ∙ one ∙ sym f) ∙ sym (outcome_is other.outcome w f)

    pub reports_agree : (report.outcome ≡ other.outcome) × (report.view ≡ other.view) × (report.taken ≡ other.taken)
    reports_agree =
        let reads : read_on (events_of report) ≡ read_on (events_of other) =
        λ i c. alike.read c (is.stays c) (also.stays c) i in (
          same_outcome,
          same_view t (events_of report) (events_of other) is.legal alike first.settled.processes report.view other.view
              is.view also.view is.stays also.stays,
          is.taken ∙ ap (λ h. map h (sink_numbers t)) reads ∙ sym also.taken,
        )

  -- ---- whatever the outcomes are

  -- a verdict and enough do not go together, if as many items were wanted
  not_both : (limits others : Limits) (report other : Report) → IsReport t lists limits report
      → IsReport t lists others other → AreSupplied t lists (events_of other) → limits.take ≡ others.take
      → (v : Verdict) → verdict_of report.outcome ≡ Some v
      → ¬ IsEnough t (events_of report) limits.take → other.outcome ≡ Enough → ⊥
  not_both limits others report other is also supplied same v e lacking enough =
      lacking
      (enough_too (events_of other) (events_of report)
      (record { legal = also.legal; fed = fed_from t network lists others other also supplied })
      (final_run limits report is v e) is.stays limits.take
      (subst (IsEnough t (events_of other)) (sym same)
      (subst (λ o. IsOutcome t (events_of other) other.commits others (Some o)) enough also.outcome)))

  -- what was wanted was not read, if there is a verdict
  pub lacking : (limits : Limits) (report : Report) → IsReport t lists limits report → (o : Outcome) → report.outcome ≡ o
      → (v : Verdict) → verdict_of o ≡ Some v → ¬ IsEnough t (events_of report) limits.take
  lacking limits report is Ended e v f =
      (subst (λ o. IsOutcome t (events_of report) report.commits limits (Some o)) e is.outcome).0
  lacking limits report is Clogged e v f =
      (subst (λ o. IsOutcome t (events_of report) report.commits limits (Some o)) e is.outcome).0
  lacking limits report is Jammed e v f =
      (subst (λ o. IsOutcome t (events_of report) report.commits limits (Some o)) e is.outcome).0
  lacking limits report is Enough e v f = absurd cc
  lacking limits report is Stopped e v f = absurd cc

  -- an outcome is a verdict, enough or stopped
  pub data Kind (outcome : Outcome) : Type 0 where
    is_verdict : (v : Verdict) → verdict_of outcome ≡ Some v → Kind outcome
    is_enough : outcome ≡ Enough → Kind outcome
    is_stopped : outcome ≡ Stopped → Kind outcome

  pub kind_of : (outcome : Outcome) → Kind outcome
  kind_of Ended = is_verdict verdict.Ended refl
  kind_of Clogged = is_verdict verdict.Clogged refl
  kind_of Jammed = is_verdict verdict.Jammed refl
  kind_of Enough = is_enough refl
  kind_of Stopped = is_stopped refl

  pub outcomes_agree : (limits others : Limits) (report other : Report) → IsReport t lists limits report
      → IsReport t lists others other → AreSupplied t lists (events_of report) → AreSupplied t lists (events_of other)
      → limits.take ≡ others.take → report.outcome ≢ Stopped → other.outcome ≢ Stopped
      → report.outcome ≡ other.outcome
  outcomes_agree limits others report other is also supplied given same goes_on continues =
      by_kinds (kind_of report.outcome) (kind_of other.outcome)
    where
      by_kinds : Kind report.outcome → Kind other.outcome → report.outcome ≡ other.outcome
      by_kinds (is_stopped e) other_kind = absurd (goes_on e)
      by_kinds kind (is_stopped f) = absurd (continues f)
      by_kinds (is_enough e) (is_enough f) = e ∙ sym f
      by_kinds (is_verdict v e) (is_verdict w f) =
          (reports_agree limits others report other is also v w e f).0
      by_kinds (is_verdict v e) (is_enough f) =
          absurd
          (not_both limits others report other is also given same v e
          (lacking limits report is report.outcome refl v e) f)
      by_kinds (is_enough e) (is_verdict w f) =
          absurd
          (not_both others limits other report also is supplied (sym same) w f
          (lacking others other also other.outcome refl w f) e)
