-- Kahn's theorem on reports: it depends only on legal histories.
use Rattle.kpn_book.proofs.Common.{◌≡◌, ℕ, ◌<◌, ◌≤◌, ◌⊎◌, ℤ, List, [], length, take, get_or, Some, sym, ap, ◌∙◌, subst, inl, inr, arith, cases_lt, Full, Tables, IsNetwork, channel_numbers, iterate, given_by, lists_of, IsPrefixOnSources, AgreeOnSources, IsBelowLeast, IsLeast, list_of, IsPrefix, wait_of, IsVerdict, IsQuiet, WaitsOnFull, IsJammedAtLimit, WaitsForBlocked, fed-source, below_least, least_if_quiet_given, one_iterate, first_items, no_wait_left, quiet_where_ended, jammed_at_limit, waits_for_blocked, Limits, Report, IsOutcome, IsEnough, verdict_of, events_of, journal_of, taken_of, sink_numbers, IsReport}
use Rattle.kpn_net.specs.declared.tables.Policy.TheVariants.{All}
use Rattle.kpn_history.specs.declared.state.Verdict.TheVariants as verdict
use Rattle.kpn_history.specs.Channels.{written_on, read_on, fed, capacity_after}
use Rattle.kpn_book.specs.declared.outcome.Outcome.TheVariants.{Ended, Clogged, Jammed, Enough}
use Rattle.kpn_book.proofs.Agreeing.{same_list}
use Rattle.kpn_book.proofs.Parts.{sink_at, sink_is, read_of_sink, read_of_sinks-length, read_of_no_sink}

-- ---- one report

module _ (t : Tables) (lists : List (List ℤ)) (limits : Limits) (report : Report)
    (is : IsReport t lists limits report) where
  pub journal_is : (c : ℕ) → c < length t.channels → journal_of report c ≡ written_on (events_of report) c
  journal_is = list_of t (written_on (events_of report)) report.view.journals is.view.journals

  pub fed_begins : IsPrefixOnSources t (fed t (events_of report)) (given_by t lists)
  fed_begins =
      record {
        each = λ c source.
            subst (λ xs. IsPrefix xs (given_by t lists c)) (sym (fed-source t (events_of report) c source))
            (is.fed.each c source);
      }

  -- ---- if it has ended

  pub ended_verdict : report.outcome ≡ Ended → IsVerdict t (events_of report) (Some verdict.Ended)
  ended_verdict e = (subst (λ o. IsOutcome t (events_of report) report.commits limits (Some o)) e is.outcome).1

  pub is_quiet : report.outcome ≡ Ended → IsQuiet t (events_of report)
  is_quiet e = quiet_where_ended t (events_of report) (ended_verdict e)

  pub fed_all : report.outcome ≡ Ended → AgreeOnSources t (fed t (events_of report)) (given_by t lists)
  fed_all e =
      let all = is.all_fed verdict.Ended (ap verdict_of e) in
      record { each = λ c source. fed-source t (events_of report) c source ∙ all.each c source }

  -- ---- if it has another outcome

  pub enough_read : report.outcome ≡ Enough → (items : ℕ) → limits.take ≡ Some items
      → IsEnough t (events_of report) (Some items)
  enough_read e items wanted =
      subst (IsEnough t (events_of report)) wanted
      (subst (λ o. IsOutcome t (events_of report) report.commits limits (Some o)) e is.outcome)

  -- ---- what was taken

  pub taken_is : (sink : ℕ) → sink < length (sink_numbers t)
      → taken_of report sink ≡ read_on (events_of report) (sink_at t sink)
  taken_is sink below = ap (λ ls. get_or ls sink []) is.taken ∙ read_of_sink t (events_of report) sink below

  pub taken_past : (sink : ℕ) → length (sink_numbers t) ≤ sink → taken_of report sink ≡ []
  taken_past sink past = ap (λ ls. get_or ls sink []) is.taken ∙ read_of_no_sink t (events_of report) sink past

  pub enough_taken : report.outcome ≡ Enough → (items : ℕ) → limits.take ≡ Some items → (sink : ℕ)
      → sink < length (sink_numbers t) → items ≤ length (taken_of report sink)
  enough_taken e items wanted sink below =
      let there = sink_is t sink below in
      let enough = enough_read e items wanted (sink_at t sink) there.0 there.1 in
      let same = ap length (taken_is sink below) in
      omega arith

  pub taken_length : length report.taken ≡ length (sink_numbers t)
  taken_length = ap length is.taken ∙ read_of_sinks-length t (events_of report)

module _ (t : Tables) (network : IsNetwork t) (lists : List (List ℤ)) where
  pub journal_below : (limits : Limits) (report : Report) → IsReport t lists limits report → (c : ℕ)
      → c < length t.channels → IsBelowLeast t (given_by t lists) c (journal_of report c)
  journal_below limits report is c below =
      subst (IsBelowLeast t (given_by t lists) c) (sym (journal_is t lists limits report is c below))
      (below_least t network (events_of report) is.legal (given_by t lists) (fed_begins t lists limits report is) c)

  pub journal_least : (limits : Limits) (report : Report) → IsReport t lists limits report → report.outcome ≡ Ended
      → (c : ℕ) → c < length t.channels → IsLeast t (given_by t lists) c (journal_of report c)
  journal_least limits report is e c below =
      subst (IsLeast t (given_by t lists) c) (sym (journal_is t lists limits report is c below))
      (least_if_quiet_given t network (events_of report) is.legal (is_quiet t lists limits report is e)
      (given_by t lists) (fed_all t lists limits report is e) c)

  -- ---- two reports

  pub ended_iterate : (limits more : Limits) (report other : Report) → IsReport t lists limits report
      → IsReport t lists more other → report.outcome ≡ Ended → other.outcome ≡ Ended
      → (n : ℕ) × (report.view.journals ≡ lists_of t (iterate t (given_by t lists) n))
      × (other.view.journals ≡ lists_of t (iterate t (given_by t lists) n))
  ended_iterate limits more report other is also e f =
      let one =
      one_iterate t network (events_of report) (events_of other) is.legal also.legal
      (is_quiet t lists limits report is e) (is_quiet t lists more other also f) (given_by t lists)
      (fed_all t lists limits report is e)
      (fed_all t lists more other also f) in (
        one.0,
        is.view.journals
            ∙ same_list (written_on (events_of report)) (iterate t (given_by t lists) one.0) (channel_numbers t)
            (λ c h. (one.1 c).0),
        also.view.journals
            ∙ same_list (written_on (events_of other)) (iterate t (given_by t lists) one.0) (channel_numbers t)
            (λ c h. (one.1 c).1),
      )

  pub ended_journals : (limits more : Limits) (report other : Report) → IsReport t lists limits report
      → IsReport t lists more other → report.outcome ≡ Ended → other.outcome ≡ Ended
      → report.view.journals ≡ other.view.journals
  ended_journals limits more report other is also e f =
      let one = ended_iterate limits more report other is also e f in one.1 ∙ sym one.2

  module _ (limits more : Limits) (report other : Report) (is : IsReport t lists limits report)
      (also : IsReport t lists more other) where
    pub taken_agree : (sink items : ℕ) → items ≤ length (taken_of report sink) → items ≤ length (taken_of other sink)
        → take items (taken_of report sink) ≡ take items (taken_of other sink)
    taken_agree sink items here there =
        elim (cases_lt sink (length (sink_numbers t))) [
          | inl below ↦
              let same = taken_is t lists limits report is sink below in
              let alike = taken_is t lists more other also sink below in
              let long = ap length same in
              let wide = ap length alike in
              ap (take items) same
              ∙ first_items t network (events_of report) (events_of other) is.legal also.legal (given_by t lists)
              (fed_begins t lists limits report is) (fed_begins t lists more other also) (sink_at t sink) items
              (omega arith) (omega arith)
              ∙ sym (ap (take items) alike)
          | inr past ↦
              ap (take items)
              (taken_past t lists limits report is sink past ∙ sym (taken_past t lists more other also sink past))
        ]

    pub enough_agree : report.outcome ≡ Enough → other.outcome ≡ Enough → (items : ℕ) → limits.take ≡ Some items
        → more.take ≡ Some items → (sink : ℕ)
        → take items (taken_of report sink) ≡ take items (taken_of other sink)
    enough_agree e f items wanted asked sink =
        elim (cases_lt sink (length (sink_numbers t))) [
          | inl below ↦
              taken_agree sink items (enough_taken t lists limits report is e items wanted sink below)
              (enough_taken t lists more other also f items asked sink below)
          | inr past ↦
              ap (take items)
              (taken_past t lists limits report is sink past ∙ sym (taken_past t lists more other also sink past))
        ]

  -- ---- what a stop means

  pub jammed_means : (limits : Limits) (report : Report) → IsReport t lists limits report → report.outcome ≡ Jammed
      → IsJammedAtLimit t (events_of report)
  jammed_means limits report is e =
      jammed_at_limit t network (events_of report) is.legal is.nothing_owed
      (subst (λ o. IsOutcome t (events_of report) report.commits limits (Some o)) e is.outcome).1

  pub clogged_means : (limits : Limits) (report : Report) → IsReport t lists limits report → report.outcome ≡ Clogged
      → (p : ℕ) → WaitsOnFull t (events_of report) p → WaitsForBlocked t (events_of report) p
  clogged_means limits report is e =
      waits_for_blocked t network (events_of report) is.legal
      (subst (λ o. IsOutcome t (events_of report) report.commits limits (Some o)) e is.outcome).1.0

  pub waits_at_limit : (limits : Limits) (report : Report) → IsReport t lists limits report
      → (report.outcome ≡ Clogged) ⊎ (report.outcome ≡ Jammed) → t.policy ≡ All → (p c : ℕ) → p < length t.instances
      → wait_of t (events_of report) p ≡ Full c → capacity_after t (events_of report) c ≡ Some t.limit
  waits_at_limit limits report is outcome all p c there waits =
      no_wait_left t network (events_of report) is.legal is.nothing_owed all
      (elim outcome [
        | inl e ↦ (subst (λ o. IsOutcome t (events_of report) report.commits limits (Some o)) e is.outcome).1.0
        | inr e ↦ (subst (λ o. IsOutcome t (events_of report) report.commits limits (Some o)) e is.outcome).1.0
      ])
      p c there waits
