-- What is known of a run is what a report promises, if the journals of its sources are their lists.
use Rattle.kpn_pool.proofs.Common.{◌≡◌, ℕ, ◌<◌, Bool, true, false, not, ℤ, List, [], length, get_or, Some, refl, sym, ap, subst, ◌∙◌, inl, inr, cases_Bool, both_ways, ne_eqb, Tables, channel_at, is_sink, AgreeOnSources, given_by, list_of, Event, written_on, is_closed, is_leave_of, is_left, lives, Book, held_count, IsBook, AreFedBelow, AreSourcesClosedBelow, AreSinksKeptBelow}
use Rattle.kpn_net.specs.Faults.{IsNetwork}
use Rattle.kpn_net.proofs.Monotone.{IsPrefixOnSources-agree}
use Rattle.kpn_net.proofs.Networks.{source_there, sink_there, reader_of-sink}
use Rattle.kpn_history.specs.declared.event.Event.TheVariants.{Leave}
use Rattle.kpn_history.specs.Legal.{Legal}
use Rattle.kpn_history.specs.OneMore.{IsOwn}
use Rattle.kpn_history.proofs.AfterEvent.{is_left-next}
use Rattle.kpn_history.proofs.Legality.{by_events}
use Rattle.kpn_history.proofs.Ownership.{IsOwn-last}
use Rattle.kpn_book.specs.declared.outcome.Limits.{Limits}
use Rattle.kpn_book.specs.declared.outcome.Outcome.{Outcome}
use Rattle.kpn_book.specs.declared.report.Report.{Report}
use Rattle.kpn_book.specs.Outcomes.{IsOutcome}
use Rattle.kpn_book.specs.Reports.{events_of, IsWrittenFrom, AreSupplied, IsReport}
use Rattle.kpn_book.proofs.Told.{journals_there, told_legal, told_view, IsReport-of}

-- only sinks are left
left_is_sink : (t : Tables) → IsNetwork t → (c : ℕ) → is_sink (channel_at t c) ≡ false → (H : List Event) → Legal t H
    → is_left H c ≡ false
left_is_sink t network c other =
    by_events t (λ H. is_left H c ≡ false) refl
    (λ B e legal h. is_left-next B e c ∙ rw (h, by_event e (IsOwn-last t network B e legal)) refl)
  where
    by_event : (e : Event) → IsOwn t e → is_leave_of c e ≡ false
    by_event (Leave d) own =
        ne_eqb d c
        (λ same. both_ways (is_sink (channel_at t c)) other (subst (λ x. is_sink (channel_at t x) ≡ true) same own))
    by_event event own = refl

no_sink_is_left : (b : Book) → IsBook b → AreSinksKeptBelow b (length b.tables.channels) → (c : ℕ)
    → is_left b.history c ≡ false
no_sink_is_left b book kept c =
    elim (cases_Bool (is_sink (channel_at b.tables c))) [
      | inr other ↦ left_is_sink b.tables book.network c other b.history book.kept.in_step.run.legal
      | inl sink ↦
          let there = sink_there b.tables c sink in
          let shown = (book.kept.in_step.run.leads.channels c there).retired in
          let lives : not (not (is_left b.history c)) ≡ false =
          ap (λ end. not (lives b.history c end)) (sym (reader_of-sink b.tables c sink)) ∙ sym shown
          ∙ kept c there sink in
          twice (is_left b.history c) lives
    ]
  where
    twice : (x : Bool) → not (not x) ≡ false → x ≡ false
    twice true is = is
    twice false is = refl

module _ (t : Tables) (b : Book) (tables : b.tables ≡ t) (book : IsBook b) (outcome : Outcome) (report : Report)
    (tells : IsWrittenFrom b outcome report) where
  pub journals_shown : length report.view.journals ≡ length t.channels
  journals_shown =
      journals_there t (events_of report) (told_legal t b tables book outcome report tells) report.view
      (told_view t b tables book outcome report tells)

  module _ (lists : List (List ℤ)) (fed : AreFedBelow t lists report.view (length t.channels)) where
    journal_is : (c : ℕ) → c < length t.channels → get_or report.view.journals c [] ≡ written_on (events_of report) c
    journal_is =
        list_of t (written_on (events_of report)) report.view.journals
        (told_view t b tables book outcome report tells).journals

    are_fed : AgreeOnSources t (written_on (events_of report)) (given_by t lists)
    are_fed = record {
      each = λ c source.
          let there = source_there t c source in
          sym (journal_is c there) ∙ fed c there source;
    }

    pub are_supplied : AreSourcesClosedBelow t b.history (length t.channels) → AreSupplied t lists (events_of report)
    are_supplied closed = record {
      whole = are_fed;
      closed = λ c source.
          subst (λ H. is_closed H c ≡ true) (sym tells.history) (closed c (source_there t c source) source);
    }

    pub IsReport-concluded : (limits : Limits) → held_count b ≡ 0
        → IsOutcome b.tables b.history b.commits limits (Some outcome)
        → AreSinksKeptBelow b (length b.tables.channels) → IsReport t lists limits report
    IsReport-concluded limits none_held comes_to kept =
        IsReport-of t b tables book outcome report tells lists limits none_held comes_to (no_sink_is_left b book kept)
        (IsPrefixOnSources-agree t (written_on (events_of report)) (given_by t lists) are_fed) (λ verdict is. are_fed)
