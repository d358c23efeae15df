-- Complete channels of reports: the walk along the states of the view, and the laws of complete channels for the lists
-- of the run.
use Rattle.kpn_book.proofs.Common.{◌≡◌, ◌↔◌, ℕ, ◌+◌, ◌<◌, ◌≤◌, Bool, true, false, IsTrue, ℤ, List, length, get_or, slice_get, Some, refl, sym, ap, ◌∙◌, subst, arith, false≢true, get_or_from_slice_get, slice_get_within, IsPrefix, same_from_prefix, End, Process, Source, Sink, Nobody, Empty, Full, Tables, channel_at, is_source, writer_of, IsNetwork, given_by, IsLeast, Writes-writer_of, source-writer_of, writer_is_no_sink, Event, How, State, View, written_on, read_on, is_closed, Legal, IsStateOf, Agrees, IsComplete, IsFedFrom, ended_by, reads_begin_writes, Walked, complete_source, complete_if_ended, incomplete_if_neither, walk_more, walk_long, Limits, Report, events_of, journal_of, taken_of, sink_numbers, AreSupplied, IsReport}
use Rattle.kpn_history.specs.declared.state.State.TheVariants.{Ready, Held, WaitsEmpty, WaitsFull, Ended}
use Rattle.kpn_history.proofs.OwnWaits.{wait_on_empty}
use Rattle.kpn_history.proofs.Finished.{process-complete}
use Rattle.kpn_history.proofs.Complete.{least_if_complete, begins_complete, complete_same}
use Rattle.kpn_history.proofs.CompleteQuiet.{finished_if_quiet}
use Rattle.kpn_book.specs.declared.outcome.Outcome.TheVariants as outcome
use Rattle.kpn_book.proofs.Agreement.{journal_is, fed_begins, is_quiet, taken_is}
use Rattle.kpn_book.proofs.Parts.{sink_at, sink_is}

-- ---- the walk

-- the answer says whether the channel is complete, if all sources are closed
abbrev pub TellsComplete : Tables → List Event → (c : ℕ) → Bool → Type 0
TellsComplete t H c answer =
    ((d : ℕ) → is_source (channel_at t d) ≡ true → is_closed H d ≡ true) → (IsTrue answer ↔ IsComplete t H c)

module _ {A : Type 0} (t : Tables) (network : IsNetwork t) (H : List Event) (legal : Legal t H) (view : View A)
    (agrees : Agrees t H view) (from steps at : ℕ) (walk : Walked t H from steps at) where
  -- an answer about the channel where the walk stands is one about the channel where it began
  from_here : (answer : Bool)
      → (((d : ℕ) → is_source (channel_at t d) ≡ true → is_closed H d ≡ true) → (IsTrue answer ↔ IsComplete t H at))
      → TellsComplete t H from answer
  from_here answer tells closed =
      let exact = tells closed in
      (λ is. walk.same.1 (exact.0 is), λ complete. exact.1 (walk.same.0 complete))

  closed_is_complete : ((d : ℕ) → is_source (channel_at t d) ≡ true → is_closed H d ≡ true)
      → writer_of t at ≡ Source → IsComplete t H at
  closed_is_complete closed w = (complete_source t H at w).1 (closed at (source-writer_of t at w))

  -- the walk stands at a channel that no process writes
  pub tells_outside : at < length t.channels → ((p : ℕ) → writer_of t at ≡ Process p → ⊥)
      → TellsComplete t H from true
  tells_outside there none =
      from_here true (λ closed. ((λ is. by_writer closed (writer_of t at) refl), (λ complete. refl)))
    where
      by_writer : ((d : ℕ) → is_source (channel_at t d) ≡ true → is_closed H d ≡ true) → (writer : End)
          → writer_of t at ≡ writer → IsComplete t H at
      by_writer closed (Process p) w = absurd (none p w)
      by_writer closed Source w = closed_is_complete closed w
      by_writer closed Sink w = absurd (writer_is_no_sink t network at there w)

  -- the walk has made as many steps as there are processes
  pub tells_round : length t.instances ≤ steps → at < length t.channels → TellsComplete t H from true
  tells_round long there =
      from_here true (λ closed. ((λ is. by_writer closed (writer_of t at) refl), (λ complete. refl)))
    where
      by_writer : ((d : ℕ) → is_source (channel_at t d) ≡ true → is_closed H d ≡ true) → (writer : End)
          → writer_of t at ≡ writer → IsComplete t H at
      by_writer closed (Process p) w = walk_long t H from steps at p walk w long
      by_writer closed Source w = closed_is_complete closed w
      by_writer closed Sink w = absurd (writer_is_no_sink t network at there w)

  module _ (p : ℕ) (writer : writer_of t at ≡ Process p) (state : State)
      (shown : state ≡ get_or view.states p Ready) where
    writer_there : p < length t.instances
    writer_there = let writes = Writes-writer_of t p at writer in writes.process

    is_state : IsStateOf t H p state
    is_state = subst (IsStateOf t H p) (sym shown) (agrees.states p writer_there)

    -- the writer has ended
    pub tells_ended : (how : How) → state ≡ Ended how → TellsComplete t H from true
    tells_ended how is =
        from_here true
        (λ closed. (
          (λ yes. complete_if_ended t H at p writer (ended_by H p how (subst (IsStateOf t H p) is is_state))),
          (λ complete. refl),
        ))

    -- the writer has not ended and waits on no empty channel
    pub tells_neither : ((how : How) → state ≡ Ended how → ⊥) → ((d : ℕ) → state ≡ WaitsEmpty d → ⊥)
        → TellsComplete t H from false
    tells_neither alive other =
        from_here false
        (λ closed. (
          (λ yes. absurd (false≢true yes)),
          (λ complete. absurd (by_state state refl complete is_state)),
        ))
      where
        by_state : (s : State) → state ≡ s → IsComplete t H at → IsStateOf t H p s → ⊥
        by_state Ready e complete is =
            incomplete_if_neither t H at p writer is.0
            (λ d waits. let clash : Nobody ≡ Empty d = sym is.1 ∙ waits in cc) complete
        by_state Held e complete is =
            incomplete_if_neither t H at p writer is.0
            (λ d waits. let clash : Nobody ≡ Empty d = sym is.1 ∙ waits in cc) complete
        by_state (WaitsEmpty d) e complete is = other d e
        by_state (WaitsFull c) e complete is =
            incomplete_if_neither t H at p writer is.0
            (λ d waits. let clash : Full c ≡ Empty d = sym is.1 ∙ waits in cc) complete
        by_state (Ended how) e complete is = alive how e

    -- the writer waits on an empty channel
    module _ (next : ℕ) (is : state ≡ WaitsEmpty next) where
      waits : IsStateOf t H p (WaitsEmpty next)
      waits = subst (IsStateOf t H p) is is_state

      pub walk_on : Walked t H from (steps + 1) next
      walk_on = let w = waits in walk_more t H at p next writer w.0 w.1 from steps walk

      pub next_there : next < length t.channels
      next_there = let w = waits in let may = wait_on_empty t network H legal p next w.1 in may.there

-- ---- the laws

module _ (t : Tables) (network : IsNetwork t) (lists : List (List ℤ)) where
  -- the run is fed from its lists
  pub fed_from : (limits : Limits) (report : Report) → IsReport t lists limits report
      → AreSupplied t lists (events_of report) → IsFedFrom t (events_of report) (given_by t lists)
  fed_from limits report is supplied =
      record {
        begun = fed_begins t lists limits report is;
        whole = λ c source closed. supplied.whole.each c source;
      }

  pub report_is_least : (limits : Limits) (report : Report) → IsReport t lists limits report
      → AreSupplied t lists (events_of report) → (c : ℕ) → c < length t.channels → IsComplete t (events_of report) c
      → IsLeast t (given_by t lists) c (journal_of report c)
  report_is_least limits report is supplied c below complete =
      subst (IsLeast t (given_by t lists) c) (sym (journal_is t lists limits report is c below))
      (least_if_complete t network (events_of report) is.legal (given_by t lists)
      (fed_from limits report is supplied) c complete)

  -- what was taken from a complete sink, if it is all
  pub taken_is_least : (limits : Limits) (report : Report) → IsReport t lists limits report
      → AreSupplied t lists (events_of report) → (sink c : ℕ) → slice_get (sink_numbers t) sink ≡ Some c
      → IsComplete t (events_of report) c → length (taken_of report sink) ≡ length (journal_of report c)
      → IsLeast t (given_by t lists) c (taken_of report sink)
  taken_is_least limits report is supplied sink c at complete whole =
      let there = slice_get_within (sink_numbers t) sink c at in
      let same : sink_at t sink ≡ c = get_or_from_slice_get (sink_numbers t) sink c 0 at in
      let below : c < length t.channels =
      subst (λ d. d < length t.channels) same (let is_sink_at = sink_is t sink there in is_sink_at.0) in
      let taken : taken_of report sink ≡ read_on (events_of report) c =
      taken_is t lists limits report is sink there ∙ ap (read_on (events_of report)) same in
      let journal = journal_is t lists limits report is c below in
      let long : length (written_on (events_of report) c) ≤ length (read_on (events_of report) c) =
      let a = ap length taken in let b = ap length journal in omega arith in
      let all : taken_of report sink ≡ journal_of report c =
      taken
      ∙ same_from_prefix (read_on (events_of report) c) (written_on (events_of report) c)
      (reads_begin_writes t (events_of report) is.legal c) long
      ∙ sym journal in
      subst (IsLeast t (given_by t lists) c) (sym all) (report_is_least limits report is supplied c below complete)

  pub reports_same : (limits more : Limits) (report other : Report) → IsReport t lists limits report
      → IsReport t lists more other → AreSupplied t lists (events_of report) → AreSupplied t lists (events_of other)
      → (c : ℕ) → c < length t.channels → IsComplete t (events_of report) c → IsComplete t (events_of other) c
      → journal_of report c ≡ journal_of other c
  reports_same limits more report other is also supplied given c below complete too =
      journal_is t lists limits report is c below
      ∙ complete_same t network (events_of report) (events_of other) is.legal also.legal (given_by t lists)
      (fed_from limits report is supplied) (fed_from more other also given) c complete too
      ∙ sym (journal_is t lists more other also c below)

  pub report_begins : (limits more : Limits) (report other : Report) → IsReport t lists limits report
      → IsReport t lists more other → AreSupplied t lists (events_of report) → (c : ℕ) → c < length t.channels
      → IsComplete t (events_of report) c → IsPrefix (journal_of other c) (journal_of report c)
  report_begins limits more report other is also supplied c below complete =
      subst (λ xs. IsPrefix xs (journal_of report c)) (sym (journal_is t lists more other also c below))
      (subst (IsPrefix (written_on (events_of other) c)) (sym (journal_is t lists limits report is c below))
      (begins_complete t network (events_of report) (events_of other) is.legal also.legal (given_by t lists)
      (fed_from limits report is supplied) (fed_begins t lists more other also) c complete))

  pub complete_if_ended_well : (limits : Limits) (report : Report) → IsReport t lists limits report
      → AreSupplied t lists (events_of report) → report.outcome ≡ outcome.Ended → (c : ℕ) → c < length t.channels
      → IsComplete t (events_of report) c
  complete_if_ended_well limits report is supplied ended c below = by_writer (writer_of t c) refl
    where
      by_writer : (writer : End) → writer_of t c ≡ writer → IsComplete t (events_of report) c
      by_writer (Process p) w =
          let writes = Writes-writer_of t p c w in
          process-complete t (events_of report) c p w
          (finished_if_quiet t network (events_of report) is.legal (is_quiet t lists limits report is ended)
          supplied.closed p writes.process)
      by_writer Source w =
          (complete_source t (events_of report) c w).1 (supplied.closed c (source-writer_of t c w))
      by_writer Sink w = absurd (writer_is_no_sink t network c below w)
