-- What a report of a run promises, whatever the schedule of the run was.
use Rattle.std.specs.Prelude.{◌≡◌, ℕ, ◌≤◌, true, false, ℤ, List, [], map, slice_index_or, Some}
use Rattle.std.specs.List.{filter}
use Rattle.kpn_net.specs.Tables.{Tables, channel_at, is_source, is_sink}
use Rattle.kpn_net.specs.Faults.{channel_numbers}
use Rattle.kpn_net.specs.Iteration.{IsPrefixOnSources, AgreeOnSources, given_by}
use Rattle.kpn_history.specs.declared.event.Event.{Event}
use Rattle.kpn_history.specs.declared.state.Verdict.{Verdict}
use Rattle.kpn_history.specs.Talks.{process_events}
use Rattle.kpn_history.specs.Channels.{written_on, read_on, is_closed, is_left}
use Rattle.kpn_history.specs.Legal.{Legal}
use Rattle.kpn_history.specs.Stops.{OwesNothing}
use Rattle.kpn_history.specs.Views.{Agrees}
use Rattle.kpn_book.specs.Book.{Book}
use Rattle.kpn_book.specs.declared.outcome.Limits.{Limits}
use Rattle.kpn_book.specs.declared.outcome.Outcome.{Outcome}
use Rattle.kpn_book.specs.declared.report.Report.{Report}
use Rattle.kpn_book.specs.Outcomes.{IsOutcome, verdict_of}

-- ---- its parts

-- the events of the run
abbrev pub events_of : Report → List Event
events_of report = report.history.events

-- the journal of a channel
abbrev pub journal_of : Report → (c : ℕ) → List ℤ
journal_of report c = slice_index_or report.view.journals c []

-- the items that were taken from the sink that has this many sinks before it
abbrev pub taken_of : Report → (sink : ℕ) → List ℤ
taken_of report sink = slice_index_or report.taken sink []

-- ---- what was taken

-- the sinks, in order of channel number
abbrev pub sink_numbers : Tables → List ℕ
sink_numbers t = filter (λ c. is_sink (channel_at t c)) (channel_numbers t)

-- what was read of each sink
abbrev pub read_of_sinks : Tables → List Event → List (List ℤ)
read_of_sinks t H = map (read_on H) (sink_numbers t)

-- ---- how it is written

-- the report is written from this book, whose run has come to this outcome
pub record IsWrittenFrom (b : Book) (outcome : Outcome) (report : Report) : Type 0 where
  pub is : report.outcome ≡ outcome
  pub history : events_of report ≡ b.history
  pub kept : report.history.is_kept ≡ b.keeps_events
  pub commits : report.commits ≡ b.commits
  pub view : Agrees b.tables b.history report.view
  pub states : report.view.states ≡ b.schedule.states
  pub taken : report.taken ≡ read_of_sinks b.tables b.history

-- ---- what it promises

-- each source was fed its list whole, and is closed
pub record AreSupplied (t : Tables) (lists : List (List ℤ)) (H : List Event) : Type 0 where
  pub whole : AgreeOnSources t (written_on H) (given_by t lists)
  pub closed : (c : ℕ) → is_source (channel_at t c) ≡ true → is_closed H c ≡ true

-- a report of a run of the network on these lists, one for each source in order of channel number. The history is legal
-- and owes no growth. The view is that of the history, and nobody is held. Each source was fed what its list begins
-- with, and under a verdict all of it. What was taken is what was read of the sinks, and none was left. Each event of a
-- process was committed. The outcome is that of the history under the limits
pub record IsReport (t : Tables) (lists : List (List ℤ)) (limits : Limits) (report : Report) : Type 0 where
  pub legal : Legal t (events_of report)
  pub nothing_owed : OwesNothing t (events_of report)
  pub view : Agrees t (events_of report) report.view
  pub nobody_held : report.view.counts.held ≡ 0
  pub fed : IsPrefixOnSources t (written_on (events_of report)) (given_by t lists)
  pub all_fed : (verdict : Verdict) → verdict_of report.outcome ≡ Some verdict
      → AgreeOnSources t (written_on (events_of report)) (given_by t lists)
  pub taken : report.taken ≡ read_of_sinks t (events_of report)
  pub stays : (c : ℕ) → is_left (events_of report) c ≡ false
  pub committed : process_events (events_of report) ≤ report.commits
  pub outcome : IsOutcome t (events_of report) report.commits limits (Some report.outcome)
