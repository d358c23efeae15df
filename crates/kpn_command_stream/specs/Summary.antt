-- What is told of a stream that has ended, and its status.
use Rattle.std.specs.Prelude.{◌≡◌, ◌↔◌, ℕ, nat_lt, Bool, ◌&&◌, ◌||◌, if◌then◌else◌, List, [], ◌++◌, length, Option, Some, None, IsTrue, codes}
use Rattle.std.specs.List.{AllZip, list_all, flat_map}
use Rattle.std.specs.Fmt.{decimal}
use Rattle.kpn_net.specs.Tables.{is_sink}
use Rattle.kpn_text_names.specs.Names.{name_at}
use Rattle.kpn_text.specs.Document.{Document}
use Rattle.kpn_history.specs.declared.state.State.{State}
use Rattle.kpn_history.specs.Channels.{read_on}
use Rattle.kpn_history.specs.Complete.{IsComplete}
use Rattle.kpn_machine.specs.Machine.{channel_in}
use Rattle.kpn_book.specs.Book.{Book}
use Rattle.kpn_book.specs.declared.outcome.Outcome.{Outcome}
use Rattle.kpn_book.specs.declared.outcome.Outcome.TheVariants.{Stopped}
use Rattle.kpn_command_base.specs.Faulted.{has_fault}
use Rattle.kpn_command_base.specs.ReportText.{fault_text, wait_text, state_lines, outcome_word, outcome_status}
use Rattle.kpn_deadlock.specs.Told.{are_some}
use Rattle.kpn_stream.specs.Ending.{end_numbers}
use Rattle.kpn_command_stream.specs.declared.summary.SinkEnd.{SinkEnd}

-- ---- sinks

-- what is told of sink c: how many items were taken, whether it is complete, and whether it was left
pub record IsSinkEnd (b : Book) (c : ℕ) (end : SinkEnd) : Type 0 where
  pub channel : end.channel ≡ c
  pub items : end.items ≡ length (read_on b.history c)
  pub complete : IsTrue end.is_complete ↔ IsComplete b.tables b.history c
  pub left : end.is_left ≡ (channel_in b.machine c).is_retired

-- the same of each sink, in order
abbrev pub AreSinkEnds : Book → List SinkEnd → Type 0
AreSinkEnds b ends = AllZip (IsSinkEnd b) (end_numbers is_sink b.tables) ends

-- ---- the status

-- each sink is complete or was left
abbrev pub are_all_done : List SinkEnd → Bool
are_all_done sinks = list_all (λ sink. sink.is_complete || sink.is_left) sinks

-- there are sinks, and each is
abbrev pub are_done : List SinkEnd → Bool
are_done sinks = nat_lt 0 (length sinks) && are_all_done sinks

-- the status of an outcome, and without one that of a run that has stopped
abbrev pub status_at : Option Outcome → ℕ
status_at (Some outcome) = outcome_status outcome
status_at None = outcome_status Stopped

-- 8 if a process has faulted; else 9 if there is a ring; else 0 if there are sinks and each is complete or was left; else
-- that of the outcome
abbrev pub stream_status : List SinkEnd → List State → (rings : List (List ℕ)) → Option Outcome → ℕ
stream_status sinks states rings outcome =
    if has_fault states then 8 else (if are_some rings then 9 else (if are_done sinks then 0 else status_at outcome))

-- ---- the text

-- `sink NAME: N items, complete` or `sink NAME: N items, not complete`
abbrev pub sink_text : (name : List ℕ) → SinkEnd → List ℕ
sink_text name sink =
    codes "sink " ++ name ++ codes ": " ++ decimal sink.items
    ++ (if sink.is_complete then codes " items, complete\n" else codes " items, not complete\n")

abbrev pub sink_ends_text : (names : List (List ℕ)) → List SinkEnd → List ℕ
sink_ends_text names sinks = flat_map (λ sink. sink_text (name_at names sink.channel) sink) sinks

-- the names of processes, with a space before each
abbrev pub members_text : (names : List (List ℕ)) → List ℕ → List ℕ
members_text names members = flat_map (λ p. codes " " ++ name_at names p) members

-- `deadlock` and the names of the members
abbrev pub ring_text : (names : List (List ℕ)) → List ℕ → List ℕ
ring_text names members = codes "deadlock" ++ members_text names members ++ codes "\n"

abbrev pub rings_text : (names : List (List ℕ)) → (rings : List (List ℕ)) → List ℕ
rings_text names rings = flat_map (λ members. ring_text names members) rings

abbrev pub outcome_text : Option Outcome → List ℕ
outcome_text (Some outcome) = outcome_word outcome ++ codes "\n"
outcome_text None = []

-- the sinks, the faults, the waits, the rings, and the outcome if there is one, each on a line
abbrev pub stream_summary_text : Document → List SinkEnd → List State → (rings : List (List ℕ)) → Option Outcome
    → List ℕ
stream_summary_text d sinks states rings outcome =
    sink_ends_text d.names.channels sinks ++ state_lines fault_text d.names.instances 0 states
    ++ state_lines (wait_text d.names.channels) d.names.instances 0 states ++ rings_text d.names.instances rings
    ++ outcome_text outcome
