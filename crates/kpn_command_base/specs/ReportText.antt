-- The text that `kpn run` writes of a report: what was taken from the sinks, which processes have faulted, which wait,
-- and the outcome.
use Rattle.std.specs.Prelude.{ℕ, suc, ℤ, Bool, true, false, if◌then◌else◌, List, [], ◌∷◌, ◌++◌, take, slice_index_or, codes, Option, Some, None}
use Rattle.kpn_net.specs.declared.tables.ChannelSpec.{ChannelSpec}
use Rattle.kpn_net.specs.Tables.{is_sink}
use Rattle.kpn_text_names.specs.Names.{name_at}
use Rattle.kpn_text.specs.Document.{Document}
use Rattle.kpn_history.specs.declared.event.How.TheVariants as how
use Rattle.kpn_history.specs.declared.state.State.{State}
use Rattle.kpn_history.specs.declared.state.State.TheVariants.{WaitsEmpty, WaitsFull}
use Rattle.kpn_history.specs.declared.state.State.TheVariants as state
use Rattle.kpn_book.specs.declared.outcome.Outcome.{Outcome}
use Rattle.kpn_book.specs.declared.outcome.Outcome.TheVariants.{Ended, Clogged, Jammed, Enough, Stopped}
use Rattle.kpn_book.specs.declared.report.Report.{Report}
use Rattle.kpn_command_base.specs.ListText.{list_line, lines_from}
use Rattle.kpn_command_base.specs.Sources.{file_for}
use Rattle.kpn_command_base.specs.declared.sources.NamedEnd.{NamedEnd}
use Rattle.kpn_command_base.specs.Faulted.{faulted_line}

-- ---- sinks

-- the first items of a list, as many as are wanted at most, or all
abbrev pub wanted_of : (wanted : Option ℕ) → List ℤ → List ℤ
wanted_of None items = items
wanted_of (Some most) items = take most items

-- `sink NAME:` and the items, or nothing of a sink that has this file and is left out for it
abbrev pub sink_line : (file : Option (List ℕ)) (name : List ℕ) → List ℤ → List ℕ
sink_line None name items = codes "sink " ++ list_line name items
sink_line (Some file) name items = []

-- a line for each sink among these channels in order, of which the first has the number c and k sinks stand before it,
-- but for the sinks that are left out; the lists of all sinks are given in order
abbrev pub sink_lines : (names : List (List ℕ)) (left_out : List NamedEnd) (wanted : Option ℕ) (taken : List (List ℤ))
    → (k c : ℕ) → List ChannelSpec → List ℕ
sink_lines names left_out wanted taken k c [] = []
sink_lines names left_out wanted taken k c (channel ∷ channels) =
    if is_sink channel
    then sink_line (file_for left_out k) (name_at names c) (wanted_of wanted (slice_index_or taken k []))
    ++ sink_lines names left_out wanted taken (suc k) (suc c) channels
    else sink_lines names left_out wanted taken k (suc c) channels

-- ---- processes

-- `fault NAME CAUSE` of a process that ended by a fault
abbrev pub fault_text : (name : List ℕ) → State → List ℕ
fault_text name (state.Ended how.Done) = []
fault_text name (state.Ended end) = faulted_line name end
fault_text name other = []

-- `waits NAME CHANNEL` of a process that waits, and ` full` if it waits on a full channel
abbrev pub wait_text : (channels : List (List ℕ)) (name : List ℕ) → State → List ℕ
wait_text channels name (WaitsEmpty c) = codes "waits " ++ name ++ codes " " ++ name_at channels c ++ codes "\n"
wait_text channels name (WaitsFull c) = codes "waits " ++ name ++ codes " " ++ name_at channels c ++ codes " full\n"
wait_text channels name other = []

-- what is written of each of these processes in order, of which the first has the number p
abbrev pub state_lines : (line : List ℕ → State → List ℕ) (names : List (List ℕ)) → (p : ℕ) → List State → List ℕ
state_lines line names p states = lines_from (λ q. line (name_at names q)) p states

-- ---- outcomes

abbrev pub outcome_word : Outcome → List ℕ
outcome_word Ended = codes "ended"
outcome_word Clogged = codes "clogged"
outcome_word Jammed = codes "jammed"
outcome_word Enough = codes "enough"
outcome_word Stopped = codes "stopped"

-- the status of the program: 0 for ended and enough
abbrev pub outcome_status : Outcome → ℕ
outcome_status Ended = 0
outcome_status Clogged = 3
outcome_status Jammed = 4
outcome_status Enough = 0
outcome_status Stopped = 5

-- whether the sinks are written
abbrev pub shows_sinks : Outcome → Bool
shows_sinks Ended = true
shows_sinks Enough = true
shows_sinks outcome = false

-- whether faults and waits are written: if nothing more can happen
abbrev pub shows_processes : Outcome → Bool
shows_processes Enough = false
shows_processes Stopped = false
shows_processes outcome = true

-- ---- the whole text

abbrev pub sinks_text : Document → (left_out : List NamedEnd) (wanted : Option ℕ) → Report → List ℕ
sinks_text d left_out wanted report =
    if shows_sinks report.outcome
    then sink_lines d.names.channels left_out wanted report.taken 0 0 d.tables.channels
    else []

abbrev pub processes_text : Document → Report → List ℕ
processes_text d report =
    if shows_processes report.outcome
    then state_lines fault_text d.names.instances 0 report.view.states
    ++ state_lines (wait_text d.names.channels) d.names.instances 0 report.view.states
    else []

-- the sinks, but for those that are left out, the faults, the waits and the outcome, as far as the outcome wants them,
-- each on a line
abbrev pub report_text : Document → (left_out : List NamedEnd) (wanted : Option ℕ) → Report → List ℕ
report_text d left_out wanted report =
    sinks_text d left_out wanted report ++ processes_text d report ++ outcome_word report.outcome ++ codes "\n"
