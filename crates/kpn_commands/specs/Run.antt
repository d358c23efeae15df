-- What `kpn run` comes to.
use Rattle.std.specs.Prelude.{◌≡◌, ◌⊎◌, ℕ, Bool, true, false, if◌then◌else◌, List, []}
use Rattle.kpn_net.specs.Tables.{Tables}
use Rattle.kpn_history.specs.declared.state.State.{State}
use Rattle.kpn_history.specs.Legal.{Legal}
use Rattle.kpn_history.specs.Views.{Agrees}
use Rattle.kpn_history.specs.Waiting.{waits_of}
use Rattle.kpn_deadlock.specs.Told.{AreRings, are_some}
use Rattle.kpn_book.specs.declared.outcome.Outcome.{Outcome}
use Rattle.kpn_book.specs.declared.report.Report.{Report}
use Rattle.kpn_command_base.specs.declared.sources.NamedEnd.{NamedEnd}
use Rattle.kpn_command_base.specs.Faulted.{has_fault}
use Rattle.kpn_command_base.specs.RunRequest.{RunRequest}
use Rattle.kpn_command_base.specs.declared.refusal.Refusal.{Refusal}
use Rattle.kpn_command_base.specs.declared.conclusion.Conclusion.{Conclusion}
use Rattle.kpn_command_base.specs.Conclusion.{files_in}
use Rattle.kpn_shelf.specs.Shelf.{Loads, Aliases}
use Rattle.kpn_commands.specs.declared.reporting.Reported.{Reported}
use Rattle.kpn_command_base.specs.ReportText.{report_text, outcome_status}
use Rattle.kpn_commands.specs.Reported.{IsRunReported, IsRefusalOfReport}
use Rattle.kpn_book.specs.Reports.{events_of}
use Rattle.kpn_commands.specs.Files.{files_of, IsRefusalOfFiles}
use Rattle.kpn_command_base.specs.Outputs.{AreOutputsApart, IsUnprepared}

-- the sinks whose lists the report leaves out: if it is quiet, those that are stored
abbrev pub left_out_of : (quiet : Bool) → (stored : List NamedEnd) → List NamedEnd
left_out_of quiet stored = if quiet then stored else []

-- the status of a strict run: 8 if a process has faulted; else 9 if there is a ring; else that of its outcome
abbrev pub strict_status : List State → (rings : List (List ℕ)) → Outcome → ℕ
strict_status states rings outcome = if has_fault states then 8 else (if are_some rings then 9 else outcome_status outcome)

-- the status of a run: that of its outcome, or, if it is strict, the one by its faults and rings
abbrev pub IsStatus : (strict : Bool) → Tables → Report → (status : ℕ) → Type 0
IsStatus false t report status = status ≡ outcome_status report.outcome
IsStatus true t report status =
    (rings : List (List ℕ)) × AreRings t (waits_of t (events_of report)) rings
    × (status ≡ strict_status report.view.states rings report.outcome)

-- the files of a run, the text of its report, and its status
pub record IsRunConcluded (request : RunRequest) (reported : Reported) (made : Conclusion) : Type 0 where
  pub files : files_in made ≡ files_of request.trace request.take reported
  pub text : made.text.items
      ≡ report_text reported.inputs.document (left_out_of request.quiet reported.sinks.items) request.take
      reported.report
  pub status : IsStatus request.strict reported.inputs.document.tables reported.report made.status

-- there is a report on a run of what was asked for, no output is an input or another output, and this is concluded
pub record IsRunAnswer (may_give : Loads) (request : RunRequest) (made : Conclusion) : Type 0 where
  pub reported : Reported
  pub is_reported : IsRunReported may_give request reported
  pub apart : AreOutputsApart request
  pub concluded : IsRunConcluded request reported made

-- there is a report on a run of what was asked for, and no files of it
pub record IsUnstored (may_give : Loads) (request : RunRequest) (cause : Refusal) : Type 0 where
  pub reported : Reported
  pub is_reported : IsRunReported may_give request reported
  pub refused : IsRefusalOfFiles request.trace reported.inputs.document.tables (events_of reported.report) cause

-- why nothing is concluded: the run is not begun, or it gives no report, or there are no files of it
abbrev pub IsNoRun : (may_give : Loads) (may_alias : Aliases) → RunRequest → Refusal → Type 0
IsNoRun may_give may_alias request refusal =
    IsUnprepared may_give may_alias request refusal
    ⊎ (IsRefusalOfReport request.workers refusal ⊎ IsUnstored may_give request refusal)

-- ---- scaffolding

-- a report is of a legal history, with which its view agrees
pub record IsOfLegal (t : Tables) (report : Report) : Type 0 where
  pub legal : Legal t (events_of report)
  pub view : Agrees t (events_of report) report.view
