-- What was run, and the report; or why there is none.
use Rattle.std.specs.Prelude.{◌≡◌, ◌≤◌, ℕ, Bool, true, is_some, ℤ, List, Option, None, IsSome, ⊤}
use Rattle.kpn_net.specs.Tables.{Tables}
use Rattle.kpn_book.specs.declared.outcome.Limits.{Limits}
use Rattle.kpn_book.specs.declared.report.Report.{Report}
use Rattle.kpn_book.specs.Reports.{events_of, AreSupplied, IsReport}
use Rattle.kpn_book.specs.RunHere.{IsReportHere}
use Rattle.kpn_command_base.specs.RunRequest.{RunRequest}
use Rattle.kpn_command_base.specs.declared.refusal.Refusal.{Refusal}
use Rattle.kpn_command_base.specs.declared.refusal.Refusal.TheVariants.{Threads, Abandoned, Foreign, NoMemory}
use Rattle.kpn_command_base.specs.Inputs.{AreInputs}
use Rattle.kpn_shelf.specs.Shelf.{Loads}
use Rattle.kpn_commands.specs.declared.reporting.Reported.{Reported}
use Rattle.kpn_commands.specs.Limits.{run_limits_of}
use Rattle.kpn_command_base.specs.Outputs.{AreSinksNamed}

-- a run on one thread: each source was fed its whole list, and there are no more commits than the limit. If it is
-- traced, it made turns of the front of the queue
pub record RanHere (traced : Bool) (t : Tables) (lists : List (List ℤ)) (limits : Limits) (report : Report)
    : Type 0 where
  pub here : traced ≡ true → IsReportHere t lists limits report
  pub supplied : AreSupplied t lists (events_of report)
  pub few : report.commits ≤ limits.commits

-- the inputs and the sinks that are asked for, and a report of a run of them under the limits; without workers it was
-- made on one thread
pub record IsRunReported (may_give : Loads) (request : RunRequest) (reported : Reported) : Type 0 where
  pub are_inputs :
      AreInputs may_give request.file request.sources reported.inputs.document reported.inputs.given.items
  pub are_sinks : AreSinksNamed request reported.inputs.document reported.sinks.items
  pub is_report :
      IsReport reported.inputs.document.tables reported.inputs.given.items (run_limits_of request) reported.report
  pub here : request.workers ≡ None
      → RanHere (is_some request.trace) reported.inputs.document.tables reported.inputs.given.items
      (run_limits_of request) reported.report

-- why a run gives no report: there is no memory, or something befell the workers, if there are any
abbrev pub IsRefusalOfReport : (workers : Option ℕ) → Refusal → Type 0
IsRefusalOfReport workers NoMemory = ⊤
IsRefusalOfReport workers Threads = IsSome workers
IsRefusalOfReport workers Abandoned = IsSome workers
IsRefusalOfReport workers Foreign = IsSome workers
IsRefusalOfReport workers other = ⊥
