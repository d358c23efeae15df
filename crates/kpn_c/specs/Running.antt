-- What a run on flat lists tells.
use Rattle.std.specs.Prelude.{◌≡◌, ◌≢◌, ◌⊎◌, ℕ, ℤ, List, length, map, sum, Option}
use Rattle.kpn_net.specs.Tables.{Tables}
use Rattle.kpn_net.specs.Iteration.{sources}
use Rattle.kpn_history.specs.declared.stored.Version.TheVariants.{Two}
use Rattle.kpn_book.specs.declared.outcome.Limits.{Limits}
use Rattle.kpn_book.specs.declared.report.Report.{Report}
use Rattle.kpn_book.specs.Reports.{events_of, AreSupplied, IsReport}
use Rattle.kpn_book.specs.RunHere.{IsReportHere}
use Rattle.kpn_trace.specs.TraceText.{trace_text}
use Rattle.kpn_c.specs.declared.running.RunResult.{RunResult}
use Rattle.kpn_c.specs.declared.lists.CutFault.{CutFault}
use Rattle.kpn_c.specs.declared.lists.CutFault.TheVariants.{Lengths, NoMemory}
use Rattle.kpn_c.specs.Lists.{AreLists, first_wanted}

-- what is told is what the report of the run says, and of each sink as many items as are wanted at most
pub record TellsReport (t : Tables) (wanted : Option ℕ) (report : Report) (ran : RunResult) : Type 0 where
  pub outcome : ran.outcome ≡ report.outcome
  pub commits : ran.commits ≡ report.commits
  pub taken : AreLists ran.items.items ran.lengths.items (map (first_wanted wanted) report.taken)
  pub trace : ran.trace.items ≡ trace_text Two t.policy t.growth (events_of report)

-- it tells of a run of the network on these lists, which stand in one flat list and are one for each source
pub record IsRunOn (t : Tables) (items : List ℤ) (lengths : List ℕ) (limits : Limits) (ran : RunResult) : Type 0 where
  pub lists : List (List ℤ)
  pub stand : AreLists items lengths lists
  pub each : length lists ≡ sources t
  pub report : Report
  pub is : IsReport t lists limits report
  pub here : IsReportHere t lists limits report
  pub supplied : AreSupplied t lists (events_of report)
  pub tells : TellsReport t limits.take report ran

-- the lists do not fit: the lengths do not sum up to the number of items, or are not one for each source
abbrev pub DoNotFit : Tables → (items : List ℤ) (lengths : List ℕ) → Type 0
DoNotFit t items lengths = (sum lengths ≢ length items) ⊎ (length lengths ≢ sources t)

-- why the network is not run on these lists: they do not fit, or memory ran out
abbrev pub RefusesLists : Tables → (items : List ℤ) (lengths : List ℕ) → CutFault → Type 0
RefusesLists t items lengths Lengths = DoNotFit t items lengths
RefusesLists t items lengths NoMemory = Unit {0}
