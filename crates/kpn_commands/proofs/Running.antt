-- What holds of the parts that a run is handed holds of the inputs and of the request.
use Rattle.std.proofs.Common.{◌≡◌, ◌∙◌, ℕ, ℤ, List, Option, Some, None, is_some, subst}
use Rattle.kpn_commands.proofs.Common.{Tables, Limits, Report, IsReport, Loads, Reported, run_limits_of}
use Rattle.kpn_command_base.specs.RunRequest.{RunRequest}
use Rattle.kpn_command_base.specs.Inputs.{AreInputs}
use Rattle.kpn_command_base.specs.Outputs.{AreSinksNamed}
use Rattle.kpn_commands.specs.Reported.{IsRunReported, RanHere}
use Rattle.kpn_commands.specs.Run.{IsOfLegal}

pub along : (P : Tables → List (List ℤ) → Limits → Type 0) {network t : Tables} {lists given : List (List ℤ)}
    {limits asked : Limits} → network ≡ t → lists ≡ given → limits ≡ asked → P network lists limits → P t given asked
along P {network = network} {lists = lists} {given = given} {asked = asked} is same be h =
    subst (λ n. P n given asked) is
    (subst (λ ls. P network ls asked) same (subst (λ l. P network lists l) be h))

pub has_workers : (workers : ℕ) (asked : Option ℕ) → Some workers ≡ asked → asked ≡ None → ⊥
has_workers workers asked some none = let clash = some ∙ none in absurd cc

-- a report of such a run is one of what was asked for
pub reported_by : (may_give : Loads) (request : RunRequest) (reported : Reported) {network : Tables}
    {lists : List (List ℤ)} {limits : Limits}
    → AreInputs may_give request.file request.sources reported.inputs.document reported.inputs.given.items
    → AreSinksNamed request reported.inputs.document reported.sinks.items
    → IsReport network lists limits reported.report
    → (request.workers ≡ None → RanHere (is_some request.trace) network lists limits reported.report)
    → network ≡ reported.inputs.document.tables → lists ≡ reported.inputs.given.items
    → limits ≡ run_limits_of request → IsRunReported may_give request reported
reported_by may_give request reported inputs sinks report here is same be = record {
  are_inputs = inputs;
  are_sinks = sinks;
  is_report = along (λ t ls l. IsReport t ls l reported.report) is same be report;
  here = λ without. along (λ t ls l. RanHere (is_some request.trace) t ls l reported.report) is same be (here without);
}

pub of_legal : {network t : Tables} {lists : List (List ℤ)} {limits : Limits} (report : Report)
    → IsReport network lists limits report → network ≡ t → IsOfLegal t report
of_legal report is same =
    subst (λ (u : Tables). IsOfLegal u report) same (record { legal = is.legal; view = is.view })
