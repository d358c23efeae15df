-- What is found of a trace that is read from a file, what is told of it, and why nothing is found.
use Rattle.std.specs.Prelude.{◌≡◌, ◌⊎◌, ℕ, true, List, length, ⊤}
use Rattle.std.specs.declared.alloc.Global.{Global}
use Rattle.kpn_net.specs.Tables.{Tables}
use Rattle.kpn_history.specs.declared.stored.Trace.{Trace}
use Rattle.kpn_audit.specs.declared.findings.Audit.{Audit}
use Rattle.kpn_audit.specs.declared.findings.AuditFault.TheVariants as fault
use Rattle.kpn_audit.specs.Stored.{Differs, tables_for, history_in}
use Rattle.kpn_audit.specs.Audit.{IsAudit, AreLeast, AreWithinSteps, IsRefusal}
use Rattle.kpn_trace.specs.declared.fault.TraceFault.{TraceFault}
use Rattle.kpn_trace.specs.TraceText.{SpellsTrace, RefusesTrace}
use Rattle.kpn_text.specs.Document.{Document}
use Rattle.kpn_command_base.specs.declared.refusal.Refusal.{Refusal}
use Rattle.kpn_command_base.specs.declared.refusal.Refusal.TheVariants as refusal
use Rattle.kpn_shelf.specs.Shelf.{Loads, IsRefusalOfLoad, IsLoadedAs}
use Rattle.kpn_command_base.specs.Description.{IsDescribed, IsRefusedDescription}
use Rattle.kpn_command_base.specs.declared.flaw.Flaw.{Flaw}
use Rattle.kpn_command_base.specs.declared.flaw.Flaw.TheVariants.{Illegal, Budget}
use Rattle.kpn_command_base.specs.declared.auditing.Finding.{Finding}
use Rattle.kpn_command_base.specs.declared.auditing.Finding.TheVariants.{Legal, NotLegal}
use Rattle.kpn_command_base.specs.declared.auditing.Audited.{Audited}
use Rattle.kpn_command_base.specs.Flaw.{IsFlawTold}

-- ---- what is found

-- a file may give bytes that spell this trace
abbrev pub IsTraced : (may_give : Loads) (file : List ℕ) → Trace Global → Type 0
IsTraced may_give file trace = IsLoadedAs SpellsTrace may_give file trace

-- what an audit finds of a trace whose history is legal
pub record IsFoundLegal (t : Tables) (trace : Trace Global) (steps : ℕ) (audit : Audit Global) : Type 0 where
  pub agrees : ¬ Differs t trace
  pub audited : IsAudit (tables_for t trace) (history_in t trace) audit
  pub least : audit.exact ≡ true → AreLeast (tables_for t trace) (history_in t trace) audit
  pub within : AreWithinSteps (tables_for t trace) (history_in t trace) steps (length (history_in t trace))

-- the first event that is not legal, or the one that its process did not come to in this many steps
abbrev pub IsFlaw : Tables → Trace Global → (steps : ℕ) → Flaw → Type 0
IsFlaw t trace steps (Illegal k) = IsRefusal t trace steps (fault.Illegal k)
IsFlaw t trace steps (Budget k) = IsRefusal t trace steps (fault.Budget k)

-- what an audit finds of a trace of the network's rules of growth. Only one case holds of a trace
abbrev pub IsFinding : Tables → Trace Global → (steps : ℕ) → Finding → Type 0
IsFinding t trace steps (Legal audit) = IsFoundLegal t trace steps audit
IsFinding t trace steps (NotLegal flaw) = IsFlaw t trace steps flaw

-- the one file spells the network, the other the trace, and an audit finds this
pub record IsAudited (may_give : Loads) (file trace : List ℕ) (steps : ℕ) (audited : Audited) : Type 0 where
  pub described : IsDescribed may_give file audited.document
  pub traced : IsTraced may_give trace audited.trace
  pub found : IsFinding audited.document.tables audited.trace steps audited.finding

-- ---- what is told of it

-- such a text of a legal history under status 0, or what is wrong with the history
abbrev pub IsTextFor : (IsRight : Audit Global → (text : List ℕ) → Type 0) → Finding
    → (text : List ℕ) (status : ℕ) → Type 0
IsTextFor IsRight (Legal audit) text status = IsRight audit text × (status ≡ 0)
IsTextFor IsRight (NotLegal flaw) text status = IsFlawTold flaw text status

-- it is told of what an audit finds of these files. Which texts are right of a legal history is given
pub record IsToldOf (IsRight : Document → Trace Global → Audit Global → (text : List ℕ) → Type 0)
    (may_give : Loads) (file trace : List ℕ) (steps : ℕ) (text : List ℕ) (status : ℕ) : Type 0 where
  pub audited : Audited
  pub is_audited : IsAudited may_give file trace steps audited
  pub told : IsTextFor (IsRight audited.document audited.trace) audited.finding text status

-- the same of a command of whose texts rows show what is right
abbrev pub IsAnyTextFor : Finding → (text : List ℕ) (status : ℕ) → Type 0
IsAnyTextFor finding text status = IsTextFor (λ audit right. ⊤) finding text status

abbrev pub IsAnyToldOf : (may_give : Loads) (file trace : List ℕ) (steps : ℕ) (text : List ℕ) (status : ℕ) → Type 0
IsAnyToldOf may_give file trace steps text status =
    IsToldOf (λ d stored audit right. ⊤) may_give file trace steps text status

-- ---- why nothing is found

-- a file may give bytes that are refused as a trace
abbrev pub IsRefusedTrace : (may_give : Loads) (trace : List ℕ) → TraceFault → Type 0
IsRefusedTrace may_give trace fault = IsLoadedAs RefusesTrace may_give trace fault

-- the one file spells a network, the other a trace of other rules of growth
pub record IsOfOtherRules (may_give : Loads) (file trace : List ℕ) : Type 0 where
  pub document : Document
  pub described : IsDescribed may_give file document
  pub stored : Trace Global
  pub traced : IsTraced may_give trace stored
  pub differs : Differs document.tables stored

-- the description is read first, then the trace, whose rules of growth may be others, and then memory may run out
abbrev pub IsRefusalOfAudit : (may_give : Loads) (file trace : List ℕ) → Refusal → Type 0
IsRefusalOfAudit may_give file trace (refusal.Input fault) =
    IsRefusalOfLoad may_give file fault
    ⊎ (((document : Document) × IsDescribed may_give file document) × IsRefusalOfLoad may_give trace fault)
IsRefusalOfAudit may_give file trace (refusal.Description fault) = IsRefusedDescription may_give file fault
IsRefusalOfAudit may_give file trace (refusal.Trace fault) =
    ((document : Document) × IsDescribed may_give file document) × IsRefusedTrace may_give trace fault
IsRefusalOfAudit may_give file trace refusal.PolicyDiffers = IsOfOtherRules may_give file trace
IsRefusalOfAudit may_give file trace refusal.NoMemoryToAudit = ⊤
IsRefusalOfAudit may_give file trace refusal.NoMemory = ⊤
IsRefusalOfAudit may_give file trace other = ⊥

-- why a file gives no trace
abbrev pub IsRefusalOfTrace : (may_give : Loads) (trace : List ℕ) → Refusal → Type 0
IsRefusalOfTrace may_give trace (refusal.Input fault) = IsRefusalOfLoad may_give trace fault
IsRefusalOfTrace may_give trace (refusal.Trace fault) = IsRefusedTrace may_give trace fault
IsRefusalOfTrace may_give trace other = ⊥

-- why an audit finds nothing: the rules of growth of the trace are others, or memory ran out
abbrev pub IsNoFinding : Tables → Trace Global → Refusal → Type 0
IsNoFinding t trace refusal.PolicyDiffers = Differs t trace
IsNoFinding t trace refusal.NoMemoryToAudit = ⊤
IsNoFinding t trace refusal.NoMemory = ⊤
IsNoFinding t trace other = ⊥
