-- What `kpn explain` comes to of a trace, and why it gives no answer. Of the texts about what is wrong the beginning is
-- fixed here, which names the place; rows show their words.
use Rattle.std.specs.Prelude.{◌≡◌, ◌≢◌, ℕ, ◌+◌, nat_eq, if◌then◌else◌, Bool, true, false, List, [], ◌++◌, Ok, Option, Some, None, codes, ⊤}
use Rattle.std.specs.List.{list_any, starts_with}
use Rattle.std.specs.declared.alloc.Global.{Global}
use Rattle.kpn_net.specs.declared.wait.Wait.{Wait}
use Rattle.kpn_net.specs.Tables.{Tables}
use Rattle.kpn_deadlock.specs.Told.{AreRings, are_some}
use Rattle.kpn_history.specs.declared.event.How.{How}
use Rattle.kpn_history.specs.declared.event.How.TheVariants.{Done}
use Rattle.kpn_history.specs.declared.stored.Trace.{Trace}
use Rattle.kpn_trace.specs.declared.fault.TraceFault.{TraceFault}
use Rattle.kpn_trace.specs.TraceText.{SpellsTrace, RefusesTrace}
use Rattle.kpn_text.specs.Document.{Document}
use Rattle.kpn_audit.specs.declared.findings.Audit.{Audit}
use Rattle.kpn_audit.specs.declared.findings.AuditFault.TheVariants.{Illegal, Budget}
use Rattle.kpn_audit.specs.declared.scene.Scene.{Scene}
use Rattle.kpn_audit.specs.Audit.{IsRefusal}
use Rattle.kpn_audit.specs.Scene.{IsSceneBefore}
use Rattle.kpn_audit.specs.Stored.{Differs}
use Rattle.kpn_command_base.specs.declared.refusal.Refusal.{Refusal}
use Rattle.kpn_command_base.specs.declared.refusal.Refusal.TheVariants as refusal
use Rattle.kpn_command_base.specs.Refusal.{status_of}
use Rattle.kpn_shelf.specs.Shelf.{Loads}
use Rattle.kpn_command_base.specs.Description.{IsDescribed}
use Rattle.kpn_command_base.specs.Flaw.{event_line}
use Rattle.kpn_command_base.specs.Audited.{IsFoundLegal, IsRefusalOfAudit}
use Rattle.kpn_trace.specs.declared.fault.TraceFault.TheVariants.{BadEvent, NoMemory}
use Rattle.kpn_trace.specs.TraceText.{head_lines}
use Rattle.kpn_command_explain.specs.Excerpt.{where_text}
use Rattle.kpn_command_explain.specs.Lines.{line_start}
use Rattle.kpn_command_explain.specs.Cut.{cut_text}

-- ---- the texts

-- a text begins with `deadlock: ` if there is a ring, and else it is empty
abbrev pub BeginsByRings : (is_there : Bool) → (text : List ℕ) → Type 0
BeginsByRings true text = (words : List ℕ) × (text ≡ codes "deadlock: " ++ words)
BeginsByRings false text = text ≡ []

-- a text says whether there are rings of these waits
abbrev pub TellsRings : Tables → List Wait → (text : List ℕ) → Type 0
TellsRings t waits text = (told : List (List ℕ)) × AreRings t waits told × BeginsByRings (are_some told) text

-- what the audit says of a legal history, with the first 20 items of each channel, and more after it only if it is not
-- exact
abbrev pub IsAuditedText : {A : Type 0} → Document → Audit A → (text : List ℕ) → Type 0
IsAuditedText d audit text =
    (rest : List ℕ) × (text ≡ cut_text d.names.channels audit ++ rest) × (audit.exact ≡ true → rest ≡ [])

-- an end by a fault
abbrev pub is_fault : Option How → Bool
is_fault (Some Done) = false
is_fault (Some how) = true
is_fault None = false

-- a text is empty if no process has ended by a fault
abbrev pub TellsFaults : List (Option How) → (text : List ℕ) → Type 0
TellsFaults ends text = list_any is_fault ends ≡ false → text ≡ []

-- the rings of a legal history and its faults, if there are some, and what the audit says of it
abbrev pub IsLegalText : {A : Type 0} → Document → Audit A → (text : List ℕ) → Type 0
IsLegalText d audit text =
    (first faults told : List ℕ) × (text ≡ (first ++ faults) ++ told) × TellsRings d.tables audit.waits first
    × TellsFaults audit.ends faults × IsAuditedText d audit told

-- the line that ends the first lines of a trace of this beginning
abbrev pub head_line : (bytes : List ℕ) → ℕ
head_line bytes = if starts_with nat_eq bytes (codes "kpn-trace 2\n") then 2 else 1

-- the line of these bytes that a fault concerns
abbrev pub bad_line : (bytes : List ℕ) → TraceFault → ℕ
bad_line bytes (BadEvent line) = line
bad_line bytes other = head_line bytes

-- an explanation of a fault of the bytes of a trace begins with the place of the line that it concerns
abbrev pub ExplainsFault : (name bytes : List ℕ) → TraceFault → (text : List ℕ) → Type 0
ExplainsFault name bytes fault text =
    (rest : List ℕ) × (text ≡ where_text name bytes (line_start bytes (bad_line bytes fault)) ++ rest)

-- an explanation of event k begins with the place of its line
abbrev pub ExplainsEvent : {A : Type 0} → (name bytes : List ℕ) → Trace A → (k : ℕ) → (text : List ℕ) → Type 0
ExplainsEvent name bytes trace k text =
    (rest : List ℕ) × (text ≡ where_text name bytes (line_start bytes (k + head_lines trace.version + 1)) ++ rest)

-- ---- what the command comes to

-- the text and the status for a trace: the rings and the lines of the audit if its history is legal, and what a stop
-- means for the items, 0; what stands before the first event that is not legal, 1; or the event that its process did
-- not come to in this many steps, 5
pub data IsConclusion (d : Document) (name bytes : List ℕ) (trace : Trace Global) (steps : ℕ) (text : List ℕ)
    (status : ℕ) : Type 0 where
  legal : (audit : Audit Global) → IsFoundLegal d.tables trace steps audit
      → IsLegalText d audit text → status ≡ 0
      → IsConclusion d name bytes trace steps text status
  illegal : (k : ℕ) → IsRefusal d.tables trace steps (Illegal k) → (scene : Scene)
      → IsSceneBefore d.tables trace k steps scene
      → ExplainsEvent name bytes trace k text → status ≡ 1
      → IsConclusion d name bytes trace steps text status
  budget : (k : ℕ) → IsRefusal d.tables trace steps (Budget k) → text ≡ event_line (codes "budget") k → status ≡ 5
      → IsConclusion d name bytes trace steps text status

-- the text and the status for the bytes of a trace: why they are refused, if not by want of memory, 1; or those for the
-- trace that they spell
pub data IsExplanation (d : Document) (name bytes : List ℕ) (steps : ℕ) (text : List ℕ) (status : ℕ) : Type 0 where
  refused : (fault : TraceFault) → RefusesTrace bytes fault → fault ≢ NoMemory
      → ExplainsFault name bytes fault text → status ≡ 1 → IsExplanation d name bytes steps text status
  spelled : (trace : Trace Global) → SpellsTrace bytes trace → IsConclusion d name bytes trace steps text status
      → IsExplanation d name bytes steps text status

-- the one file spells a network, and this is the text and the status for the bytes of the other
pub record IsExplained (may_give : Loads) (file trace : List ℕ) (steps : ℕ) (text : List ℕ) (status : ℕ) : Type 0
  where
    pub document : Document
    pub described : IsDescribed may_give file document
    pub bytes : List ℕ
    pub loaded : may_give trace (Ok bytes)
    pub explained : IsExplanation document trace bytes steps text status

-- ---- why there is no explanation

-- the bytes spell a trace of other rules of growth, or memory ran out
abbrev pub IsNoExplanation : Tables → (bytes : List ℕ) → Refusal → Type 0
IsNoExplanation t bytes (refusal.Trace fault) = RefusesTrace bytes fault × (status_of (refusal.Trace fault) ≡ 6)
IsNoExplanation t bytes refusal.PolicyDiffers = (trace : Trace Global) × SpellsTrace bytes trace × Differs t trace
IsNoExplanation t bytes refusal.NoMemoryToAudit = ⊤
IsNoExplanation t bytes refusal.NoMemory = ⊤
IsNoExplanation t bytes other = ⊥

-- why nothing is explained: as nothing is audited, but bytes that spell no trace are explained
abbrev pub IsRefusalOfExplaining : (may_give : Loads) (file trace : List ℕ) → Refusal → Type 0
IsRefusalOfExplaining may_give file trace (refusal.Trace fault) =
    IsRefusalOfAudit may_give file trace (refusal.Trace fault) × (status_of (refusal.Trace fault) ≡ 6)
IsRefusalOfExplaining may_give file trace other = IsRefusalOfAudit may_give file trace other
