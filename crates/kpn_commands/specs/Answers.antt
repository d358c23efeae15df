-- What `kpn audit` writes.
use Rattle.std.specs.Prelude.{◌≡◌, ℕ, List}
use Rattle.std.specs.declared.alloc.Global.{Global}
use Rattle.kpn_history.specs.declared.stored.Trace.{Trace}
use Rattle.kpn_audit.specs.declared.findings.Audit.{Audit}
use Rattle.kpn_text.specs.Document.{Document}
use Rattle.kpn_shelf.specs.Shelf.{Loads}
use Rattle.kpn_command_base.specs.AuditText.{audit_text}
use Rattle.kpn_command_base.specs.Audited.{IsToldOf}

-- what a legal history leads to
abbrev pub IsAuditText : Document → Trace Global → Audit Global → (text : List ℕ) → Type 0
IsAuditText d trace audit text = text ≡ audit_text d.names.channels audit

-- the text and the status for two files, of which the one spells a network, the other a trace
abbrev pub AnswersAudit : (may_give : Loads) (file trace : List ℕ) (steps : ℕ) → (text : List ℕ) (status : ℕ) → Type 0
AnswersAudit may_give file trace steps text status = IsToldOf IsAuditText may_give file trace steps text status
