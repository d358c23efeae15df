-- What `kpn timeline` writes.
use Rattle.std.specs.Prelude.{◌≡◌, ◌⊎◌, ℕ, List, Option}
use Rattle.std.specs.Io.KnownBytes.{Appends}
use Rattle.std.specs.declared.alloc.Global.{Global}
use Rattle.kpn_history.specs.declared.stored.Trace.{Trace}
use Rattle.kpn_text.specs.Document.{Document}
use Rattle.kpn_audit.specs.declared.findings.Audit.{Audit}
use Rattle.kpn_audit.specs.Stored.{tables_for, history_in}
use Rattle.kpn_command_base.specs.declared.refusal.Refusal.{Refusal}
use Rattle.kpn_shelf.specs.Shelf.{Loads}
use Rattle.kpn_command_base.specs.declared.auditing.Audited.{Audited}
use Rattle.kpn_command_base.specs.Audited.{IsToldOf, IsTextFor, IsRefusalOfAudit}
use Rattle.kpn_command_views.specs.TimelineText.{timeline}
use Rattle.kpn_command_views.specs.Sent.{IsUnsent}

-- this is the timeline of a legal history, with the waits that it ends with
abbrev pub IsTimelineOf : Document → Trace Global → Audit Global → (text : List ℕ) → Type 0
IsTimelineOf d trace audit text = text ≡ timeline d (tables_for d.tables trace) audit.waits (history_in d.tables trace)

-- the one file spells a network, the other a trace, and this is the text and the status for it
abbrev pub IsTimeline : (may_give : Loads) (file trace : List ℕ) (steps : ℕ) → (text : List ℕ) (status : ℕ) → Type 0
IsTimeline may_give file trace steps text status = IsToldOf IsTimelineOf may_give file trace steps text status

-- the right text for this status went out
pub record HasGoneOut (IsRight : (text : List ℕ) (status : ℕ) → Type 0) (before after : Option (List ℕ))
    (status : ℕ) : Type 0 where
  pub text : List ℕ
  pub right : IsRight text status
  pub sent : Appends before after text

-- the right text for a finding
abbrev pub IsToldTimeline : Audited → (text : List ℕ) (status : ℕ) → Type 0
IsToldTimeline audited text status = IsTextFor (IsTimelineOf audited.document audited.trace) audited.finding text status

-- why there is no timeline: the audit is refused, and nothing has gone out; or the text does not go out whole
abbrev pub IsNoTimeline : {W : Type 0} → (may_give : Loads) (file trace : List ℕ) (out written : W) → Refusal → Type 0
IsNoTimeline may_give file trace out written refusal =
    (IsRefusalOfAudit may_give file trace refusal × (written ≡ out)) ⊎ IsUnsent refusal
