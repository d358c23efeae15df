-- What is found of the bytes of a trace, as what is explained of them.
use Rattle.kpn_command_explain.proofs.Common.{◌≡◌, ℕ, ◌<◌, List, length, Ok, refl, subst, arith, Tables, Document, Refusal, Loads, IsNoFinding}
use Rattle.std.specs.declared.alloc.Global.{Global}
use Rattle.kpn_history.specs.declared.stored.Trace.{Trace}
use Rattle.kpn_trace.specs.TraceText.{SpellsTrace}
use Rattle.kpn_audit.specs.declared.findings.AuditFault.TheVariants.{Illegal}
use Rattle.kpn_audit.specs.declared.scene.Scene.{Scene}
use Rattle.kpn_audit.specs.Audit.{IsRefusal}
use Rattle.kpn_audit.specs.Scene.{IsSceneBefore}
use Rattle.kpn_audit.specs.Stored.{tables_for}
use Rattle.kpn_audit.proofs.Telling.{history_of-length}
use Rattle.kpn_command_base.specs.declared.refusal.Refusal.TheVariants as refusal
use Rattle.kpn_command_base.specs.Description.{IsDescribed}
use Rattle.kpn_command_explain.specs.TraceAnswers.{ExplainsEvent, IsConclusion, IsNoExplanation, IsRefusalOfExplaining, illegal}

-- ---- conclusions

-- the event that is not legal is one of the trace
pub event_there : (t : Tables) (trace : Trace Global) (steps k : ℕ) → IsRefusal t trace steps (Illegal k)
    → k < length trace.events
event_there t trace steps k is =
    let below = is.1.0.there in
    let same = history_of-length trace.version (tables_for t trace) trace.events in omega (arith, below, same)

module _ (d : Document) (own : Tables) (same : own ≡ d.tables) (name bytes : List ℕ) (trace : Trace Global)
    (steps : ℕ) (text : List ℕ) where
  pub concludes_illegal : (k : ℕ) → IsRefusal d.tables trace steps (Illegal k) → (scene : Scene)
      → IsSceneBefore own trace k steps scene → ExplainsEvent name bytes trace k text
      → IsConclusion d name bytes trace steps text 1
  concludes_illegal k is scene stands made =
      illegal k is scene (subst (λ n. IsSceneBefore n trace k steps scene) same stands) made refl

-- ---- refusals

pub no_explanation : (t : Tables) (bytes : List ℕ) (trace : Trace Global) → SpellsTrace bytes trace → (r : Refusal)
    → IsNoFinding t trace r → IsNoExplanation t bytes r
no_explanation t bytes trace spelled refusal.PolicyDiffers cause = (trace, spelled, cause)
no_explanation t bytes trace spelled refusal.NoMemoryToAudit cause = tt
no_explanation t bytes trace spelled refusal.NoMemory cause = tt
no_explanation t bytes trace spelled other cause = absurd cause

pub is_refusal : (may_give : Loads) (file trace : List ℕ) (d : Document) → IsDescribed may_give file d
    → (bytes : List ℕ) → may_give trace (Ok bytes) → (r : Refusal) → IsNoExplanation d.tables bytes r
    → IsRefusalOfExplaining may_give file trace r
is_refusal may_give file trace d described bytes loaded (refusal.Trace fault) cause =
    (((d, described), record { bytes = bytes; loaded = loaded; read = cause.0 }), cause.1)
is_refusal may_give file trace d described bytes loaded refusal.PolicyDiffers cause =
    record {
      document = d;
      described = described;
      stored = cause.0;
      traced = record { bytes = bytes; loaded = loaded; read = cause.1 };
      differs = cause.2;
    }
is_refusal may_give file trace d described bytes loaded refusal.NoMemoryToAudit cause = tt
is_refusal may_give file trace d described bytes loaded refusal.NoMemory cause = tt
is_refusal may_give file trace d described bytes loaded other cause = absurd cause
