-- What `kpn timeline --svg` writes, and why it gives no picture.
use Rattle.std.specs.Prelude.{◌≡◌, ◌≤◌, ◌<◌, ℕ, List, [], ⊤}
use Rattle.std.specs.declared.alloc.Global.{Global}
use Rattle.kpn_net.specs.declared.wait.Wait.{Wait}
use Rattle.kpn_net.specs.Tables.{Tables}
use Rattle.kpn_history.specs.declared.event.Event.{Event}
use Rattle.kpn_history.specs.declared.stored.Trace.{Trace}
use Rattle.kpn_text.specs.Document.{Document}
use Rattle.kpn_audit.specs.declared.findings.Audit.{Audit}
use Rattle.kpn_audit.specs.Stored.{tables_for, history_in}
use Rattle.kpn_command_base.specs.declared.refusal.Refusal.{Refusal}
use Rattle.kpn_command_base.specs.declared.refusal.Refusal.TheVariants as refusal
use Rattle.kpn_shelf.specs.Shelf.{Loads}
use Rattle.kpn_command_base.specs.declared.auditing.Audited.{Audited}
use Rattle.kpn_command_base.specs.declared.auditing.Finding.{Finding}
use Rattle.kpn_command_base.specs.declared.auditing.Finding.TheVariants.{Legal, NotLegal}
use Rattle.kpn_command_base.specs.Audited.{IsAudited, IsToldOf, IsRefusalOfAudit}
use Rattle.kpn_command_views.specs.PictureText.{picture, picture_size}

-- this is the picture of ticks `first` to `last` of these events and the waits after them, which has at most 2,000
-- ticks, and boxes and marks
abbrev pub IsPicture : Document → Tables → (first last : ℕ) → List Wait → List Event → (text : List ℕ) → Type 0
IsPicture d t first last waits events text =
    (text ≡ picture d t first last waits events) × (picture_size d t first last waits events ≤ 2000)

-- the same of a legal history, with the waits that it ends with
abbrev pub IsPictureOf : (first last : ℕ) → Document → Trace Global → Audit Global → (text : List ℕ) → Type 0
IsPictureOf first last d trace audit text =
    IsPicture d (tables_for d.tables trace) first last audit.waits (history_in d.tables trace) text

-- the one file spells a network, the other a trace, and this is the text and the status for it
abbrev pub IsPictured : (may_give : Loads) (file trace : List ℕ) (steps first last : ℕ) → (text : List ℕ) (status : ℕ)
    → Type 0
IsPictured may_give file trace steps first last text status =
    IsToldOf (IsPictureOf first last) may_give file trace steps text status

-- the waits that a history ends with, as an audit finds
abbrev pub waits_found : Finding → List Wait
waits_found (Legal audit) = audit.waits
waits_found (NotLegal flaw) = []

-- how many ticks the picture of the history of a trace has, or boxes and marks, whichever are more
abbrev pub size_for : (first last : ℕ) → Audited → ℕ
size_for first last audited =
    let t = tables_for audited.document.tables audited.trace in
    let history = history_in audited.document.tables audited.trace in
    picture_size audited.document t first last (waits_found audited.finding) history

-- why there is no picture: it would be too large, or there is no audit
abbrev pub IsRefusalOfPicture : (may_give : Loads) (file trace : List ℕ) (steps first last : ℕ) → Refusal → Type 0
IsRefusalOfPicture may_give file trace steps first last refusal.PictureWords =
    (audited : Audited) × IsAudited may_give file trace steps audited
    × (2000 < size_for first last audited)
IsRefusalOfPicture may_give file trace steps first last other = IsRefusalOfAudit may_give file trace other

-- ---- scaffolding: what the parts of the code answer

-- why events give no picture: it would have this many ticks, or boxes and marks
abbrev pub IsNoPicture : (size : ℕ) → Refusal → Type 0
IsNoPicture size refusal.PictureWords = 2000 < size
IsNoPicture size refusal.NoMemory = ⊤
IsNoPicture size other = ⊥
