-- What `kpn draw` comes to, and why it gives no answer. Rows show the drawing.
use Rattle.std.specs.Prelude.{◌≡◌, ℕ, List, Option, Some, None}
use Rattle.kpn_text.specs.Document.{Document}
use Rattle.kpn_command_base.specs.declared.refusal.Refusal.{Refusal}
use Rattle.kpn_shelf.specs.Shelf.{Loads}
use Rattle.kpn_command_base.specs.Description.{IsDescribed, IsRefusalOfCommand}
use Rattle.kpn_command_base.specs.Audited.{IsAnyToldOf, IsRefusalOfAudit}

-- the one file spells a network
pub record IsDrawnAlone (may_give : Loads) (file : List ℕ) (text : List ℕ) (status : ℕ) : Type 0 where
  pub document : Document
  pub described : IsDescribed may_give file document
  pub succeeded : status ≡ 0

-- a network is drawn by itself, or after the history of a trace
abbrev pub IsDrawn : (may_give : Loads) (file : List ℕ) (trace : Option (List ℕ)) (steps : ℕ) (text : List ℕ)
    (status : ℕ) → Type 0
IsDrawn may_give file None steps text status = IsDrawnAlone may_give file text status
IsDrawn may_give file (Some trace) steps text status = IsAnyToldOf may_give file trace steps text status

-- why there is no drawing: with a trace, why there is no audit
abbrev pub IsRefusalOfDrawing : (may_give : Loads) (file : List ℕ) (trace : Option (List ℕ)) → Refusal → Type 0
IsRefusalOfDrawing may_give file None refusal = IsRefusalOfCommand may_give file refusal
IsRefusalOfDrawing may_give file (Some trace) refusal = IsRefusalOfAudit may_give file trace refusal
