-- What an arm of a command gives is what the command may give.
use Rattle.kpn_command_explain.proofs.Common.{◌≡◌, ◌⊎◌, ◌≢◌, inl, inr, ℕ, ℤ, List, length, Ok, subst, sym, Document, Refusal, Loads}
use Rattle.kpn_text_items.specs.ItemFile.{Spells as SpellsItems, IsFirstBad}
use Rattle.kpn_text.specs.declared.fault.TextFault.{TextFault}
use Rattle.kpn_text.specs.Spells.{SpellsDocument}
use Rattle.kpn_text.specs.Phases.{Refuses}
use Rattle.kpn_command_base.specs.declared.refusal.Refusal.TheVariants.{Description, NoMemory}
use Rattle.kpn_command_base.specs.Refusal.{status_of}
use Rattle.kpn_command_base.specs.Counts.{summary_text}
use Rattle.kpn_command_explain.specs.Answers.{Explains, IsExplained, right, wrong, IsRefusalOfExplaining, items_line, ExplainsLine, AreItemsExplained, right_items, wrong_line, IsRefusalOfItemFile}

module _ (may_give : Loads) (file bytes : List ℕ) (loaded : may_give file (Ok bytes)) where
  pub is_right : (d : Document) → SpellsDocument bytes d → (text : List ℕ) (status : ℕ)
      → (text ≡ summary_text d) × (status ≡ 0) → IsExplained may_give file text status
  is_right d spelled text status made =
      right d (record { bytes = bytes; loaded = loaded; read = spelled }) made.0 made.1

  pub is_wrong : (fault : TextFault) → Refuses bytes fault → (text : List ℕ) (status : ℕ)
      → (status_of (Description fault) ≢ 6) × Explains file bytes fault text × (status ≡ 1)
      → IsExplained may_give file text status
  is_wrong fault refused text status made = wrong bytes fault loaded refused made.0 made.1 made.2

  pub is_refused : (fault : TextFault) → Refuses bytes fault → (refusal : Refusal)
      → (refusal ≡ NoMemory) ⊎ ((refusal ≡ Description fault) × (status_of (Description fault) ≡ 6))
      → IsRefusalOfExplaining may_give file refusal
  is_refused fault refused refusal (inl none) =
      subst (IsRefusalOfExplaining may_give file) (sym none) tt
  is_refused fault refused refusal (inr same) =
      subst (IsRefusalOfExplaining may_give file) (sym same.0)
      (record { bytes = bytes; loaded = loaded; read = refused }, same.1)

  pub are_right : (items : List ℤ) → SpellsItems bytes items → (text : List ℕ) (status : ℕ)
      → (text ≡ items_line (length items)) × (status ≡ 0) → AreItemsExplained may_give file text status
  are_right items spelled text status made =
      right_items items (record { bytes = bytes; loaded = loaded; read = spelled }) made.0 made.1

  pub is_wrong_line : (line : ℕ) → IsFirstBad bytes line → (text : List ℕ) (status : ℕ)
      → ExplainsLine file bytes line text × (status ≡ 1) → AreItemsExplained may_give file text status
  is_wrong_line line bad text status made = wrong_line bytes line loaded bad made.0 made.1

pub no_memory : (may_give : Loads) (file : List ℕ) (refusal : Refusal) → refusal ≡ NoMemory
    → IsRefusalOfExplaining may_give file refusal
no_memory may_give file refusal same = subst (IsRefusalOfExplaining may_give file) (sym same) tt

pub no_memory_for_items : (may_give : Loads) (file : List ℕ) (refusal : Refusal) → refusal ≡ NoMemory
    → IsRefusalOfItemFile may_give file refusal
no_memory_for_items may_give file refusal same = subst (IsRefusalOfItemFile may_give file) (sym same) tt
