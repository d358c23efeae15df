-- A file that holds a description.
use Rattle.std.specs.Prelude.{◌≡◌, ◌⊎◌, ℕ, List}
use Rattle.kpn_text.specs.declared.fault.TextFault.{TextFault}
use Rattle.kpn_text.specs.Document.{Document}
use Rattle.kpn_text.specs.Spells.{SpellsDocument}
use Rattle.kpn_text.specs.Phases.{Refuses}
use Rattle.kpn_command_base.specs.declared.refusal.Refusal.{Refusal}
use Rattle.kpn_command_base.specs.declared.refusal.Refusal.TheVariants.{Input, Description, NoMemory}
use Rattle.kpn_shelf.specs.Shelf.{Loads, IsRefusalOfLoad, IsLoadedAs}

-- a file may give bytes that spell this document
abbrev pub IsDescribed : (may_give : Loads) (file : List ℕ) → Document → Type 0
IsDescribed may_give file d = IsLoadedAs SpellsDocument may_give file d

-- a file may give bytes that are refused as a description
abbrev pub IsRefusedDescription : (may_give : Loads) (file : List ℕ) → TextFault → Type 0
IsRefusedDescription may_give file fault = IsLoadedAs Refuses may_give file fault

-- why a file gives no document: it is not loaded, or what it may give is refused
abbrev pub IsRefusalOfDescription : (may_give : Loads) (file : List ℕ) → Refusal → Type 0
IsRefusalOfDescription may_give file (Input fault) = IsRefusalOfLoad may_give file fault
IsRefusalOfDescription may_give file (Description fault) = IsRefusedDescription may_give file fault
IsRefusalOfDescription may_give file other = ⊥

-- why a command on a description gives no answer: the file gives no document, or there is no memory for the answer
abbrev pub IsRefusalOfCommand : (may_give : Loads) (file : List ℕ) → Refusal → Type 0
IsRefusalOfCommand may_give file refusal = IsRefusalOfDescription may_give file refusal ⊎ (refusal ≡ NoMemory)
