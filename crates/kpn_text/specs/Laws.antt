-- The laws of reading.
use Rattle.std.specs.Prelude.{◌≡◌, ◌↔◌, ℕ, List, Ok}
use Rattle.std.specs.Str.{IsUtf8}
use Rattle.kpn_text_names.specs.declared.network_names.NetworkNames.{NetworkNames}
use Rattle.kpn_text_names.specs.Names.{name_at}
use Rattle.kpn_text_names.specs.NetworkNames.{process_names}
use Rattle.kpn_text_names.specs.Once.{EachStandsOnce}
use Rattle.kpn_text.specs.Document.{Document}
use Rattle.kpn_text.specs.Spells.{SpellsDocument, IsOfSomeText}
use Rattle.kpn_text.specs.Phases.{document_of}

-- The phases return a document if and only if the text spells it.
abbrev pub PhasesGiveWhatIsSpelled : Type 0
PhasesGiveWhatIsSpelled = (text : List ℕ) (d : Document) → (document_of text ≡ Ok d) ↔ SpellsDocument text d

-- A text spells one document at most.
abbrev pub TextSpellsOnce : Type 0
TextSpellsOnce = (text : List ℕ) (d e : Document) → SpellsDocument text d → SpellsDocument text e → d ≡ e

-- No name is twice in a table of names of a document.
abbrev pub DocumentNamesStandOnce : Type 0
DocumentNamesStandOnce = (d : Document) → IsOfSomeText d → EachStandsOnce d.names

-- the names of each kind are text
pub record AreText (names : NetworkNames) : Type 0 where
  pub processes : (k : ℕ) → IsUtf8 (name_at (process_names names) k)
  pub instances : (k : ℕ) → IsUtf8 (name_at names.instances k)
  pub channels : (k : ℕ) → IsUtf8 (name_at names.channels k)

-- the names of a document are text
abbrev pub NamesAreText : Type 0
NamesAreText = (d : Document) → IsOfSomeText d → AreText d.names
