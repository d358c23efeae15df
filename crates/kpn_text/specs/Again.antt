-- The law of printing.
use Rattle.std.specs.Prelude.{◌≤◌, length}
use Rattle.kpn_limits.specs.declared.TheConstants.{MAX_TEXT_BYTES}
use Rattle.kpn_text.specs.Document.{Document, canonical_text}
use Rattle.kpn_text.specs.Spells.{SpellsDocument, IsOfSomeText}

-- A printed document is read again: its canonical text spells it, if that is within the limit of bytes.
abbrev pub PrintedTextSpells : Type 0
PrintedTextSpells =
    (d : Document) → IsOfSomeText d → length (canonical_text d) ≤ MAX_TEXT_BYTES → SpellsDocument (canonical_text d) d
