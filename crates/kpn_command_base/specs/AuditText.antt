-- The texts that `kpn audit` writes.
use Rattle.std.specs.Prelude.{ℕ, ℤ, Bool, true, false, List, [], ◌++◌, codes, Option, Some, None, slice_index_or}
use Rattle.std.specs.Fmt.{decimal}
use Rattle.kpn_text_names.specs.Names.{name_at}
use Rattle.kpn_command_base.specs.ListText.{items_text, lines_from}
use Rattle.kpn_audit.specs.declared.findings.Audit.{Audit}

-- ` cap N`, and nothing for a source, which has no capacity
abbrev pub cap_text : Option ℕ → List ℕ
cap_text None = []
cap_text (Some cap) = codes " cap " ++ decimal cap

-- `NAME cap N:`, or `NAME:` for a source, the items of the journal, and a line feed
abbrev pub journal_line : (name : List ℕ) → Option ℕ → List ℤ → List ℕ
journal_line name cap items = name ++ cap_text cap ++ items_text items

-- the line of the channel with the number c
abbrev pub channel_line : (names : List (List ℕ)) → (caps : List (Option ℕ)) → (c : ℕ) → List ℤ → List ℕ
channel_line names caps c items = journal_line (name_at names c) (slice_index_or caps c None) items

abbrev pub exact_line : Bool → List ℕ
exact_line true = codes "exact yes\n"
exact_line false = codes "exact no\n"

-- `legal`, whether it is exact, and a line for each channel in order of number
abbrev pub audit_text : {A : Type 0} → (names : List (List ℕ)) → Audit A → List ℕ
audit_text names audit =
    codes "legal\n" ++ exact_line audit.exact ++ lines_from (channel_line names audit.caps) 0 audit.journals
