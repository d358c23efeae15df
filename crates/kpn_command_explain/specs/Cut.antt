-- What an explanation says of a legal history: what the audit says, with no more than the first 20 items of a channel.
use Rattle.std.specs.Prelude.{ℕ, zero, suc, ◌-◌, ◌%◌, nat_le, nat_lt, nat_eq, ◌&&◌, if◌then◌else◌, Option, ℤ, List, [], ◌∷◌, ◌++◌, length, take, codes, slice_index_or, None}
use Rattle.std.specs.Fmt.{decimal}
use Rattle.kpn_text_names.specs.Names.{name_at}
use Rattle.kpn_audit.specs.declared.findings.Audit.{Audit}
use Rattle.kpn_command_base.specs.ListText.{spaced_items}
use Rattle.kpn_command_base.specs.AuditText.{exact_line, cap_text}

-- a digit and, if a multiple of three digits is left after it, a comma
abbrev pub digit_text : (digit left : ℕ) → List ℕ
digit_text digit left = digit ∷ (if nat_lt 0 left && nat_eq (left % 3) 0 then codes "," else [])

-- digits in groups of three
abbrev pub with_commas : (digits : List ℕ) → List ℕ
with_commas [] = []
with_commas (digit ∷ digits) = digit_text digit (length digits) ++ with_commas digits

-- what stands after the first 20 of `count` items: ` .. N more` if there are more of them, and a line feed
abbrev pub more_text : (count : ℕ) → List ℕ
more_text count =
    if nat_le count 20 then codes "\n"
    else codes " .. " ++ with_commas (decimal (count - 20)) ++ codes " more\n"

-- `NAME cap N:`, or `NAME:` for a source, and the first 20 items
abbrev pub cut_front : (name : List ℕ) → Option ℕ → List ℤ → List ℕ
cut_front name cap items = (name ++ cap_text cap) ++ codes ":" ++ spaced_items (take 20 items)

-- the same, and how many items more there are
abbrev pub cut_line : (name : List ℕ) → Option ℕ → List ℤ → List ℕ
cut_line name cap items = cut_front name cap items ++ more_text (length items)

-- the line of channel c
abbrev pub channel_cut : {A : Type 0} → (names : List (List ℕ)) → Audit A → (c : ℕ) → List ℕ
channel_cut names audit c =
    cut_line (name_at names c) (slice_index_or audit.caps c None) (slice_index_or audit.journals c [])

-- the lines of the first n channels
abbrev pub channels_cut : {A : Type 0} → (names : List (List ℕ)) → Audit A → (n : ℕ) → List ℕ
channels_cut names audit zero = []
channels_cut names audit (suc c) = channels_cut names audit c ++ channel_cut names audit c

-- `legal`, whether it is exact, and a line for each channel in order of number
abbrev pub cut_text : {A : Type 0} → (names : List (List ℕ)) → Audit A → List ℕ
cut_text names audit =
    codes "legal\n" ++ exact_line audit.exact ++ channels_cut names audit (length audit.journals)
