-- Where a place in a text is, as it is shown.
use Rattle.std.specs.Prelude.{ℕ, ◌&&◌, nat_le, if◌then◌else◌, List, ◌++◌, map, codes}
use Rattle.std.specs.Fmt.{decimal}
use Rattle.kpn_command_explain.specs.declared.lines.Position.{Position}
use Rattle.kpn_command_explain.specs.Lines.{place_at}

-- the bytes from 32 to 126 are shown as they are, others as `?`
abbrev pub plain : (byte : ℕ) → ℕ
plain b = if nat_le 32 b && nat_le b 126 then b else 63

-- `NAME:LINE:COLUMN: `
abbrev pub position_text : (name : List ℕ) → Position → List ℕ
position_text name p = map plain name ++ codes ":" ++ decimal p.line ++ codes ":" ++ decimal p.column ++ codes ": "

-- the same of a byte of a text
abbrev pub where_text : (name text : List ℕ) (at : ℕ) → List ℕ
where_text name text at = position_text name (place_at text at)
