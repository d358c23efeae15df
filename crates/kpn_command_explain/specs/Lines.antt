-- Lines and columns of a text.
use Rattle.std.specs.Prelude.{ℕ, ◌+◌, ◌-◌, ◌==◌, nat_eq, if◌then◌else◌, List, [], ◌∷◌, take, fold}
use Rattle.kpn_command_explain.specs.declared.lines.Position.{Position}

abbrev pub first_place : Position
first_place = record { line = 1; column = 1 }

-- the place after a byte: a line feed ends its line
abbrev pub place_after_byte : Position → (byte : ℕ) → Position
place_after_byte p b =
    if b == 10 then record { line = p.line + 1; column = 1 } else record { line = p.line; column = p.column + 1 }

-- the place after a text
abbrev pub place_behind : (text : List ℕ) → Position
place_behind text = fold place_after_byte first_place text

-- the place of this byte of a text, or of its end
abbrev pub place_at : (text : List ℕ) (at : ℕ) → Position
place_at text at = place_behind (take at text)

-- the byte after this many line feeds, or the end of the text
abbrev pub behind_feeds : (feeds : ℕ) (text : List ℕ) → ℕ
behind_feeds feeds [] = 0
behind_feeds feeds (b ∷ bs) =
    if nat_eq feeds 0 then 0 else 1 + behind_feeds (if b == 10 then feeds - 1 else feeds) bs

-- the byte at which the line of this number begins, if lines are counted from 1
abbrev pub line_start : (text : List ℕ) (line : ℕ) → ℕ
line_start text line = behind_feeds (line - 1) text
