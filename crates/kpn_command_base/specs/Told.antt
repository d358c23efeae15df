-- What the place for faults gets of a line.
use Rattle.std.specs.Prelude.{◌≡◌, ℕ, Bool, true, List, [], ◌++◌, Option}
use Rattle.std.specs.Io.KnownBytes.{Appends}

-- the first of these bytes were written, and nothing else; and if `whole` all of them
pub record AreWritten (before after : Option (List ℕ)) (bytes : List ℕ) (whole : Bool) : Type 0 where
  pub front : List ℕ
  pub rest : List ℕ
  pub parts : bytes ≡ front ++ rest
  pub appends : Appends before after front
  pub all : whole ≡ true → rest ≡ []

-- the place got this line, or the first bytes of it if it takes no more
abbrev pub IsLineTold : (before after : Option (List ℕ)) (line : List ℕ) → Type 0
IsLineTold before after line = (whole : Bool) × AreWritten before after line whole

-- ---- scaffolding: a line that is written piece by piece

-- if a line was written until now, whole or not, it was written with these bytes after it
abbrev pub Continues : (old new : Option (List ℕ)) (bytes : List ℕ) (was is : Bool) → Type 0
Continues old new bytes was is =
    (before : Option (List ℕ)) (line : List ℕ) → AreWritten before old line was
    → AreWritten before new (line ++ bytes) is
