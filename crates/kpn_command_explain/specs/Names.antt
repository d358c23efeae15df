-- Names in a text, by their first bytes.
use Rattle.std.specs.Prelude.{ℕ, Bool, not, ◌||◌, ◌&&◌, ◌==◌, nat_lt, if◌then◌else◌, List, take, drop, fold, Option, Some, None, position}
use Rattle.std.specs.List.{find}
use Rattle.std.specs.Char.{is_ascii_digit, is_ascii_alphabetic}
use Rattle.std.specs.Str.{bytes_eq}

-- a front of a text, up to where something was found
abbrev pub up_to : Option ℕ → (text : List ℕ) → List ℕ
up_to None text = text
up_to (Some end) text = take end text

-- a byte that a name goes on with
abbrev pub is_in_name : (byte : ℕ) → Bool
is_in_name b = is_ascii_alphabetic b || is_ascii_digit b || b == 95

-- the front of a text up to a byte that is in no name
abbrev pub first_name : (text : List ℕ) → List ℕ
first_name text = up_to (position (λ b. not (is_in_name b)) text) text

-- the name that begins at a byte of a text
abbrev pub name_beginning_at : (text : List ℕ) (at : ℕ) → List ℕ
name_beginning_at text at = first_name (drop at text)

-- the later of what was found and of this name, if it is the same name and before the bound
abbrev pub later : (text name : List ℕ) (bound : ℕ) → (found : Option ℕ) → (start : ℕ) → Option ℕ
later text name bound found start =
    if nat_lt start bound && bytes_eq (name_beginning_at text start) name then Some start else found

-- the last of these names that is the same and before the bound
abbrev pub last_before : (text name : List ℕ) (bound : ℕ) → (starts : List ℕ) → Option ℕ
last_before text name bound starts = fold (later text name bound) None starts

-- the first of these names that is the same and between the bounds
abbrev pub is_between : (text name : List ℕ) (from to : ℕ) → (start : ℕ) → Bool
is_between text name from to start =
    nat_lt from start && nat_lt start to && bytes_eq (name_beginning_at text start) name

abbrev pub first_between : (text name : List ℕ) (from to : ℕ) → (starts : List ℕ) → Option ℕ
first_between text name from to starts = find (is_between text name from to) starts

-- the first byte of these after another one, or else a byte given
abbrev pub next_start : (at : ℕ) → (starts : List ℕ) → Option ℕ
next_start at starts = find (nat_lt at) starts

abbrev pub or_byte : Option ℕ → (otherwise : ℕ) → ℕ
or_byte None otherwise = otherwise
or_byte (Some start) otherwise = start

abbrev pub first_behind : (at otherwise : ℕ) → (starts : List ℕ) → ℕ
first_behind at otherwise starts = or_byte (next_start at starts) otherwise
