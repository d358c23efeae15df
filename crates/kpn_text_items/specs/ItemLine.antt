-- One line of an item file, without its line end, and the whole number that it spells.
use Rattle.std.specs.Prelude.{◌≡◌, ℕ, ◌≤◌, List, length, drop, ℤ, pos, neg_ℤ, if◌then◌else◌, FitsSigned}
use Rattle.std.specs.Int.{w64}
use Rattle.std.specs.Str.Parse.{IsNumeral, digits_value, starts_with_minus}
use Rattle.kpn_limits.specs.declared.TheConstants.{MAX_DIGITS}

-- 1 to 19 decimal digits (MAX_DIGITS), leading zeros allowed, and nothing else
abbrev pub IsShortNumeral : List ℕ → Type 0
IsShortNumeral ds = IsNumeral 10 ds × (length ds ≤ MAX_DIGITS)

-- the line without the one `-` that it may begin with
abbrev pub without_minus : List ℕ → List ℕ
without_minus line = if starts_with_minus line then drop 1 line else line

-- the number that the digits write in base ten, and after a `-` its negative
abbrev pub line_value : List ℕ → ℤ
line_value line =
    let number = pos (digits_value 10 (without_minus line)) in if starts_with_minus line then neg_ℤ number else number

-- the line is an optional `-` and 1 to 19 digits, and the item is its value, from -2^63 to 2^63-1
pub record SpellsItem (line : List ℕ) (item : ℤ) : Type 0 where
  pub numeral : IsShortNumeral (without_minus line)
  pub value : item ≡ line_value line
  pub in_range : FitsSigned w64 item
