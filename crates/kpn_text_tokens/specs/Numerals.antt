-- Numbers as language 2 writes them: a digit, and then letters, digits and `_`; or a byte in quotes.
use Rattle.std.specs.Prelude.{ℕ, ◌+◌, ◌*◌, Bool, not, ◌&&◌, ◌==◌, nat_eq, nat_le, if◌then◌else◌, List, [], ◌∷◌, codes, drop, slice_index, Option, Some, None}
use Rattle.std.specs.Char.{digit_value, is_digit}
use Rattle.std.specs.List.{starts_with}
use Rattle.std.specs.Option.{option_and_then}
use Rattle.kpn_text_tokens.specs.declared.tokens.TheConstants.{MAX_NUMBER}
use Rattle.kpn_text_tokens.specs.declared.tokens.Language.{Language}
use Rattle.kpn_text_tokens.specs.Spelling.{is_two}

-- One more byte behind digits of this value: a digit of the base, or `_`, which stands for nothing. The value is at
-- most 2 ^ 63 - 1 (MAX_NUMBER).
abbrev pub with_digit : (base value : ℕ) → ℕ → Option ℕ
with_digit base value b =
    if b == 95 then Some value
    else (if is_digit b base && nat_le (value * base + digit_value b) MAX_NUMBER
    then Some (value * base + digit_value b) else None)

-- the same of several
abbrev pub digits_behind : (base value : ℕ) → List ℕ → Option ℕ
digits_behind base value [] = Some value
digits_behind base value (b ∷ bs) = option_and_then (λ v. digits_behind base v bs) (with_digit base value b)

-- the value of digits of a base, of which the first is no `_`
abbrev pub digits_in : (base : ℕ) → List ℕ → Option ℕ
digits_in base [] = None
digits_in base (b ∷ bs) = if b == 95 then None else digits_behind base 0 (b ∷ bs)

-- the value of a run of letters, digits and `_`: of base 16 behind `0x`, of base 2 behind `0b`, and else of base 10
abbrev pub numeral_value : List ℕ → Option ℕ
numeral_value word =
    if starts_with nat_eq word (codes "0x") then digits_in 16 (drop 2 word)
    else (if starts_with nat_eq word (codes "0b") then digits_in 2 (drop 2 word) else digits_in 10 word)

-- ---- a byte in quotes

-- in language 2 a quote begins a number
abbrev pub begins_quote : Language → ℕ → Bool
begins_quote l b = b == 39 && is_two l

-- a space or another byte of ASCII that shows, and neither `'` nor `\`, stands for itself
abbrev pub is_plain : ℕ → Bool
is_plain b = (nat_le 32 b && nat_le b 126) && (not (b == 39) && not (b == 92))

-- what a byte behind `\` stands for: `n`, `\`, `'`, `0`
abbrev pub escape_value : ℕ → Option ℕ
escape_value b =
    if b == 110 then Some 10
    else (if b == 92 then Some 92 else (if b == 39 then Some 39 else (if b == 48 then Some 0 else None)))

-- the value of what a quote begins: of 'A', or of '\n' if `\` follows
abbrev pub quoted_value : List ℕ → Option ℕ
quoted_value text =
    if slice_index text 1 == 92
    then (if slice_index text 3 == 39 then escape_value (slice_index text 2) else None)
    else (if is_plain (slice_index text 1) && slice_index text 2 == 39 then Some (slice_index text 1) else None)

-- how many bytes that takes
abbrev pub quoted_length : List ℕ → ℕ
quoted_length text = if slice_index text 1 == 92 then 4 else 3
