-- A text's first line taken off: what comes before the first line feed, or all if there is none.
use Rattle.kpn_text_items.proofs.Common.{◌≡◌, ℕ, ◌+◌, ◌<◌, ◌≤◌, Bool, false, cond, eqb, List, [], ◌∷◌, ◌++◌, length, get_or, take, drop, length-take, Some, None, refl, ap, ◌∙◌, arith, All, slice_split, position, position_or_len, lines, lines_of_parts, strip_carriage_return, ne_eqb, eqb-true, nat_tests, common_steps}
use Rattle.std.proofs.lemmas.List.Splits.{slice_split_at, slice_split_none, length-slice_split}
use Rattle.std.proofs.lemmas.List.Quantifiers.{position-Some}
use Rattle.std.proofs.lemmas.List.Sums.{fails_before_first}

-- a line feed
abbrev is_feed : ℕ → Bool
is_feed b = eqb b 10

lines_of_parts-cons : (x : List ℕ) (parts : List (List ℕ)) → 0 < length parts
    → lines_of_parts (x ∷ parts) ≡ strip_carriage_return x ∷ lines_of_parts parts
lines_of_parts-cons x [] some = absurd (omega arith)
lines_of_parts-cons x (y ∷ more) some = refl

-- a line that ends in a line feed, and what follows
pub lines-feed : (line rest : List ℕ) → All (λ b. eqb b 10 ≡ false) line
    → lines (line ++ 10 ∷ rest) ≡ strip_carriage_return line ∷ lines rest
lines-feed line rest none =
    ap lines_of_parts (slice_split_at is_feed line 10 rest none refl)
    ∙ lines_of_parts-cons line (slice_split is_feed rest) (omega (arith, length-slice_split is_feed rest))

-- a last line that lacks its line feed
pub lines-last : (bytes : List ℕ) → 0 < length bytes → All (λ b. eqb b 10 ≡ false) bytes → lines bytes ≡ bytes ∷ []
lines-last bytes some none =
    ap lines_of_parts (slice_split_none is_feed bytes none)
    ∙ ap (λ t. cond t [] (bytes ∷ [])) (ne_eqb (length bytes) 0 (λ z. omega arith))

-- the bytes round the first line feed
pub split-at_feed : (bytes : List ℕ) (i : ℕ) → i < length bytes → get_or bytes i 0 ≡ 10 → bytes ≡ take i bytes ++ 10
    ∷ drop (i + 1) bytes
split-at_feed bytes i inside at = grind (arith, common_steps)

-- the first line, if there is a line feed
pub lines-found : (bytes : List ℕ) (i : ℕ) → position is_feed bytes ≡ Some i
    → lines bytes ≡ strip_carriage_return (take i bytes) ∷ lines (drop (i + 1) bytes)
lines-found bytes i found =
    let at = position-Some is_feed bytes i 0 found in
    let before : All (λ b. eqb b 10 ≡ false) (take i bytes) = λ k d inside.
    let fails = (position-Some is_feed bytes i d found).2 k (omega (arith, length-take i bytes)) in
    grind (arith, common_steps) in
    ap lines (split-at_feed bytes i at.0 (eqb-true _ 10 at.1)) ∙ lines-feed (take i bytes) (drop (i + 1) bytes) before

-- a search finds no line feed only if there is none
nowhere : (bytes : List ℕ) → position is_feed bytes ≡ None → length bytes ≤ position_or_len is_feed bytes
nowhere bytes none = grind (arith, nat_tests)

-- the first line, if there is none
pub lines-none : (bytes : List ℕ) → 0 < length bytes → position is_feed bytes ≡ None → lines bytes ≡ bytes ∷ []
lines-none bytes some none =
    lines-last bytes some (λ k d inside. fails_before_first is_feed bytes k d (omega (arith, nowhere bytes none)))
