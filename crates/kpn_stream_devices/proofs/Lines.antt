-- What the unused bytes of a window tell of the first line, whatever bytes come after them.
use Rattle.std.proofs.Common.{◌≡◌, ℕ, ◌+◌, ◌-◌, ◌<◌, ◌≤◌, Bool, true, false, cond, eqb, ltb, List, [], ◌∷◌, ◌++◌, length, take, drop, length-take, length-append, Option, Some, None, refl, sym, ap, ◌∙◌, arith, append_assoc, append-nil}
use Rattle.std.specs.Prelude.{ℤ, ◌==◌, slice_index}
use Rattle.kpn_stream_devices.proofs.Common.{All, position, position_or_len, lines, strip_carriage_return, position-Some, fails_before_first, eqb-true, ltb-true, nat_tests, common_steps, SpellsItem}
use Rattle.std.proofs.Math.Seq.{drop-length}
use Rattle.std.proofs.lemmas.List.{get_or_append_left, length-drop}
use Rattle.std.specs.Str.Parse.{starts_with_minus}
use Rattle.kpn_text_items.proofs.LineLemmas.{lines-feed, lines-found, lines-none, split-at_feed}

-- a line feed
abbrev pub is_feed : ℕ → Bool
is_feed b = eqb b 10

-- the first line, if there is a line feed
pub first_line : (us ds : List ℕ) (end : ℕ) → position is_feed us ≡ Some end
    → lines (us ++ ds) ≡ strip_carriage_return (take end us) ∷ lines (drop (end + 1) us ++ ds)
first_line us ds end found =
    let at = position-Some is_feed us end 0 found in
    let before : All (λ b. eqb b 10 ≡ false) (take end us) = λ k d inside.
    let fails = (position-Some is_feed us end d found).2 k (omega (arith, length-take end us)) in
    grind (arith, common_steps) in
    ap (λ bytes. lines (bytes ++ ds)) (split-at_feed us end at.0 (eqb-true _ 10 at.1))
    ∙ ap lines (append_assoc (take end us) (10 ∷ drop (end + 1) us) ds)
    ∙ lines-feed (take end us) (drop (end + 1) us ++ ds) before

-- it lies within the bytes
pub feed_within : (us : List ℕ) (end : ℕ) → position is_feed us ≡ Some end → end + 1 ≤ length us
feed_within us end found = let at = position-Some is_feed us end 0 found in omega (arith, at.0)

-- the only line, if there is no line feed and nothing comes
pub only_line : (us : List ℕ) → 0 < length us → position is_feed us ≡ None
    → lines (us ++ []) ≡ us ∷ lines (drop (length us) us ++ [])
only_line us some none =
    ap lines (append-nil us) ∙ lines-none us some none
    ∙ ap (λ rest. us ∷ lines (rest ++ [])) (sym (drop-length us))

-- there is a first line, if there is a byte
pub begins : (us ds : List ℕ) → 22 ≤ length us
    → (line : List ℕ) × (more : List (List ℕ)) × (lines (us ++ ds) ≡ line ∷ more)
begins us ds many = begins_at (us ++ ds) (position is_feed (us ++ ds)) refl (omega (arith, length-append us ds, many))
  where
    begins_at : (bytes : List ℕ) (found : Option ℕ) → position is_feed bytes ≡ found → 0 < length bytes
        → (line : List ℕ) × (more : List (List ℕ)) × (lines bytes ≡ line ∷ more)
    begins_at bytes None none some = (bytes, [], lines-none bytes some none)
    begins_at bytes (Some i) found some =
        (strip_carriage_return (take i bytes), lines (drop (i + 1) bytes), lines-found bytes i found)

-- ---- a line that is too long

-- a line without its line end has at most one byte less
stripped : (b : Bool) (text : List ℕ) → length text ≤ length (cond b (take (length text - 1) text) text) + 1
stripped true text = omega (arith, length-take (length text - 1) text)
stripped false text = omega arith

unsigned : (b : Bool) (text : List ℕ) → length text ≤ length (cond b (drop 1 text) text) + 1
unsigned true text = omega (arith, length-drop 1 text)
unsigned false text = omega arith

-- a line that spells an item is short
spelled_short : (text : List ℕ) (item : ℤ) → SpellsItem text item → length text ≤ 20
spelled_short text item spells = omega (arith, unsigned (starts_with_minus text) text, spells.numeral.1)

abbrev pub head : List (List ℕ) → List ℕ
head [] = []
head (x ∷ xs) = x

-- what comes first after some bytes without a line feed, if a line feed comes
late : (us ds : List ℕ) (i : ℕ) (inside : Bool) → ltb i (length us) ≡ inside → position is_feed us ≡ None
    → position is_feed (us ++ ds) ≡ Some i → length us ≤ i
late us ds i false out none found = grind (arith, nat_tests)
late us ds i true at none found =
    let below = ltb-true i (length us) at in
    let is = (position-Some is_feed (us ++ ds) i 0 found).1 in
    let whole : length us ≤ position_or_len is_feed us = grind (arith, nat_tests) in
    let fails = fails_before_first is_feed us i 0 (omega (arith, below, whole)) in
    absurd (grind (arith, fails, is, get_or_append_left us ds 0 i below))

-- the first line, if there is no line feed so far
too_long : (us ds : List ℕ) (found : Option ℕ) → position is_feed (us ++ ds) ≡ found → 22 ≤ length us
    → position is_feed us ≡ None → (text : List ℕ) (more : List (List ℕ)) → lines (us ++ ds) ≡ text ∷ more
    → 21 ≤ length text
too_long us ds None none long line text more is =
    let first = lines-none (us ++ ds) (omega (arith, length-append us ds, long)) none in
    let same : us ++ ds ≡ text = ap head (sym first ∙ is) in
    omega (arith, length-append us ds, ap length same, long)
too_long us ds (Some i) found long line text more is =
    let first = lines-found (us ++ ds) i found in
    let same : strip_carriage_return (take i (us ++ ds)) ≡ text = ap head (sym first ∙ is) in
    let front = take i (us ++ ds) in
    let from = late us ds i (ltb i (length us)) refl line found in
    let at = (position-Some is_feed (us ++ ds) i 0 found).0 in
    omega (arith, stripped (slice_index front (length front - 1) == 13) front, length-take i (us ++ ds), ap length same, long, from, at)

-- it spells no item
pub long_line : (us ds : List ℕ) → 22 ≤ length us → position is_feed us ≡ None → (text : List ℕ)
    (more : List (List ℕ)) (item : ℤ) → lines (us ++ ds) ≡ text ∷ more → SpellsItem text item → ⊥
long_line us ds long line text more item is spells =
    let many = too_long us ds (position is_feed (us ++ ds)) refl long line text more is in
    absurd (omega (arith, many, spelled_short text item spells))
