-- What the unused bytes of a window tell.
use Rattle.std.proofs.Common.{◌≡◌, ℕ, ◌+◌, ◌<◌, ◌≤◌, true, List, [], ◌∷◌, ◌++◌, length, take, drop, Option, Some, None, Err, refl, sym, ap, subst, arith}
use Rattle.std.specs.Prelude.{ℤ, pos, MatchOption}
use Rattle.kpn_stream_devices.proofs.Common.{twos_complement, position, lines, strip_carriage_return, little_from-append, SpellsItem, BadItem, float_item, sample_width, sample_value, signed_value, SampleFormat, U8, S8, S16, S24, S32, S64, F32, Lines, Window, SpellsNone, one_after, with_one, left_of, IfKnown, IsEndKnown, LineGives, SampleGives, CountsUsed, answer_of, IsRightOf, One}
use Rattle.kpn_stream_devices.proofs.Lines.{is_feed, feed_within, begins, first_line, only_line, long_line}

-- what is told of a line that is the first of what is left
gives : (left rest line : List ℕ) (number : ℕ) (item : Option ℤ) → lines left ≡ line ∷ lines rest
    → MatchOption item (SpellsNone line) (SpellsItem line) → LineGives left rest (answer_of item number)
gives left rest line number (Some v) first spells = (line, first, spells)
gives left rest line number None first spells_none = (line, lines rest, first, spells_none)

-- one more was used
pub counts : (used : ℕ) (item : Option ℤ) → CountsUsed (answer_of item (one_after used)) used (one_after used)
counts used (Some v) = refl
counts used None = refl

-- a line with a line feed after it
pub line_tells : (w : Window) (end : ℕ) (item : Option ℤ) → position is_feed w.unused ≡ Some end
    → MatchOption item (SpellsNone (strip_carriage_return (take end w.unused)))
    (SpellsItem (strip_carriage_return (take end w.unused))) → IsRightOf Lines w (One item (end + 1) w.wav)
line_tells w end item found match = (
  feed_within w.unused end found,
  record {
    counted = counts w.used item;
    given = told;
  },
)
  where
    told : (device : Option (List ℕ)) → IsEndKnown w device
        → IfKnown (left_of w device) (left_of (with_one (end + 1) w.wav w) device)
        (λ l r. LineGives l r (answer_of item (one_after w.used)))
    told None over = tt
    told (Some ds) over =
        gives (w.unused ++ ds) (drop (end + 1) w.unused ++ ds) (strip_carriage_return (take end w.unused))
        (one_after w.used) item (first_line w.unused ds end found) match

-- the last line, which lacks its line feed
pub whole_tells : (w : Window) (item : Option ℤ) (count : ℕ) → count ≡ length w.unused → 0 < count
    → w.is_over ≡ true → position is_feed w.unused ≡ None → MatchOption item (SpellsNone w.unused) (SpellsItem w.unused)
    → IsRightOf Lines w (One item count w.wav)
whole_tells w item count all some over line match = (
  omega (arith, all),
  record {
    counted = counts w.used item;
    given = told;
  },
)
  where
    told : (device : Option (List ℕ)) → IsEndKnown w device
        → IfKnown (left_of w device) (left_of (with_one count w.wav w) device)
        (λ l r. LineGives l r (answer_of item (one_after w.used)))
    told None known = tt
    told (Some ds) known =
        subst (λ (d : List ℕ). LineGives (w.unused ++ d) (drop count w.unused ++ d) (answer_of item (one_after w.used)))
        (sym (known over))
        (subst (λ (n : ℕ). LineGives (w.unused ++ []) (drop n w.unused ++ []) (answer_of item (one_after w.used)))
        (sym all)
        (gives (w.unused ++ []) (drop (length w.unused) w.unused ++ []) w.unused (one_after w.used) item
        (only_line w.unused (omega (arith, all, some)) line) match))

-- a line that is too long
pub long_tells : (w : Window) (count : ℕ) → count ≡ length w.unused → 22 ≤ count → position is_feed w.unused ≡ None
    → IsRightOf Lines w (One None count w.wav)
long_tells w count all many line = (omega (arith, all), record { counted = refl; given = told })
  where
    told : (device : Option (List ℕ)) → IsEndKnown w device
        → IfKnown (left_of w device) (left_of (with_one count w.wav w) device)
        (λ l r. LineGives l r (Err (BadItem (one_after w.used))))
    told None known = tt
    told (Some ds) known =
        let enough : 22 ≤ length w.unused = omega (arith, all, many) in
        let first = begins w.unused ds enough in
        (first.0, first.1, first.2, λ item spells. long_line w.unused ds enough line first.0 first.1 item first.2 spells)

-- ---- samples

-- a number of this many bytes does not depend on those after it
signed_again : (width : ℕ) (us ds : List ℕ) → width ≤ length us
    → signed_value width (us ++ ds) ≡ signed_value width us
signed_again width us ds within = ap (twos_complement width) (little_from-append width us ds within)

-- and so does the item of a sample
pub value_again : (sample : SampleFormat) (us ds : List ℕ) → sample_width sample ≤ length us
    → sample_value sample (us ++ ds) ≡ sample_value sample us
value_again U8 us ds within = ap (λ (n : ℕ). Some (pos n)) (little_from-append 1 us ds within)
value_again S8 us ds within = ap Some (signed_again 1 us ds within)
value_again S16 us ds within = ap Some (signed_again 2 us ds within)
value_again S24 us ds within = ap Some (signed_again 3 us ds within)
value_again S32 us ds within = ap Some (signed_again 4 us ds within)
value_again S64 us ds within = ap Some (signed_again 8 us ds within)
value_again (F32 power) us ds within = ap (float_item power) (little_from-append 4 us ds within)

-- what is told of the first sample of what is left
pub sample_gives : (sample : SampleFormat) (left rest : List ℕ) (item : Option ℤ) (number : ℕ)
    → sample_width sample ≤ length left → rest ≡ drop (sample_width sample) left → sample_value sample left ≡ item
    → SampleGives sample left rest (answer_of item number)
sample_gives sample left rest (Some v) number within past is = (within, is, past)
sample_gives sample left rest None number within past is = (within, is)
