-- The line of an event: its kind comes before the first space, it has no line feed, and the event has no other line.
use Rattle.kpn_trace.proofs.Common.{◌≡◌, ℕ, ◌^◌, ◌<◌, List, [], ◌∷◌, ◌++◌, Bool, true, false, Option, Some, None, refl, sym, ap, ◌∙◌, subst, arith, ℤ, FitsSigned, MatchOption, nat_eq, w64, find, bytes_eq, cond_both, decimal, signed_decimal, decimal_injective, Event, Get, Put, WaitEmpty, WaitFull, Ended, Feed, Close, Take, Leave, Grow, Version, One, Two}
use Rattle.std.proofs.lemmas.Slice.Eq.{bytes_eq-Decides}
use Rattle.kpn_history.specs.declared.event.How.{How}
use Rattle.kpn_history.specs.declared.event.How.TheVariants as how
use Rattle.kpn_trace.specs.declared.kind.Kind.{Kind}
use Rattle.kpn_trace.specs.declared.kind.Kind.TheVariants as kind
use Rattle.kpn_trace.specs.EventLine.{kind_word, every_kind, kind_named, how_word, event_kind, arguments_of, spaced, line_of, LacksByte, IsInRange, SpellsEvent}
use Rattle.kpn_trace.proofs.Parting.{cut, LacksByte-append, decimal_lacks, item_lacks, front, same_number, same_item}

-- ---- kinds and endings

kind_is_named : (k : Kind) → kind_named (kind_word k) ≡ Some k
unfolding kind_named
kind_is_named kind.Get = refl
kind_is_named kind.Put = refl
kind_is_named kind.WaitEmpty = refl
kind_is_named kind.WaitFull = refl
kind_is_named kind.Ended = refl
kind_is_named kind.Feed = refl
kind_is_named kind.Close = refl
kind_is_named kind.Take = refl
kind_is_named kind.Leave = refl
kind_is_named kind.Grow = refl

same_kind : (j k : Kind) → kind_word j ≡ kind_word k → j ≡ k
same_kind j k e =
    let named : Some j ≡ Some k = sym (kind_is_named j) ∙ ap kind_named e ∙ kind_is_named k in
    cc

-- what a search finds passes its test
find_passes : {X : Type 0} (p : X → Bool) (xs : List X) (x : X) → find p xs ≡ Some x → p x ≡ true
find_passes p [] x found = cc
find_passes {X} p (y ∷ ys) x found =
    let Q : Option X → Type 0 = λ o. o ≡ Some x → p x ≡ true in
    cond_both (p y) (Some y) (find p ys) Q (λ passes same. let e : y ≡ x = cc in ap p (sym e) ∙ passes)
    (λ _ same. find_passes p ys x same) found

-- the word that names a kind is its word
word_of_kind : (word : List ℕ) (k : Kind) → kind_named word ≡ Some k → kind_word k ≡ word
unfolding kind_named
word_of_kind word k known =
    (bytes_eq-Decides (kind_word k) word).0 (find_passes (λ j. bytes_eq (kind_word j) word) every_kind k known)

-- no word of a kind has a space or a line feed
kind_lacks : (k : Kind) → LacksByte 32 (kind_word k) × LacksByte 10 (kind_word k)
kind_lacks kind.Get = (refl, refl)
kind_lacks kind.Put = (refl, refl)
kind_lacks kind.WaitEmpty = (refl, refl)
kind_lacks kind.WaitFull = (refl, refl)
kind_lacks kind.Ended = (refl, refl)
kind_lacks kind.Feed = (refl, refl)
kind_lacks kind.Close = (refl, refl)
kind_lacks kind.Take = (refl, refl)
kind_lacks kind.Leave = (refl, refl)
kind_lacks kind.Grow = (refl, refl)

how_lacks_feed : (how : How) → LacksByte 10 (how_word how)
how_lacks_feed how.Done = refl
how_lacks_feed how.Overflow = refl
how_lacks_feed how.ZeroDivisor = refl
how_lacks_feed how.Index = refl
how_lacks_feed how.Shift = refl

-- `index` and `shift` are as long as one another, and differ in their first byte
abbrev begins_as_index : List ℕ → Bool
begins_as_index [] = false
begins_as_index (x ∷ xs) = nat_eq x 105

differs : {a b : How} → true ≡ false → a ≡ b
differs e = absurd (cc)

same_how : (a b : How) → how_word a ≡ how_word b → a ≡ b
same_how how.Done how.Done e = refl
same_how how.Overflow how.Overflow e = refl
same_how how.ZeroDivisor how.ZeroDivisor e = refl
same_how how.Index how.Index e = refl
same_how how.Shift how.Shift e = refl
same_how how.Index how.Shift e = differs (ap begins_as_index e)
same_how how.Shift how.Index e = differs (sym (ap begins_as_index e))
same_how a b e = absurd (cc)

-- ---- a line is its kind, a space, and its parts

line_is : (n : Version) (event : Event)
    → line_of n event ≡ kind_word (event_kind event) ++ 32 ∷ spaced (arguments_of n event)
line_is n (Get p c v) = refl
line_is n (Put p c v) = refl
line_is n (WaitEmpty p c) = refl
line_is n (WaitFull p c) = refl
line_is n (Ended p how) = refl
line_is n (Feed c v) = refl
line_is n (Close c) = refl
line_is n (Take c v) = refl
line_is n (Leave c) = refl
line_is One (Grow p c m) = refl
line_is Two (Grow p c m) = refl

-- the kind and the parts of the event that a line spells, if the line has this first word
pub kind_and_parts : (n : Version) (line word parts : List ℕ) (event : Event) → line ≡ word ++ 32 ∷ parts
    → LacksByte 32 word
    → SpellsEvent n line event → (kind_word (event_kind event) ≡ word) × (parts ≡ spaced (arguments_of n event))
kind_and_parts n line word parts event split lacks spells =
    let both =
    cut 32 (kind_word (event_kind event)) word (spaced (arguments_of n event)) parts (kind_lacks (event_kind event)).0 lacks
    (sym (line_is n event) ∙ sym spells.whole ∙ split) in
    (both.0, sym both.1)

-- a line whose first word is no kind spells nothing
pub no_kind : (n : Version) (line word parts : List ℕ) (event : Event) → line ≡ word ++ 32 ∷ parts → LacksByte 32 word
    → kind_named word ≡ None → SpellsEvent n line event → ⊥
no_kind n line word parts event split lacks unknown spells =
    let found = kind_and_parts n line word parts event split lacks spells in
    let clash : Some (event_kind event) ≡ None =
    sym (kind_is_named (event_kind event)) ∙ ap kind_named found.0 ∙ unknown in
    cc

-- a line spells an event of the kind that its first word names
pub of_kind : (n : Version) (line word parts : List ℕ) (k : Kind) (event : Event) → line ≡ word ++ 32 ∷ parts
    → LacksByte 32 word
    → kind_named word ≡ Some k → SpellsEvent n line event
    → (event_kind event ≡ k) × (parts ≡ spaced (arguments_of n event))
of_kind n line word parts k event split lacks known spells =
    let found = kind_and_parts n line word parts event split lacks spells in
    let same : Some (event_kind event) ≡ Some k =
    sym (kind_is_named (event_kind event)) ∙ ap kind_named found.0 ∙ known in
    (cc, found.1)

-- what the parts spell as an event of the kind, the line spells
pub read_of_kind : (n : Version) (line word parts : List ℕ) (k : Kind) (read : Option Event) → line ≡ word ++ 32 ∷ parts
    → LacksByte 32 word → kind_named word ≡ Some k
    → MatchOption read
    ((event : Event) → IsInRange n event → event_kind event ≡ k → parts ≡ spaced (arguments_of n event) → ⊥)
    (λ event. IsInRange n event × (event_kind event ≡ k) × (parts ≡ spaced (arguments_of n event)))
    → MatchOption read ((event : Event) → SpellsEvent n line event → ⊥) (SpellsEvent n line)
read_of_kind n line word parts k None split lacks known none =
    λ event spells.
    let found = of_kind n line word parts k event split lacks known spells in
    none event spells.in_range found.0 found.1
read_of_kind n line word parts k (Some event) split lacks known is = record {
  whole = split ∙ ap (λ w. w ++ 32 ∷ parts) (sym (word_of_kind word k known))
      ∙ ap (λ j. kind_word j ++ 32 ∷ parts) (sym is.1)
      ∙ ap (λ p. kind_word (event_kind event) ++ 32 ∷ p) is.2 ∙ sym (line_is n event);
  in_range = is.0;
}

-- ---- one event for each line

two_numbers : (p c q d : ℕ) → (p < 2 ^ 16) × (c < 2 ^ 16) → (q < 2 ^ 16) × (d < 2 ^ 16)
    → spaced (decimal p ∷ decimal c ∷ []) ≡ spaced (decimal q ∷ decimal d ∷ []) → (p ≡ q) × (c ≡ d)
two_numbers p c q d fits also e =
    let first = front p q _ _ fits.0 also.0 e in (first.0, same_number c d fits.1 also.1 first.1)

number_and_item : (c d : ℕ) (v w : ℤ) → (c < 2 ^ 16) × FitsSigned w64 v → (d < 2 ^ 16) × FitsSigned w64 w
    → spaced (decimal c ∷ signed_decimal v ∷ []) ≡ spaced (decimal d ∷ signed_decimal w ∷ []) → (c ≡ d) × (v ≡ w)
number_and_item c d v w fits also e =
    let first = front c d _ _ fits.0 also.0 e in (first.0, same_item v w fits.1 also.1 first.1)

two_numbers_and_item : (p c q d : ℕ) (v w : ℤ) → (p < 2 ^ 16) × (c < 2 ^ 16) × FitsSigned w64 v
    → (q < 2 ^ 16) × (d < 2 ^ 16) × FitsSigned w64 w
    → spaced (decimal p ∷ decimal c ∷ signed_decimal v ∷ []) ≡ spaced (decimal q ∷ decimal d ∷ signed_decimal w ∷ [])
    → (p ≡ q) × (c ≡ d) × (v ≡ w)
two_numbers_and_item p c q d v w fits also e =
    let first = front p q _ _ fits.0 also.0 e in
    let rest = number_and_item c d v w (fits.1, fits.2) (also.1, also.2) first.1 in (first.0, rest.0, rest.1)

same_parts : (n : Version) (a b : Event) → event_kind a ≡ event_kind b → IsInRange n a → IsInRange n b
    → spaced (arguments_of n a) ≡ spaced (arguments_of n b) → a ≡ b
same_parts n (Get p c v) (Get q d w) k fits also e =
    let same = two_numbers_and_item p c q d v w fits also e in cc (same.0, same.1, same.2)
same_parts n (Put p c v) (Put q d w) k fits also e =
    let same = two_numbers_and_item p c q d v w fits also e in cc (same.0, same.1, same.2)
same_parts n (WaitEmpty p c) (WaitEmpty q d) k fits also e =
    let same = two_numbers p c q d fits also e in cc (same.0, same.1)
same_parts n (WaitFull p c) (WaitFull q d) k fits also e =
    let same = two_numbers p c q d fits also e in cc (same.0, same.1)
same_parts n (Ended p how) (Ended q other) k fits also e =
    let first = front p q _ _ fits also e in
    cc (first.0, same_how how other first.1)
same_parts n (Feed c v) (Feed d w) k fits also e =
    let same = number_and_item c d v w fits also e in cc (same.0, same.1)
same_parts n (Close c) (Close d) k fits also e = cc (same_number c d fits also e)
same_parts n (Take c v) (Take d w) k fits also e =
    let same = number_and_item c d v w fits also e in cc (same.0, same.1)
same_parts n (Leave c) (Leave d) k fits also e = cc (same_number c d fits also e)
same_parts One (Grow p c m) (Grow q d o) k fits also e =
    let same = two_numbers p c q d (fits.0, fits.1) (also.0, also.1) e in
    let told : m ≡ o = fits.2 ∙ sym also.2 in
    cc (same.0, same.1, told)
same_parts Two (Grow p c m) (Grow q d o) k fits also e =
    let first = front p q _ _ fits.0 also.0 e in
    let second = front c d _ _ fits.1 also.1 first.1 in
    let least = fits.2.1 in
    let most = also.2.1 in
    let told = decimal_injective m o (omega arith) (omega arith) second.1 in
    cc (first.0, second.0, told)
same_parts n a b k fits also e = absurd (cc)

pub line_spells_one : (n : Version) (line : List ℕ) (a b : Event) → SpellsEvent n line a → SpellsEvent n line b → a ≡ b
line_spells_one n line a b spells also =
    let found =
    kind_and_parts n line (kind_word (event_kind b)) (spaced (arguments_of n b)) a (also.whole ∙ line_is n b)
    (kind_lacks (event_kind b)).0 spells in
    same_parts n a b (same_kind (event_kind a) (event_kind b) found.0) spells.in_range also.in_range (sym found.1)

-- ---- no line feed is in a line

with_space : (xs ys : List ℕ) → LacksByte 10 xs → LacksByte 10 ys → LacksByte 10 (xs ++ 32 ∷ ys)
with_space xs ys lacks also = LacksByte-append 10 xs (32 ∷ ys) lacks also

number_lacks : (n : ℕ) → n < 2 ^ 16 → LacksByte 10 (decimal n)
number_lacks n small = decimal_lacks 10 n (omega arith) (omega arith)

value_lacks : (item : ℤ) → FitsSigned w64 item → LacksByte 10 (signed_decimal item)
value_lacks item fits = item_lacks 10 item (omega arith) fits

parts_lack : (n : Version) (event : Event) → IsInRange n event → LacksByte 10 (spaced (arguments_of n event))
parts_lack n (Get p c v) fits =
    with_space (decimal p) _ (number_lacks p fits.0)
    (with_space (decimal c) _ (number_lacks c fits.1) (value_lacks v fits.2))
parts_lack n (Put p c v) fits =
    with_space (decimal p) _ (number_lacks p fits.0)
    (with_space (decimal c) _ (number_lacks c fits.1) (value_lacks v fits.2))
parts_lack n (WaitEmpty p c) fits = with_space (decimal p) _ (number_lacks p fits.0) (number_lacks c fits.1)
parts_lack n (WaitFull p c) fits = with_space (decimal p) _ (number_lacks p fits.0) (number_lacks c fits.1)
parts_lack n (Ended p how) fits = with_space (decimal p) _ (number_lacks p fits) (how_lacks_feed how)
parts_lack n (Feed c v) fits = with_space (decimal c) _ (number_lacks c fits.0) (value_lacks v fits.1)
parts_lack n (Close c) fits = number_lacks c fits
parts_lack n (Take c v) fits = with_space (decimal c) _ (number_lacks c fits.0) (value_lacks v fits.1)
parts_lack n (Leave c) fits = number_lacks c fits
parts_lack One (Grow p c m) fits = with_space (decimal p) _ (number_lacks p fits.0) (number_lacks c fits.1)
parts_lack Two (Grow p c m) fits =
    let most = fits.2.1 in
    with_space (decimal p) _ (number_lacks p fits.0)
    (with_space (decimal c) _ (number_lacks c fits.1) (decimal_lacks 10 m (omega arith) (omega arith)))

pub line_lacks_feed : (n : Version) (event : Event) → IsInRange n event → LacksByte 10 (line_of n event)
line_lacks_feed n event fits =
    subst (λ l. LacksByte 10 l) (sym (line_is n event))
    (with_space (kind_word (event_kind event)) _ (kind_lacks (event_kind event)).1 (parts_lack n event fits))
