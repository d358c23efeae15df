-- What the tables of marks and of reserved words return, entry by entry.
use Rattle.kpn_text_tokens.proofs.Common.{◌≡◌, ℕ, ◌≤◌, Bool, true, false, cond, ◌&&◌, List, [], ◌∷◌, ◌++◌, length, get_or, Option, Some, None, refl, ◌∙◌, lit≤, find, list_all, starts_with, cond_both, cond-false, cond-true, MAX_NAME_BYTES, Keyword, Language, Mark, IsWord, MarkEnds, NotDoubled}
use Rattle.std.specs.Prelude.{nat_eq, codes, not}
use Rattle.kpn_text_tokens.specs.declared.tokens.Keyword.TheVariants as keyword
use Rattle.kpn_text_tokens.specs.declared.tokens.Language.TheVariants as language
use Rattle.kpn_text_tokens.specs.declared.tokens.Mark.TheVariants as mark
use Rattle.kpn_text_tokens.specs.Lexing.{is_white_space, mark_piece, piece_of}
use Rattle.kpn_text_tokens.specs.Spelling.{has_keyword, has_mark, is_two, keyword_bytes, keyword_of, mark_at, mark_bytes, marks}

-- a reserved word is a word
pub keyword_is_word : (k : Keyword) → IsWord (keyword_bytes k)
keyword_is_word keyword.Process = record { begins = refl; goes_on = refl }
keyword_is_word _ = record { begins = refl; goes_on = refl }

-- a reserved word is short
pub keyword_is_short : (k : Keyword) → length (keyword_bytes k) ≤ MAX_NAME_BYTES
keyword_is_short keyword.Process = lit≤ tt
keyword_is_short _ = lit≤ tt

-- a reserved word of a language is found
pub keyword_is_found : (l : Language) (k : Keyword) → has_keyword l k ≡ true → keyword_of l (keyword_bytes k) ≡ Some k
unfolding keyword_of
keyword_is_found l keyword.Language has = cond-true (is_two l) _ _ has
keyword_is_found l keyword.Array has = cond-true (is_two l) _ _ has
keyword_is_found l keyword.Table has = cond-true (is_two l) _ _ has
keyword_is_found l keyword.Const has = cond-true (is_two l) _ _ has
keyword_is_found l keyword.For has = cond-true (is_two l) _ _ has
keyword_is_found l _ has = refl

-- a mark begins with none of the bytes that begin white space, comments, words and numbers
pub mark_is_reached : (l : Language) (m : Mark) (rest : List ℕ)
    → piece_of l (get_or (mark_bytes m ++ rest) 0 0) (mark_bytes m ++ rest) ≡ mark_piece l (mark_bytes m ++ rest)
unfolding piece_of
mark_is_reached l mark.LessOrEqual rest = refl
mark_is_reached l _ rest = refl

-- ---- tests of two parts, of which a language may fail the second

fails : (t h : Bool) → t ≡ false → (t && h) ≡ false
fails true h e = absurd cc
fails false h e = refl

failed : (t : Bool) → (t && true) ≡ false → t ≡ false
failed true e = e
failed false e = refl

fails_if : (t h : Bool) → (h ≡ true → t ≡ false) → (t && h) ≡ false
fails_if true true never = never refl
fails_if true false never = refl
fails_if false h never = refl

failed_if : (t h : Bool) → h ≡ true → (t && h) ≡ false → t ≡ false
failed_if t true has e = failed t e
failed_if t false has e = absurd cc

-- the mark of two such bytes is not there
no_double : (l : Language) (byte rest : List ℕ) → NotDoubled l byte rest
    → (starts_with nat_eq rest byte && is_two l) ≡ false
no_double language.One byte rest ends = fails_if (starts_with nat_eq rest byte) false (λ e. absurd cc)
no_double language.Two byte rest ends = fails (starts_with nat_eq rest byte) true ends

not_doubled : (l : Language) (byte rest : List ℕ) → (starts_with nat_eq rest byte && is_two l) ≡ false
    → NotDoubled l byte rest
not_doubled language.One byte rest e = tt
not_doubled language.Two byte rest e = failed (starts_with nat_eq rest byte) e

-- where language 2 alone has the mark of one such byte
no_double_of_two : (l : Language) (byte rest : List ℕ) → is_two l ≡ true → NotDoubled l byte rest
    → (starts_with nat_eq rest byte && true) ≡ false
no_double_of_two language.One byte rest has ends = absurd cc
no_double_of_two language.Two byte rest has ends = fails (starts_with nat_eq rest byte) true ends

not_doubled_of : (l : Language) (byte rest : List ℕ) → (starts_with nat_eq rest byte && true) ≡ false
    → NotDoubled l byte rest
not_doubled_of language.One byte rest e = tt
not_doubled_of language.Two byte rest e = failed (starts_with nat_eq rest byte) e

-- ---- a mark is found, unless the next byte makes it another one

-- no `=` follows
no_equals : (rest : List ℕ) (longer : Mark) (other : Option Mark) → starts_with nat_eq rest (codes "=") ≡ false
    → cond (starts_with nat_eq rest (codes "=") && true) (Some longer) other ≡ other
no_equals rest longer other ends =
    cond-false (starts_with nat_eq rest (codes "=") && true) (Some longer) other
    (fails (starts_with nat_eq rest (codes "=")) true ends)

pub mark_is_found : (l : Language) (m : Mark) (rest : List ℕ) → has_mark l m ≡ true → MarkEnds l m rest
    → mark_at l (mark_bytes m ++ rest) ≡ Some m
unfolding mark_at
mark_is_found l mark.Assign rest has ends = no_equals rest mark.Equal (Some mark.Assign) ends
mark_is_found l mark.Not rest has ends = no_equals rest mark.NotEqual (Some mark.Not) ends
mark_is_found l mark.Less rest has ends =
    no_equals rest mark.LessOrEqual _ ends.0 ∙ cond-false _ _ _ (no_double l (codes "<") rest ends.1)
mark_is_found l mark.Greater rest has ends =
    no_equals rest mark.GreaterOrEqual _ ends.0 ∙ cond-false _ _ _ (no_double l (codes ">") rest ends.1)
mark_is_found l mark.BitAnd rest has ends =
    cond-false _ _ _ (no_double_of_two l (codes "&") rest has ends) ∙ cond-true (is_two l) _ _ has
mark_is_found l mark.BitOr rest has ends =
    cond-false _ _ _ (no_double_of_two l (codes "|") rest has ends) ∙ cond-true (is_two l) _ _ has
mark_is_found l mark.LeftBracket rest has ends = cond-true (is_two l) _ _ has
mark_is_found l mark.RightBracket rest has ends = cond-true (is_two l) _ _ has
mark_is_found l mark.Question rest has ends = cond-true (is_two l) _ _ has
mark_is_found l mark.Colon rest has ends = cond-true (is_two l) _ _ has
mark_is_found l mark.BitNot rest has ends = cond-true (is_two l) _ _ has
mark_is_found l mark.BitXor rest has ends = cond-true (is_two l) _ _ has
mark_is_found l mark.ShiftLeft rest has ends = cond-true (is_two l) _ _ has
mark_is_found l mark.ShiftRight rest has ends = cond-true (is_two l) _ _ has
mark_is_found l mark.Range rest has ends = cond-true (is_two l) _ _ has
mark_is_found l _ rest has ends = refl

-- ---- a mark that is found is not made another one

-- of two marks the first is not taken
other_mark : (longer m : Mark) (test : Bool) (other : Option Mark) → (longer ≡ m → ⊥)
    → cond test (Some longer) other ≡ Some m → (test ≡ false) × (other ≡ Some m)
other_mark longer m true other differ e = absurd (differ cc)
other_mark longer m false other differ e = (refl, e)

no_equals_follow : (rest : List ℕ) (longer m : Mark) (other : Option Mark) → (longer ≡ m → ⊥)
    → cond (starts_with nat_eq rest (codes "=") && true) (Some longer) other ≡ Some m
    → (starts_with nat_eq rest (codes "=") ≡ false) × (other ≡ Some m)
no_equals_follow rest longer m other differ found =
    let o = other_mark longer m (starts_with nat_eq rest (codes "=") && true) other differ found in
    (failed (starts_with nat_eq rest (codes "=")) o.0, o.1)

pub mark_ends : (l : Language) (m : Mark) (rest : List ℕ) → mark_at l (mark_bytes m ++ rest) ≡ Some m
    → MarkEnds l m rest
unfolding mark_at
mark_ends l mark.Assign rest found = (no_equals_follow rest mark.Equal mark.Assign _ (λ e. cc) found).0
mark_ends l mark.Not rest found = (no_equals_follow rest mark.NotEqual mark.Not _ (λ e. cc) found).0
mark_ends l mark.Less rest found =
    let e = no_equals_follow rest mark.LessOrEqual mark.Less _ (λ e. cc) found in
    (e.0, not_doubled l (codes "<") rest (other_mark mark.ShiftLeft mark.Less _ _ (λ e. cc) e.1).0)
mark_ends l mark.Greater rest found =
    let e = no_equals_follow rest mark.GreaterOrEqual mark.Greater _ (λ e. cc) found in
    (e.0, not_doubled l (codes ">") rest (other_mark mark.ShiftRight mark.Greater _ _ (λ e. cc) e.1).0)
mark_ends l mark.BitAnd rest found =
    not_doubled_of l (codes "&") rest (other_mark mark.And mark.BitAnd _ _ (λ e. cc) found).0
mark_ends l mark.BitOr rest found =
    not_doubled_of l (codes "|") rest (other_mark mark.Or mark.BitOr _ _ (λ e. cc) found).0
mark_ends l _ rest found = tt

-- no white space is in a mark
pub mark_is_solid : (m : Mark) → list_all (λ b. not (is_white_space b)) (mark_bytes m) ≡ true
mark_is_solid mark.LessOrEqual = refl
mark_is_solid _ = refl

-- no element passes
abbrev NonePasses : {X : Type 0} → (X → Bool) → List X → Type 0
NonePasses p [] = Unit {0}
NonePasses p (x ∷ xs) = (p x ≡ false) × NonePasses p xs

none_found : {X : Type 0} (p : X → Bool) (xs : List X) → find p xs ≡ None → NonePasses p xs
none_found p [] e = tt
none_found {X} p (x ∷ xs) e =
    let Q : Option X → Type 0 = λ o. o ≡ None → NonePasses p (x ∷ xs) in
    cond_both (p x) (Some x) (find p xs) Q (λ _ same. cc) (λ fails same. (fails, none_found p xs same)) e

find_none : {X : Type 0} (p : X → Bool) (xs : List X) → ((x : X) → p x ≡ false) → find p xs ≡ None
find_none p [] fails = refl
find_none p (x ∷ xs) fails = cond-false (p x) (Some x) (find p xs) (fails x) ∙ find_none p xs fails

-- if no mark of the table passes, none does
listed : (p : Mark → Bool) → NonePasses p marks → (m : Mark) → p m ≡ false
listed p none mark.LeftParen = none.1.1.1.1.1.1.1.1.0
listed p none mark.RightParen = none.1.1.1.1.1.1.1.1.1.0
listed p none mark.LeftBrace = none.1.1.1.1.1.1.1.1.1.1.0
listed p none mark.RightBrace = none.1.1.1.1.1.1.1.1.1.1.1.0
listed p none mark.Semicolon = none.1.1.1.1.1.1.1.1.1.1.1.1.0
listed p none mark.Comma = none.1.1.1.1.1.1.1.1.1.1.1.1.1.0
listed p none mark.Assign = none.1.1.1.1.1.1.1.1.1.1.1.1.1.1.0
listed p none mark.Plus = none.1.1.1.1.1.1.1.1.1.1.1.1.1.1.1.0
listed p none mark.Minus = none.1.1.1.1.1.1.1.1.1.1.1.1.1.1.1.1.0
listed p none mark.Star = none.1.1.1.1.1.1.1.1.1.1.1.1.1.1.1.1.1.0
listed p none mark.Slash = none.1.1.1.1.1.1.1.1.1.1.1.1.1.1.1.1.1.1.0
listed p none mark.Percent = none.1.1.1.1.1.1.1.1.1.1.1.1.1.1.1.1.1.1.1.0
listed p none mark.Less = none.1.1.1.1.1.1.1.1.1.1.1.1.1.1.1.1.1.1.1.1.0
listed p none mark.LessOrEqual = none.0
listed p none mark.Greater = none.1.1.1.1.1.1.1.1.1.1.1.1.1.1.1.1.1.1.1.1.1.0
listed p none mark.GreaterOrEqual = none.1.0
listed p none mark.Equal = none.1.1.0
listed p none mark.NotEqual = none.1.1.1.0
listed p none mark.And = none.1.1.1.1.0
listed p none mark.Or = none.1.1.1.1.1.0
listed p none mark.Not = none.1.1.1.1.1.1.1.1.1.1.1.1.1.1.1.1.1.1.1.1.1.1.0
listed p none mark.LeftBracket = none.1.1.1.1.1.1.1.1.1.1.1.1.1.1.1.1.1.1.1.1.1.1.1.0
listed p none mark.RightBracket = none.1.1.1.1.1.1.1.1.1.1.1.1.1.1.1.1.1.1.1.1.1.1.1.1.0
listed p none mark.Question = none.1.1.1.1.1.1.1.1.1.1.1.1.1.1.1.1.1.1.1.1.1.1.1.1.1.0
listed p none mark.Colon = none.1.1.1.1.1.1.1.1.1.1.1.1.1.1.1.1.1.1.1.1.1.1.1.1.1.1.0
listed p none mark.BitNot = none.1.1.1.1.1.1.1.1.1.1.1.1.1.1.1.1.1.1.1.1.1.1.1.1.1.1.1.0
listed p none mark.BitAnd = none.1.1.1.1.1.1.1.1.1.1.1.1.1.1.1.1.1.1.1.1.1.1.1.1.1.1.1.1.0
listed p none mark.BitOr = none.1.1.1.1.1.1.1.1.1.1.1.1.1.1.1.1.1.1.1.1.1.1.1.1.1.1.1.1.1.0
listed p none mark.BitXor = none.1.1.1.1.1.1.1.1.1.1.1.1.1.1.1.1.1.1.1.1.1.1.1.1.1.1.1.1.1.1.0
listed p none mark.ShiftLeft = none.1.1.1.1.1.1.0
listed p none mark.ShiftRight = none.1.1.1.1.1.1.1.0
listed p none mark.Range = none.1.1.1.1.1.1.1.1.1.1.1.1.1.1.1.1.1.1.1.1.1.1.1.1.1.1.1.1.1.1.1.0

-- if no mark of a language is found, the text begins with none
pub no_mark_is_found : (l : Language) (text : List ℕ) → mark_at l text ≡ None → (m : Mark) → has_mark l m ≡ true
    → starts_with nat_eq text (mark_bytes m) ≡ false
unfolding mark_at
no_mark_is_found l text e m has =
    let test : Mark → Bool = λ m. starts_with nat_eq text (mark_bytes m) && has_mark l m in
    failed_if (starts_with nat_eq text (mark_bytes m)) (has_mark l m) has (listed test (none_found test marks e) m)

pub no_mark_stands : (l : Language) (text : List ℕ)
    → ((m : Mark) → has_mark l m ≡ true → starts_with nat_eq text (mark_bytes m) ≡ false) → mark_at l text ≡ None
unfolding mark_at
no_mark_stands l text none =
    find_none (λ m. starts_with nat_eq text (mark_bytes m) && has_mark l m) marks
    (λ m. fails_if (starts_with nat_eq text (mark_bytes m)) (has_mark l m) (none m))
