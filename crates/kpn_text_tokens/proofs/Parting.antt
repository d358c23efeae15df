-- White space parts a text: what comes before it is read by itself.
use Rattle.std.proofs.Common.{◌≡◌, ℕ, ◌+◌, ◌≤◌, ⊎_elim, inl, inr, Bool, true, false, not, List, [], ◌∷◌, ◌++◌, length, take, drop, Result, Ok, Err, Option, Some, None, eqb, refl, sym, ap, ◌∙◌, subst, append_assoc, arith, length-append, length-drop}
use Rattle.kpn_text_tokens.proofs.Common.{pointwise, list_all, starts_with, and_from, and_parts, eqb-true, false_from_ne_true, not-true, or_right, true≢false, drop-append-le, take-append-drop, nat_tests, Class, LexFault, Language, Lexeme, Mark, Token, is_white_space, is_in, number_class, cons_lexeme, scan, may_hide, Separates, WhiteSpaceSeparates, followed_by, Stops, EndsBefore, MarkEnds, NotDoubled, BeginsNothing, Reads, done, white, comment, spelled, nothing, bad_number, long_name, quoted, bad_quoted, begins_quote, quoted_length, quoted_value, mark_bytes}
use Rattle.std.specs.Prelude.{◌==◌, nat_eq, codes}
use Rattle.std.proofs.lemmas.List.Folds.{list_all-append}
use Rattle.kpn_text_tokens.specs.declared.lexer.Class.TheVariants as class
use Rattle.kpn_text_tokens.specs.declared.tokens.Language.TheVariants as language
use Rattle.kpn_text_tokens.specs.declared.tokens.Mark.TheVariants as mark
use Rattle.kpn_text_tokens.specs.declared.tokens.Token.TheVariants as token
use Rattle.kpn_text_tokens.proofs.NumeralLaws.{is_quoted, length_before, value_before}
use Rattle.kpn_text_tokens.proofs.Follows.{scan_rules}
use Rattle.kpn_text_tokens.proofs.Tables.{mark_is_solid}
use Rattle.kpn_text_tokens.proofs.TokenLaws.{rules_scan}

-- white space goes on with no word and no number
no_word_byte : (w : ℕ) → is_white_space w ≡ true → is_in class.Word w ≡ false
no_word_byte w e = grind (arith, nat_tests)

no_number_byte : (l : Language) (w : ℕ) → is_white_space w ≡ true → is_in (number_class l) w ≡ false
no_number_byte language.One w e = grind (arith, nat_tests)
no_number_byte language.Two w e = no_word_byte w e

stops_before : (c : Class) (w : ℕ) (rest more : List ℕ) → is_in c w ≡ false → Stops c rest → Stops c (rest ++ w ∷ more)
stops_before c w [] more e stops = e
stops_before c w (b ∷ bs) more e stops = stops

-- a text that begins with solid bytes before white space, begins with them without it
solid_front : (p text : List ℕ) (w : ℕ) (more : List ℕ) → is_white_space w ≡ true
    → list_all (λ b. not (is_white_space b)) p ≡ true → starts_with nat_eq (text ++ w ∷ more) p ≡ true
    → starts_with nat_eq text p ≡ true
solid_front [] text w more e solid starts = refl
solid_front (c ∷ cs) [] w more e solid starts =
    let same = eqb-true c w (and_parts (eqb c w) (pointwise nat_eq cs (take (length cs) more)) starts).0 in
    let parts = and_parts (not (is_white_space c)) (list_all (λ b. not (is_white_space b)) cs) solid in
    let P : ℕ → Type 0 = λ b. is_white_space b ≡ false in
    absurd (true≢false (sym e ∙ subst P same (not-true (is_white_space c) parts.0)))
solid_front (c ∷ cs) (x ∷ xs) w more e solid starts =
    let parts = and_parts (eqb c x) (starts_with nat_eq (xs ++ w ∷ more) cs) starts in
    let rest = and_parts (not (is_white_space c)) (list_all (λ b. not (is_white_space b)) cs) solid in
    and_from (eqb c x) (starts_with nat_eq xs cs) parts.0 (solid_front cs xs w more e rest.1 parts.1)

-- so what a text does not begin with, it does not begin with before white space
not_begun : (p text : List ℕ) (w : ℕ) (more : List ℕ) → is_white_space w ≡ true
    → list_all (λ b. not (is_white_space b)) p ≡ true → starts_with nat_eq text p ≡ false
    → starts_with nat_eq (text ++ w ∷ more) p ≡ false
not_begun p text w more e solid fails =
    false_from_ne_true (starts_with nat_eq (text ++ w ∷ more) p)
    (λ starts. true≢false (sym (solid_front p text w more e solid starts) ∙ fails))

-- nor does it go on with a byte that it did not go on with
not_doubled_before : (l : Language) (byte : List ℕ) (w : ℕ) (rest more : List ℕ) → is_white_space w ≡ true
    → list_all (λ b. not (is_white_space b)) byte ≡ true → NotDoubled l byte rest
    → NotDoubled l byte (rest ++ w ∷ more)
not_doubled_before language.One byte w rest more e solid ends = tt
not_doubled_before language.Two byte w rest more e solid ends = not_begun byte rest w more e solid ends

mark_ends_before : (l : Language) (m : Mark) (w : ℕ) (rest more : List ℕ) → is_white_space w ≡ true → MarkEnds l m rest
    → MarkEnds l m (rest ++ w ∷ more)
mark_ends_before l mark.Assign w rest more e ends = not_begun (codes "=") rest w more e refl ends
mark_ends_before l mark.Less w rest more e ends = (
  not_begun (codes "=") rest w more e refl ends.0,
  not_doubled_before l (codes "<") w rest more e refl ends.1,
)
mark_ends_before l mark.Greater w rest more e ends = (
  not_begun (codes "=") rest w more e refl ends.0,
  not_doubled_before l (codes ">") w rest more e refl ends.1,
)
mark_ends_before l mark.Not w rest more e ends = not_begun (codes "=") rest w more e refl ends
mark_ends_before l mark.BitAnd w rest more e ends = not_doubled_before l (codes "&") w rest more e refl ends
mark_ends_before l mark.BitOr w rest more e ends = not_doubled_before l (codes "|") w rest more e refl ends
mark_ends_before l _ w rest more e ends = tt

ends_before : (l : Language) (t : Token) (w : ℕ) (rest more : List ℕ) → is_white_space w ≡ true → EndsBefore l t rest
    → EndsBefore l t (rest ++ w ∷ more)
ends_before l (token.Name name) w rest more e ends = stops_before class.Word w rest more (no_word_byte w e) ends
ends_before l (token.Number value) w rest more e ends = stops_before (number_class l) w rest more (no_number_byte l w e) ends
ends_before l (token.Mark m) w rest more e ends = mark_ends_before l m w rest more e ends
ends_before l (token.Keyword k) w rest more e ends = stops_before class.Word w rest more (no_word_byte w e) ends

nothing_before : (l : Language) (b : ℕ) (bs : List ℕ) (w : ℕ) (more : List ℕ) → is_white_space w ≡ true
    → BeginsNothing l b bs → BeginsNothing l b (bs ++ w ∷ more)
nothing_before l b bs w more e none = record {
  no_space = none.no_space;
  no_comment = none.no_comment;
  no_word = none.no_word;
  no_number = none.no_number;
  no_quote = none.no_quote;
  no_mark = λ m has. not_begun (mark_bytes m) (b ∷ bs) w more e (mark_is_solid m) (none.no_mark m has);
}

-- what comes further on is parted too
separates_back : (l : Language) (w : ℕ) (front back : List ℕ) → Separates l w (front ++ back) → Separates l w back
separates_back l w front back parts =
    let test : ℕ → Bool = λ b. not (may_hide l b) in (
      parts.0,
      ⊎_elim (λ feed. inl feed) (λ plain. inr (and_parts (list_all test front) (list_all test back)
          (sym (list_all-append test front back) ∙ plain)).1) parts.1,
    )

-- only a line feed ends a comment, and a text without `#` has none
comment_stops_before : (l : Language) (w : ℕ) (said rest more : List ℕ) → Separates l w ((35 ∷ said) ++ rest) → Stops class.Comment rest
    → Stops class.Comment (rest ++ w ∷ more)
comment_stops_before l w said rest more parts stops =
    let Q : ℕ → Type 0 = λ b. is_in class.Comment b ≡ false in
    ⊎_elim (λ feed. stops_before class.Comment w rest more (subst Q (sym feed) refl) stops)
    (λ plain. absurd (let no_hash : false ≡ true = plain in cc)) parts.1

-- and only a line feed can stand behind what a quote begins
feed_behind : (l : Language) (w b : ℕ) (bs : List ℕ) → Separates l w (b ∷ bs) → begins_quote l b ≡ true → w ≡ 10
feed_behind l w b bs parts quote =
    ⊎_elim (λ feed. feed)
    (λ plain. let none = and_parts (not (may_hide l b)) (list_all (λ b. not (may_hide l b)) bs) plain in
    absurd (true≢false (sym (or_right (b == 35) (begins_quote l b) quote) ∙ not-true (may_hide l b) none.0)))
    parts.1

followed_by-nil : (x : Result (List Lexeme) LexFault) → x ≡ followed_by (Ok []) x
followed_by-nil (Ok ls) = refl
followed_by-nil (Err fault) = refl

followed_by-cons : (l : Lexeme) (r x : Result (List Lexeme) LexFault)
    → cons_lexeme l (followed_by r x) ≡ followed_by (cons_lexeme l r) x
followed_by-cons l (Ok front) (Ok ls) = refl
followed_by-cons l (Ok front) (Err fault) = refl
followed_by-cons l (Err fault) x = refl

-- regrouped, a text reads as before
regrouped : {l : Language} {place : ℕ} {r : Result (List Lexeme) LexFault} (front rest more : List ℕ)
    → Reads l place (front ++ (rest ++ more)) r → Reads l place (front ++ rest ++ more) r
regrouped {l} {place} {r} front rest more reads = subst (λ (text : List ℕ). Reads l place text r)
    (sym (append_assoc front rest more)) reads

-- what the rules say of a text that white space parts
parted : {l : Language} {place : ℕ} {before : List ℕ} {r : Result (List Lexeme) LexFault} → Reads l place before r
    → (w q : ℕ) (rest : List ℕ) (x : Result (List Lexeme) LexFault) → Separates l w before → q ≡ place + length before + 1
    → Reads l q rest x → Reads l place (before ++ w ∷ rest) (followed_by r x)
parted {l} {place} done w q rest x parts at more =
    let P : ℕ → Type 0 = λ p. Reads l p rest x in
    let here : Reads l place (w ∷ rest) x = white parts.0 (subst P (omega arith) more) in
    subst (λ (r : Result (List Lexeme) LexFault). Reads l place (w ∷ rest) r) (followed_by-nil x) here
parted {l} (white {b} {rest = back} e tail) w q rest x parts at more =
    white e (parted tail w q rest x (separates_back l w (b ∷ []) back parts) (omega arith) more)
parted {l} (comment said back all stops tail) w q rest x parts at more =
    regrouped (35 ∷ said) back (w ∷ rest) (comment said (back ++ w ∷ rest) all
    (comment_stops_before l w said back rest parts stops)
    (parted tail w q rest x (separates_back l w (35 ∷ said) back parts) (omega (arith, length-append said back))
    more))
parted {l} {place} (spelled t bytes back {r} is ends tail) w q rest x parts at more =
    let first : Lexeme = record { token = t; start = place } in
    subst (λ (r : Result (List Lexeme) LexFault). Reads l place (bytes ++ back ++ w ∷ rest) r)
    (followed_by-cons first r x)
    (regrouped bytes back (w ∷ rest) (spelled t bytes (back ++ w ∷ rest) is (ends_before l t w back rest parts.0 ends)
    (parted tail w q rest x (separates_back l w bytes back parts) (omega (arith, length-append bytes back)) more)))
parted {l} (nothing {b} {bs} none) w q rest x parts at more = nothing (nothing_before l b bs w rest parts.0 none)
parted {l} (bad_number digits back all first stops bad) w q rest x parts at more =
    regrouped digits back (w ∷ rest) (bad_number digits (back ++ w ∷ rest) all first
    (stops_before (number_class l) w back rest (no_number_byte l w parts.0) stops) bad)
parted {l} {place} (quoted {b} {bs} value {r} e is tail) w q rest x parts at more =
    let n : ℕ = quoted_length (b ∷ bs) in
    let within : n ≤ length (b ∷ bs) = (is_quoted (b ∷ bs) value is).within in
    let feed : w ≡ 10 = feed_behind l w b bs parts e in
    let first : Lexeme = record { token = token.Number value; start = place } in
    let text : List ℕ = (b ∷ bs) ++ w ∷ rest in
    let same : quoted_value text ≡ Some value =
    ap (λ v. quoted_value ((b ∷ bs) ++ v ∷ rest)) feed ∙ value_before b bs rest ∙ is in
    let long : quoted_length text ≡ n = ap (λ v. quoted_length ((b ∷ bs) ++ v ∷ rest)) feed ∙ length_before b bs rest in
    let back : Separates l w (drop n (b ∷ bs)) =
    separates_back l w (take n (b ∷ bs)) (drop n (b ∷ bs))
    (subst (λ (l2 : List ℕ). Separates l w l2) (sym (take-append-drop n (b ∷ bs))) parts) in
    let behind : Reads l (place + n) (drop n (b ∷ bs) ++ w ∷ rest) (followed_by r x) =
    parted tail w q rest x back (omega (arith, at, within, length-drop n (b ∷ bs))) more in
    let there : drop n text ≡ drop n (b ∷ bs) ++ w ∷ rest = drop-append-le n (b ∷ bs) (w ∷ rest) within in
    let tail2 : Reads l (place + quoted_length text) (drop (quoted_length text) text) (followed_by r x) =
    subst (λ (m : ℕ). Reads l (place + m) (drop m text) (followed_by r x)) (sym long)
    (subst (λ (t : List ℕ). Reads l (place + n) t (followed_by r x)) (sym there) behind) in
    subst (λ (r : Result (List Lexeme) LexFault). Reads l place text r) (followed_by-cons first r x)
    (quoted value e same tail2)
parted {l} (bad_quoted {b} {bs} e is) w q rest x parts at more =
    let feed : w ≡ 10 = feed_behind l w b bs parts e in
    bad_quoted e (ap (λ v. quoted_value ((b ∷ bs) ++ v ∷ rest)) feed ∙ value_before b bs rest ∙ is)
parted (long_name word back is stops long) w q rest x parts at more =
    regrouped word back (w ∷ rest) (long_name word (back ++ w ∷ rest) is
    (stops_before class.Word w back rest (no_word_byte w parts.0) stops) long)

pub white_space_separates : WhiteSpaceSeparates
white_space_separates l place w before rest parts =
    let q = place + length before + 1 in
    rules_scan (parted (scan_rules l place before) w q rest (scan l 0 q rest) parts refl (scan_rules l q rest))
