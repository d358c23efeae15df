-- How tight operators bind, and which of them go on behind a left side.
use Rattle.kpn_text_grammar.proofs.Common.{◌≡◌, ℕ, suc, ◌<◌, ◌≤◌, Bool, true, false, cond, ◌&&◌, ◌||◌, nat_le, List, [], ◌∷◌, Option, Some, None, Ok, refl, sym, ap, subst, ◌∙◌, arith, and_from, and_parts, or_parts, leb-true, le-leb, lt-leb, Language, Lexeme, Token, Scope, Op, kinds, is_mark, operator, token_operator, first_is, operator_fits, goes_further}
use Rattle.kpn_text_tokens.specs.declared.tokens.Language.TheVariants as language
use Rattle.kpn_text_tokens.specs.declared.tokens.Token.TheVariants as token
use Rattle.kpn_text_tokens.specs.declared.tokens.Mark.TheVariants as mark_
use Rattle.kpn_lang.specs.declared.syntax.Op.TheVariants as op
use Rattle.kpn_text_grammar.specs.Operators.{operator_mark, operator_of, tightness, left_side, right_side, LOOSEST, OPERAND, loosest}
use Rattle.kpn_text_grammar.proofs.Steps.{IsBetween, first_kind, operator_back}
use Rattle.kpn_text_grammar.proofs.Readers.{begins, an_operator}

pub operator_takes : (s : Scope) (ls : List Lexeme) (o : Op) (rest : List Lexeme) → operator s ls ≡ Ok (o, rest)
    → kinds ls ≡ token.Mark (operator_mark o) ∷ kinds rest
operator_takes s ls o rest h =
    let t = (an_operator {ok = Unit {0}} s).laws.takes ls o rest h in
    t.3 ∙ ap (λ (p : Op). token.Mark (operator_mark p) ∷ kinds rest) t.1

pub operator_stands : (s : Scope) (ls : List Lexeme) (o : Op) (rest : List Lexeme) → operator s ls ≡ Ok (o, rest)
    → IsBetween o
operator_stands s ls o rest h =
    let t = (an_operator {ok = Unit {0}} s).laws.takes ls o rest h in
    subst IsBetween t.1 t.2

-- ---- the table of operators

-- `[` or `(`, which behind a name begins what belongs to it
abbrev pub opens : Token → Bool
opens t = is_mark mark_.LeftBracket t || is_mark mark_.LeftParen t

-- no operator is spelled `?`
pub no_question : (o : Op) → is_mark mark_.Question (token.Mark (operator_mark o)) ≡ false
no_question op.Add = refl
no_question _ = refl

-- no operator is spelled `[` or `(`
no_opening : (o : Op) → opens (token.Mark (operator_mark o)) ≡ false
no_opening op.Add = refl
no_opening _ = refl

pub right_below : (o : Op) → right_side o ≤ OPERAND
right_below op.Add = omega arith
right_below _ = omega arith

pub left_below : (o : Op) → left_side o ≤ OPERAND
left_below op.Add = omega arith
left_below _ = omega arith

pub left_is_tight : (o : Op) → tightness o ≤ left_side o
left_is_tight op.Add = omega arith
left_is_tight _ = omega arith

pub right_is_tighter : (o : Op) → tightness o < right_side o
right_is_tighter op.Add = omega arith
right_is_tighter _ = omega arith

pub is_tight : (o : Op) → LOOSEST ≤ tightness o
is_tight op.Add = omega arith
is_tight _ = omega arith

-- how tight an expression binds
pub some_loosest : (l : Language) → 0 < loosest l
some_loosest language.One = omega arith
some_loosest language.Two = omega arith

pub below_loosest : (l : Language) → loosest l ≤ OPERAND
below_loosest language.One = omega arith
below_loosest language.Two = omega arith

pub below_operand : (o : Op) → tightness o < OPERAND
below_operand op.Add = omega arith
below_operand _ = omega arith

-- ---- the token behind an expression

-- how tight an operator binds; 0 if there is none
abbrev tightness_if : Option Op → ℕ
tightness_if None = 0
tightness_if (Some o) = tightness o

-- the same where `[` and `(` are ones that bind tighter than an operand
abbrev tightness_with : Bool → Option Op → ℕ
tightness_with opened found = cond opened (suc OPERAND) (tightness_if found)

abbrev pub first_tightness : List Token → ℕ
first_tightness [] = 0
first_tightness (t ∷ ts) = tightness_with (opens t) (token_operator t)

pub operator_first : (o : Op) (more : List Token) → IsBetween o
    → first_tightness (token.Mark (operator_mark o) ∷ more) ≡ tightness o
operator_first o more between = ap (λ (b : Bool). tightness_with b (operator_of (operator_mark o))) (no_opening o)
    ∙ ap tightness_if (operator_back o between)

-- no operator is at these marks
pub at_close : (more : List Token) → first_tightness (token.Mark mark_.RightParen ∷ more) ≡ 0
unfolding operator_of
at_close more = refl

pub at_comma : (more : List Token) → first_tightness (token.Mark mark_.Comma ∷ more) ≡ 0
unfolding operator_of
at_comma more = refl

pub at_bracket : (more : List Token) → first_tightness (token.Mark mark_.RightBracket ∷ more) ≡ 0
unfolding operator_of
at_bracket more = refl

pub at_question : (more : List Token) → first_tightness (token.Mark mark_.Question ∷ more) ≡ 0
unfolding operator_of
at_question more = refl

pub at_colon : (more : List Token) → first_tightness (token.Mark mark_.Colon ∷ more) ≡ 0
unfolding operator_of
at_colon more = refl

pub at_semicolon : (more : List Token) → first_tightness (token.Mark mark_.Semicolon ∷ more) ≡ 0
unfolding operator_of
at_semicolon more = refl

pub at_brace : (more : List Token) → first_tightness (token.Mark mark_.LeftBrace ∷ more) ≡ 0
unfolding operator_of
at_brace more = refl

below_operand_if : (found : Option Op) → tightness_if found < OPERAND
below_operand_if None = omega arith
below_operand_if (Some o) = below_operand o

not_opened_if : (b : Bool) (found : Option Op) → tightness_with b found ≤ OPERAND → b ≡ false
not_opened_if true found h = absurd (omega (arith, h))
not_opened_if false found h = refl

-- what does not bind tighter than an operand is no `[` and no `(`, and binds looser
pub not_opened : (more : List Token) → first_tightness more ≤ OPERAND
    → (begins (is_mark mark_.LeftBracket) more ≡ false) × (begins (is_mark mark_.LeftParen) more ≡ false)
not_opened [] h = (refl, refl)
not_opened (t ∷ ts) h = or_parts (is_mark mark_.LeftBracket t) (is_mark mark_.LeftParen t)
    (not_opened_if (opens t) (token_operator t) h)

looser_if : (b : Bool) (found : Option Op) → tightness_with b found ≤ OPERAND → tightness_with b found < OPERAND
looser_if true found h = absurd (omega (arith, h))
looser_if false found h = below_operand_if found

pub looser_first : (more : List Token) → first_tightness more ≤ OPERAND → first_tightness more < OPERAND
looser_first [] h = omega arith
looser_first (t ∷ ts) h = looser_if (opens t) (token_operator t) h

-- an operator binds no tighter than this says
operator_below : (b : Bool) (found : Option Op) → tightness_if found ≤ tightness_with b found
operator_below true found = omega (arith, below_operand_if found)
operator_below false found = omega arith

too_loose : (n bound : ℕ) (found : Option Op) → tightness_if found < n → operator_fits n bound found ≡ false
too_loose n bound None h = refl
too_loose n bound (Some o) h =
    let e : nat_le n (tightness o) ≡ false = lt-leb n (tightness o) h in
    rw e refl

pub stops_first : (n bound : ℕ) (ls : List Lexeme) → first_tightness (kinds ls) < n
    → first_is (goes_further n bound) ls ≡ false
stops_first n bound [] h = refl
stops_first n bound (l ∷ ls) h =
    too_loose n bound (token_operator l.token)
    (omega (arith, h, operator_below (opens l.token) (token_operator l.token)))

mark_fits : (n bound : ℕ) (o : Op) → IsBetween o
    → goes_further n bound (token.Mark (operator_mark o)) ≡ (nat_le n (tightness o) && nat_le (left_side o) bound)
mark_fits n bound o between = ap (operator_fits n bound) (operator_back o between)

-- an operator that goes further is as tight as it has to be, and so is the left side
pub record Fits (n bound : ℕ) (o : Op) : Type 0 where
  pub tight_enough : n ≤ tightness o
  pub left : left_side o ≤ bound
  pub between : IsBetween o

pub fits_of : (n bound : ℕ) (ls : List Lexeme) (o : Op) (more : List Token) → kinds ls ≡ token.Mark (operator_mark o) ∷ more
    → IsBetween o → first_is (goes_further n bound) ls ≡ true → Fits n bound o
fits_of n bound ls o more e between there =
    let test : (nat_le n (tightness o) && nat_le (left_side o) bound) ≡ true =
    sym (mark_fits n bound o between) ∙ sym (first_kind (goes_further n bound) ls (token.Mark (operator_mark o)) more e) ∙ there
    in
    let p = and_parts (nat_le n (tightness o)) (nat_le (left_side o) bound) test in
    record {
      tight_enough = leb-true n (tightness o) p.0;
      left = leb-true (left_side o) bound p.1;
      between = between;
    }

pub goes_of : (n bound : ℕ) (ls : List Lexeme) (o : Op) (more : List Token) → kinds ls ≡ token.Mark (operator_mark o) ∷ more
    → Fits n bound o → first_is (goes_further n bound) ls ≡ true
goes_of n bound ls o more e fits =
    first_kind (goes_further n bound) ls (token.Mark (operator_mark o)) more e ∙ mark_fits n bound o fits.between
    ∙ and_from (nat_le n (tightness o)) (nat_le (left_side o) bound) (le-leb n (tightness o) fits.tight_enough)
    (le-leb (left_side o) bound fits.left)
