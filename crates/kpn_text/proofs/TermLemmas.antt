-- How a printed expression is read.
use Rattle.kpn_text.proofs.Common.{◌≡◌, ℕ, ◌<◌, ◌^◌, Bool, true, false, ◌&&◌, if◌then◌else◌, nat_le, List, [], ◌∷◌, ◌++◌, codes, length, refl, arith, is_ascii_digit, decimal, list_all, starts_with, nat_eq, and_parts, nat_tests, Language, Token, begins_name, IsName, MarkEnds, has_mark, mark_bytes, decimal_spelled, NameBytes, ExpressionNode, numeral, variable, element, minus, negation, complement, binary, conditional, operator_mark, operator_name, by_name, HasOperator, stands_between, is_called, tightness, left_side, right_side, LOOSEST, OPERAND, spell_term, spell_tight, spell_expression, EndsWord, HasBrackets, IsProperTerm, needs_no_parentheses, open_text, close_text, term_text, whole_text}
use Rattle.kpn_text_tokens.specs.declared.tokens.Language.TheVariants as language
use Rattle.kpn_text_tokens.specs.declared.tokens.Mark.TheVariants as mark
use Rattle.kpn_text_tokens.specs.declared.tokens.Token.TheVariants as token
use Rattle.kpn_lang.specs.declared.syntax.Op.{Op}
use Rattle.kpn_lang.specs.declared.syntax.Op.TheVariants as operator
use Rattle.kpn_text.proofs.TokenLemmas.{IsReadAs, name_read, number_read, mark_read, space_read}

-- a space comes after each operator
operator_ends : (l : Language) (op : Op) (more : List ℕ) → MarkEnds l (operator_mark op) (codes " " ++ more)
operator_ends l operator.Add more = tt
operator_ends l operator.Sub more = tt
operator_ends l operator.Mul more = tt
operator_ends l operator.Div more = tt
operator_ends l operator.Rem more = tt
operator_ends language.One operator.Lt more = (refl, tt)
operator_ends language.Two operator.Lt more = (refl, refl)
operator_ends l operator.Le more = tt
operator_ends language.One operator.Gt more = (refl, tt)
operator_ends language.Two operator.Gt more = (refl, refl)
operator_ends l operator.Ge more = tt
operator_ends l operator.Eq more = tt
operator_ends l operator.Ne more = tt
operator_ends l operator.And more = tt
operator_ends l operator.Or more = tt
operator_ends language.One operator.BitAnd more = tt
operator_ends language.Two operator.BitAnd more = refl
operator_ends language.One operator.BitOr more = tt
operator_ends language.Two operator.BitOr more = refl
operator_ends l operator.BitXor more = tt
operator_ends l operator.Shl more = tt
operator_ends l operator.Shr more = tt
operator_ends l operator.Min more = tt
operator_ends l operator.Max more = tt

-- an operator with a space on each side
operator_read : {l : Language} (op : Op) (more : List ℕ) (tokens : List Token) → has_mark l (operator_mark op) ≡ true
    → IsReadAs l more tokens
    → IsReadAs l (codes " " ++ (mark_bytes (operator_mark op) ++ (codes " " ++ more)))
    (token.Mark (operator_mark op) ∷ tokens)
operator_read {l} op more tokens has h =
    space_read (mark_bytes (operator_mark op) ++ (codes " " ++ more)) (token.Mark (operator_mark op) ∷ tokens)
    (mark_read (operator_mark op) (codes " " ++ more) tokens has (operator_ends l op more) (space_read more tokens h))

-- no word and no number begins with `=`
word_byte : (b : ℕ) → begins_name b ≡ true → (nat_eq 61 b && true) ≡ false
word_byte b is = grind (arith, nat_tests)

digit_byte : (b : ℕ) → is_ascii_digit b ≡ true → (nat_eq 61 b && true) ≡ false
digit_byte b is = grind (arith, nat_tests)

name_no_equals : (l : Language) (x more : List ℕ) → IsName l x → starts_with nat_eq (x ++ more) (codes "=") ≡ false
name_no_equals l [] more is = absurd (let no = is.word.begins in cc)
name_no_equals l (b ∷ bs) more is = word_byte b is.word.begins

digits_no_equals : (ds more : List ℕ) → list_all is_ascii_digit ds ≡ true → 0 < length ds
    → starts_with nat_eq (ds ++ more) (codes "=") ≡ false
digits_no_equals [] more all some = absurd (omega arith)
digits_no_equals (d ∷ ds) more all some =
    digit_byte d (and_parts (is_ascii_digit d) (list_all is_ascii_digit ds) all).0

number_no_equals : (l : Language) (n : ℕ) (more : List ℕ) → n < 2 ^ 63
    → starts_with nat_eq (decimal n ++ more) (codes "=") ≡ false
number_no_equals l n more small =
    let is = decimal_spelled language.One n small in
    digits_no_equals (decimal n) more is.digits is.some

-- a text or tokens by the name of an operator that the language has
by_operator : {A : Type 0} (l : Language) (op : Op) → HasOperator l op → (P : A → Type 0) (calls : NameBytes → A) (bare : A)
    → ((x : NameBytes) → l ≡ language.Two → IsName l x → P (calls x))
    → (has_mark l (operator_mark op) ≡ true → P bare) → P (by_name (operator_name op) calls bare)
by_operator l op (is_called {x = x} two named name) P calls bare f g = rw named (f x two name)
by_operator l op (stands_between none has) P calls bare f g = rw none (g has)

-- both
by_both : {A B : Type 0} (l : Language) (op : Op) → HasOperator l op → (P : A → B → Type 0) (calls : NameBytes → A)
    (bare : A) (spelled : NameBytes → B) (plain : B) → ((x : NameBytes) → IsName l x → P (calls x) (spelled x))
    → (has_mark l (operator_mark op) ≡ true → P bare plain)
    → P (by_name (operator_name op) calls bare) (by_name (operator_name op) spelled plain)
by_both l op (is_called {x = x} two named name) P calls bare spelled plain f g = rw named (f x name)
by_both l op (stands_between none has) P calls bare spelled plain f g = rw none (g has)

-- so no expression does
open_no_equals : (free : Bool) (text : List ℕ) → starts_with nat_eq text (codes "=") ≡ false
    → starts_with nat_eq (open_text free text) (codes "=") ≡ false
open_no_equals true text h = h
open_no_equals false text h = refl

term_no_equals : (l : Language) (n : ℕ) (e : ExpressionNode) (more : List ℕ) → IsProperTerm l e
    → starts_with nat_eq (term_text l n e more) (codes "=") ≡ false
term_no_equals l n (numeral k) more is = number_no_equals l k more is
term_no_equals l n (variable x) more is = name_no_equals l x more is
term_no_equals l n (element x e) more is = name_no_equals l x _ is.0
term_no_equals l n (minus e) more is = refl
term_no_equals l n (negation e) more is = refl
term_no_equals l n (complement e) more is = refl
term_no_equals l n (binary op a b) more is =
    by_operator l op is.0 (λ (text : List ℕ). starts_with nat_eq text (codes "=") ≡ false) _ _
    (λ x two name. name_no_equals l x _ name)
    (λ has. open_no_equals (needs_no_parentheses l n op) _ (term_no_equals l (left_side op) a _ is.1))
term_no_equals l n (conditional e a b) more is = refl

-- a text that is read as tokens, whatever follows it but a letter, a digit or `_`
abbrev IsRead : Language → (List ℕ → List ℕ) → (List Token → List Token) → Type 0
IsRead l text spell =
    (more : List ℕ) (tokens : List Token) → EndsWord more → IsReadAs l more tokens
    → IsReadAs l (text more) (spell tokens)

closed_read : {l : Language} (more : List ℕ) (tokens : List Token) → IsReadAs l more tokens
    → IsReadAs l (codes ")" ++ more) (token.Mark mark.RightParen ∷ tokens)
closed_read more tokens h = mark_read mark.RightParen more tokens refl tt h

-- the forms with parts
negation_read : {l : Language} (n : ℕ) (e : ExpressionNode) (spell : List Token → List Token) → IsProperTerm l e
    → IsRead l (λ more. term_text l n e more) spell
    → IsRead l (λ more. codes "!" ++ term_text l n e more) (λ tokens. token.Mark mark.Not ∷ spell tokens)
negation_read {l} n e spell is inner more tokens ends h =
    mark_read mark.Not (term_text l n e more) _ refl (term_no_equals l n e more is) (inner more tokens ends h)

element_read : {l : Language} (x : NameBytes) (text : List ℕ → List ℕ) (spell : List Token → List Token) → IsName l x
    → HasBrackets l → IsRead l text spell
    → IsRead l (λ more. x ++ (codes "[" ++ text (codes "]" ++ more)))
    (λ tokens. token.Name x ∷ token.Mark mark.LeftBracket ∷ spell (token.Mark mark.RightBracket ∷ tokens))
element_read x text spell name has inner more tokens ends h =
    let shut = mark_read mark.RightBracket more tokens has.right tt h in
    name_read x _ _ name refl
    (mark_read mark.LeftBracket (text (codes "]" ++ more)) _ has.left tt (inner _ _ refl shut))

sides_read : {l : Language} (op : Op) (left right : List ℕ → List ℕ) (first second : List Token → List Token)
    → has_mark l (operator_mark op) ≡ true → IsRead l left first → IsRead l right second
    → IsRead l (λ more. left (codes " " ++ (mark_bytes (operator_mark op) ++ (codes " " ++ right more))))
    (λ tokens. first (token.Mark (operator_mark op) ∷ second tokens))
sides_read op left right first second has a b more tokens ends h =
    a _ _ refl (operator_read op (right more) (second tokens) has (b more tokens ends h))

enclosed_read : {l : Language} (text : List ℕ → List ℕ) (spell : List Token → List Token) → IsRead l text spell
    → IsRead l (λ more. codes "(" ++ text (codes ")" ++ more))
    (λ tokens. token.Mark mark.LeftParen ∷ spell (token.Mark mark.RightParen ∷ tokens))
enclosed_read text spell inner more tokens ends h =
    mark_read mark.LeftParen _ _ refl tt (inner _ _ refl (closed_read more tokens h))

free_read : {l : Language} (free : Bool) (text : List ℕ → List ℕ) (spell : List Token → List Token)
    → IsRead l text spell
    → IsRead l (λ more. open_text free (text (close_text free more)))
    (λ tokens. if free
    then spell tokens
    else (token.Mark mark.LeftParen ∷ spell (token.Mark mark.RightParen ∷ tokens)))
free_read true text spell inner = inner
free_read false text spell inner = enclosed_read text spell inner

choice_read : {l : Language} (test first second : List ℕ → List ℕ) (c a b : List Token → List Token)
    → has_mark l mark.Question ≡ true → has_mark l mark.Colon ≡ true → IsRead l test c → IsRead l first a
    → IsRead l second b
    → IsRead l (λ more. codes "(" ++ test (codes " ? " ++ first (codes " : " ++ second (codes ")" ++ more))))
    (λ tokens. token.Mark mark.LeftParen ∷ c (token.Mark mark.Question ∷ a (token.Mark mark.Colon
    ∷ b (token.Mark mark.RightParen ∷ tokens))))
choice_read test first second c a b question colon is_c is_a is_b more tokens ends h =
    let last = is_b (codes ")" ++ more) _ refl (closed_read more tokens h) in
    let between =
    space_read _ _ (mark_read mark.Colon (codes " " ++ second (codes ")" ++ more)) _ colon tt (space_read _ _ last)) in
    let middle = is_a (codes " : " ++ second (codes ")" ++ more)) _ refl between in
    let mark_of_test =
    space_read _ _
    (mark_read mark.Question (codes " " ++ first (codes " : " ++ second (codes ")" ++ more))) _ question tt
    (space_read _ _ middle)) in
    mark_read mark.LeftParen _ _ refl tt (is_c _ _ refl mark_of_test)

call_read : {l : Language} (x : NameBytes) (left right : List ℕ → List ℕ) (first second : List Token → List Token)
    → IsName l x → IsRead l left first → IsRead l right second
    → IsRead l (λ more. x ++ (codes "(" ++ left (codes ", " ++ right (codes ")" ++ more))))
    (λ tokens. token.Name x ∷ token.Mark mark.LeftParen ∷ first (token.Mark mark.Comma
    ∷ second (token.Mark mark.RightParen ∷ tokens)))
call_read x left right first second name a b more tokens ends h =
    let last = b (codes ")" ++ more) _ refl (closed_read more tokens h) in
    let comma = mark_read mark.Comma (codes " " ++ right (codes ")" ++ more)) _ refl tt (space_read _ _ last) in
    name_read x _ _ name refl (mark_read mark.LeftParen _ _ refl tt (a _ _ refl comma))

-- in language 1
term_read : (n : ℕ) (e : ExpressionNode) → IsProperTerm language.One e
    → IsRead language.One (λ more. term_text language.One n e more) (λ tokens. spell_term e tokens)
term_read n (numeral k) is more tokens ends h = number_read k more tokens is ends h
term_read n (variable x) is more tokens ends h = name_read x more tokens is ends h
term_read n (element x e) is more tokens ends h =
    element_read x _ (λ tokens. spell_term e tokens) is.0 is.1 (term_read LOOSEST e is.2) more tokens ends h
term_read n (minus e) is more tokens ends h =
    mark_read mark.Minus (term_text language.One OPERAND e more) _ refl tt (term_read OPERAND e is more tokens ends h)
term_read n (negation e) is more tokens ends h =
    negation_read OPERAND e (λ tokens. spell_term e tokens) is (term_read OPERAND e is) more tokens ends h
term_read n (complement e) is more tokens ends h =
    mark_read mark.BitNot (term_text language.One OPERAND e more) _ is.0 tt
    (term_read OPERAND e is.1 more tokens ends h)
term_read n (binary op a b) is more tokens ends h =
    by_operator language.One op is.0
    (λ (text : List ℕ). IsReadAs language.One text (spell_term (binary op a b) tokens)) _ _
    (λ x two name. let no : language.One ≡ language.Two = two in absurd cc)
    (λ has. enclosed_read _ _
    (sides_read op _ _ (λ tokens. spell_term a tokens) (λ tokens. spell_term b tokens) has
    (term_read (left_side op) a is.1) (term_read (right_side op) b is.2)) more tokens ends h)
term_read n (conditional e a b) is more tokens ends h =
    choice_read _ _ _ (λ tokens. spell_term e tokens) (λ tokens. spell_term a tokens) (λ tokens. spell_term b tokens)
    is.0 is.1 (term_read LOOSEST e is.2) (term_read LOOSEST a is.3) (term_read LOOSEST b is.4)
    more tokens ends h

-- in language 2
tight_read : (n : ℕ) (e : ExpressionNode) → IsProperTerm language.Two e
    → IsRead language.Two (λ more. term_text language.Two n e more) (λ tokens. spell_tight n e tokens)
tight_read n (numeral k) is more tokens ends h = number_read k more tokens is ends h
tight_read n (variable x) is more tokens ends h = name_read x more tokens is ends h
tight_read n (element x e) is more tokens ends h =
    element_read x _ (λ tokens. spell_tight LOOSEST e tokens) is.0 is.1 (tight_read LOOSEST e is.2) more tokens ends h
tight_read n (minus e) is more tokens ends h =
    mark_read mark.Minus (term_text language.Two OPERAND e more) _ refl tt (tight_read OPERAND e is more tokens ends h)
tight_read n (negation e) is more tokens ends h =
    negation_read OPERAND e (λ tokens. spell_tight OPERAND e tokens) is (tight_read OPERAND e is)
    more tokens ends h
tight_read n (complement e) is more tokens ends h =
    mark_read mark.BitNot (term_text language.Two OPERAND e more) _ is.0 tt
    (tight_read OPERAND e is.1 more tokens ends h)
tight_read n (binary op a b) is more tokens ends h =
    by_both language.Two op is.0 (λ (text : List ℕ) (ts : List Token). IsReadAs language.Two text ts) _ _ _ _
    (λ x name. call_read x _ _ (λ tokens. spell_tight LOOSEST a tokens) (λ tokens. spell_tight LOOSEST b tokens) name
    (tight_read LOOSEST a is.1) (tight_read LOOSEST b is.2) more tokens ends h)
    (λ has. free_read (nat_le n (tightness op)) _ _
    (sides_read op _ _ (λ tokens. spell_tight (left_side op) a tokens)
    (λ tokens. spell_tight (right_side op) b tokens) has (tight_read (left_side op) a is.1)
    (tight_read (right_side op) b is.2)) more tokens ends h)
tight_read n (conditional e a b) is more tokens ends h =
    choice_read _ _ _ (λ tokens. spell_tight LOOSEST e tokens) (λ tokens. spell_tight LOOSEST a tokens)
    (λ tokens. spell_tight LOOSEST b tokens) is.0 is.1 (tight_read LOOSEST e is.2) (tight_read LOOSEST a is.3)
    (tight_read LOOSEST b is.4) more tokens ends h

read_in : (l : Language) (e : ExpressionNode) (more : List ℕ) (tokens : List Token) → IsProperTerm l e → EndsWord more
    → IsReadAs l more tokens → IsReadAs l (whole_text l e more) (spell_expression l e tokens)
read_in language.One e more tokens is ends h = term_read LOOSEST e is more tokens ends h
read_in language.Two e more tokens is ends h = tight_read LOOSEST e is more tokens ends h

pub whole_read : {l : Language} (e : ExpressionNode) (more : List ℕ) (tokens : List Token) → IsProperTerm l e → EndsWord more
    → IsReadAs l more tokens → IsReadAs l (whole_text l e more) (spell_expression l e tokens)
whole_read {l} e more tokens is ends h = read_in l e more tokens is ends h
