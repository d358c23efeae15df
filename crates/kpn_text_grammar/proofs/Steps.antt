-- Steps of reading: what a chain of steps returns, and the laws of the parsers of one token.
use Rattle.kpn_text_grammar.proofs.Common.{◌≡◌, ℕ, Bool, true, false, cond, List, [], ◌∷◌, codes, Option, Some, None, Result, Ok, Err, IfOk, refl, sym, ap, subst, ◌∙◌, eqb-true, Language, Lexeme, Token, Mark, Keyword, GrammarFault, Scope, Op, Growth, Policy, NameBytes, kinds, same_mark, same_keyword, is_mark, is_keyword, is_number_two}
use Rattle.std.specs.Str.{bytes_eq}
use Rattle.std.proofs.lemmas.Slice.Eq.{bytes_eq-Decides}
use denote.Enum.Bare.{same_true, true_same}
use Rattle.kpn_text_tokens.specs.declared.tokens.Language.TheVariants as language
use Rattle.kpn_text_tokens.specs.declared.tokens.Mark.TheVariants as mark_
use Rattle.kpn_text_tokens.specs.declared.tokens.Token.TheVariants as token
use Rattle.kpn_text_tokens.specs.contracts.tokens.Mark.{the_type as mark_type}
use Rattle.kpn_text_tokens.specs.contracts.tokens.Keyword.{the_type as keyword_type}
use Rattle.kpn_text_grammar.specs.declared.fault.GrammarFault.TheVariants as fault
use Rattle.kpn_lang.specs.declared.syntax.Op.TheVariants as op
use Rattle.kpn_net.specs.declared.tables.Growth.TheVariants as growth
use Rattle.kpn_net.specs.declared.tables.Policy.TheVariants as policy
use Rattle.kpn_text_grammar.specs.Operators.{is_named, operator_called, operator_mark, operator_name, operator_of, operators_between}
use Rattle.kpn_text_grammar.specs.Spelling.{by_name}
use Rattle.kpn_text_grammar.specs.Words.{growth_word, growth_spelled, policy_word, policy_spelled}
use Rattle.kpn_text_tokens.specs.Results.{and_then, OkOr}
use Rattle.kpn_text_grammar.specs.Reading.{ReadingFails, ReadingGives, first_is, is_second, next, token_operator, or_fault_at}
use Rattle.kpn_text_tokens.proofs.Pieces.{find_passes}

-- the value of a step that had no fault
pub bind_ok : {A B : Type 0} (r : Result A GrammarFault) (f : A → Result B GrammarFault) (y : B) → and_then r f ≡ Ok y
    → (x : A) × (r ≡ Ok x) × (f x ≡ Ok y)
unfolding and_then
bind_ok (Ok x) f y e = (x, refl, e)
bind_ok (Err d) f y e = absurd cc

pub ok_is : {A : Type 0} (x y : A) → ◌≡◌ {A = Result A GrammarFault} (Ok x) (Ok y) → x ≡ y
ok_is x y e = cc

-- a fault that a call returns
pub fails_with : {A : Type 0} (e : GrammarFault) (read : Result A GrammarFault) → read ≡ Err e → ReadingFails e read
fails_with fault.NoMemory read h = tt
fails_with (fault.Grammar at) read h = h
fails_with (fault.TooDeep p) read h = h

-- a choice by a test
pub by_test : {A : Type 0} {P : Type 0} (b : Bool) (x y z : A) → cond b x y ≡ z → (b ≡ true → x ≡ z → P)
    → (b ≡ false → y ≡ z → P) → P
by_test true x y z h f g = f refl h
by_test false x y z h f g = g refl h

-- what holds of a value that was read
pub moved : {A : Type 0} (P : A → Type 0) (x y : A) → ◌≡◌ {A = Result A GrammarFault} (Ok x) (Ok y) → P x → P y
moved P x y h holds = subst P (ok_is x y h) holds

-- a fault is no value
pub no_value : {A : Type 0} (d : GrammarFault) (y : A) → ◌≡◌ {A = Result A GrammarFault} (Err d) (Ok y) → ⊥
no_value d y e = cc

-- what follows from the first token
pub bound : {A B : Type 0} (r : Result A GrammarFault) (x : A) (f : A → Result B GrammarFault) (y : Result B GrammarFault)
    → r ≡ Ok x → f x ≡ y → and_then r f ≡ y
unfolding and_then
bound r x f y e h = rw e h

-- ---- the test of a language

pub second_is_two : (l : Language) → is_second l ≡ true → l ≡ language.Two
second_is_two language.One h = absurd cc
second_is_two language.Two h = refl

pub first_is_one : (l : Language) → is_second l ≡ false → l ≡ language.One
first_is_one language.One h = refl
first_is_one language.Two h = absurd cc

-- ---- marks and reserved words are distinct

same_mark_true : (n m : Mark) → same_mark n m ≡ true → n ≡ m
same_mark_true n m h = same_true mark_type tt n m h

same_keyword_true : (n k : Keyword) → same_keyword n k ≡ true → n ≡ k
same_keyword_true n k h = same_true keyword_type tt n k h

pub is_mark_true : (m : Mark) (t : Token) → is_mark m t ≡ true → t ≡ token.Mark m
is_mark_true m (token.Mark n) h = ap token.Mark (same_mark_true n m h)
is_mark_true m (token.Name x) h = absurd cc
is_mark_true m (token.Number n) h = absurd cc
is_mark_true m (token.Keyword k) h = absurd cc

pub is_mark_same : (m : Mark) → is_mark m (token.Mark m) ≡ true
is_mark_same m = true_same mark_type m m refl

pub is_keyword_true : (k : Keyword) (t : Token) → is_keyword k t ≡ true → t ≡ token.Keyword k
is_keyword_true k (token.Keyword n) h = ap token.Keyword (same_keyword_true n k h)
is_keyword_true k (token.Name x) h = absurd cc
is_keyword_true k (token.Number n) h = absurd cc
is_keyword_true k (token.Mark m) h = absurd cc

pub is_keyword_same : (k : Keyword) → is_keyword k (token.Keyword k) ≡ true
is_keyword_same k = true_same keyword_type k k refl

-- ---- tokens at the front

head_of : Token → List Token → Token
head_of t [] = t
head_of t (u ∷ us) = u

tail_of : List Token → List Token
tail_of [] = []
tail_of (u ∷ us) = us

pub kind_of : (l : Lexeme) (ls : List Lexeme) (t : Token) (more : List Token) → kinds (l ∷ ls) ≡ t ∷ more → l.token ≡ t
unfolding head_of
kind_of l ls t more h = ap (head_of t) h

pub kinds_of : (l : Lexeme) (ls : List Lexeme) (t : Token) (more : List Token) → kinds (l ∷ ls) ≡ t ∷ more
    → kinds ls ≡ more
unfolding tail_of
kinds_of l ls t more h = ap tail_of h

-- the test of the token at the front
pub first_kind : (test : Token → Bool) (ls : List Lexeme) (t : Token) (more : List Token) → kinds ls ≡ t ∷ more
    → first_is test ls ≡ test t
first_kind test [] t more h = absurd cc
first_kind test (l ∷ ls) t more h = ap test (kind_of l ls t more h)

pub next_takes : (s : Scope) (ls : List Lexeme) (l : Lexeme) (rest : List Lexeme) → next s ls ≡ Ok (l, rest) → ls ≡ l
    ∷ rest
unfolding next
next_takes s [] l rest h = absurd cc
next_takes s (m ∷ ls) l rest h = ap (λ (p : Lexeme × List Lexeme). p.0 ∷ p.1) (ok_is (m, ls) (l, rest) h)

pub next_again : (s : Scope) (l : Lexeme) (rest : List Lexeme) → next s (l ∷ rest) ≡ Ok (l, rest)
unfolding next
next_again s l rest = refl

pub is_two_true : (t : Token) → is_number_two t ≡ true → t ≡ token.Number 2
is_two_true (token.Number n) h = ap token.Number (eqb-true n 2 h)
is_two_true (token.Name x) h = absurd cc
is_two_true (token.Mark m) h = absurd cc
is_two_true (token.Keyword k) h = absurd cc

-- ---- operators and words

operator_is : (m : Mark) (o : Op) → operator_of m ≡ Some o → m ≡ operator_mark o
unfolding operator_of
operator_is m o h =
    sym (same_mark_true (operator_mark o) m (find_passes (λ p. same_mark (operator_mark p) m) operators_between o h))

-- it stands between its sides
abbrev pub IsBetween : Op → Type 0
IsBetween o = operator_name o ≡ None

no_comma : (m : Mark) (o : Op) → operator_of m ≡ Some o → operator_mark o ≡ mark_.Comma → ⊥
unfolding operator_of
no_comma m o h e =
    let none : ◌≡◌ {A = Option Op} None (Some o) = sym (ap operator_of (operator_is m o h ∙ e)) ∙ h in
    cc

operator_between : (m : Mark) (o : Op) → operator_of m ≡ Some o → IsBetween o
operator_between m op.Min h = absurd (no_comma m op.Min h refl)
operator_between m op.Max h = absurd (no_comma m op.Max h refl)
operator_between m _ h = refl

pub operator_back : (o : Op) → IsBetween o → operator_of (operator_mark o) ≡ Some o
unfolding operator_of
operator_back op.Min between = absurd cc
operator_back op.Max between = absurd cc
operator_back _ between = refl

-- the name that calls an operator
named_is : (x : NameBytes) (m : Option NameBytes) → is_named x m ≡ true → m ≡ Some x
named_is x (Some y) h = ap (λ (z : NameBytes). Some z) ((bytes_eq-Decides y x).0 h)
named_is x None h = absurd cc

pub called_is : (l : Language) (x : NameBytes) (o : Op) → operator_called l x ≡ Some o
    → (l ≡ language.Two) × (operator_name o ≡ Some x)
unfolding operator_called
called_is language.One x o h = absurd cc
called_is language.Two x o h = (
  refl,
  named_is x (operator_name o) (find_passes (λ p. is_named x (operator_name p)) (op.Min ∷ op.Max ∷ []) o h),
)

pub called_back : (o : Op) (x : NameBytes) → operator_name o ≡ Some x → operator_called language.Two x ≡ Some o
unfolding operator_called
called_back op.Min x h =
    let e : codes "min" ≡ x = cc in
    subst (λ (y : NameBytes). operator_called language.Two y ≡ Some op.Min) e refl
called_back op.Max x h =
    let e : codes "max" ≡ x = cc in
    subst (λ (y : NameBytes). operator_called language.Two y ≡ Some op.Max) e refl
called_back _ x h = absurd cc

-- a choice by the name of an operator
pub by_form : {A : Type 0} (P : A → Type 0) (m : Option NameBytes) (called : NameBytes → A) (between : A)
    → ((x : NameBytes) → m ≡ Some x → P (called x)) → (m ≡ None → P between) → P (by_name m called between)
by_form P (Some x) called between f g = f x refl
by_form P None called between f g = g refl

pub found_is : {A : Type 0} (found : Option A) (start : ℕ) (ls : List Lexeme) (x : A) (rest : List Lexeme)
    → or_fault_at start ls found ≡ Ok (x, rest) → (found ≡ Some x) × (ls ≡ rest)
found_is {A} (Some y) start ls x rest h = (
  ap (λ (q : A × List Lexeme). Some q.0) (ok_is (y, ls) (x, rest) h),
  ap (λ (q : A × List Lexeme). q.1)
      (ok_is (y, ls) (x, rest) h),
)
found_is None start ls x rest h = absurd cc

pub token_operator_is : (t : Token) (o : Op) → token_operator t ≡ Some o → t ≡ token.Mark (operator_mark o)
token_operator_is (token.Mark m) o h = ap token.Mark (operator_is m o h)
token_operator_is (token.Name x) o h = absurd cc
token_operator_is (token.Number n) o h = absurd cc
token_operator_is (token.Keyword k) o h = absurd cc

pub token_operator_between : (t : Token) (o : Op) → token_operator t ≡ Some o → IsBetween o
token_operator_between (token.Mark m) o h = operator_between m o h
token_operator_between (token.Name x) o h = absurd cc
token_operator_between (token.Number n) o h = absurd cc
token_operator_between (token.Keyword k) o h = absurd cc

-- ---- a name that stands for something

-- only the name that stands for something spells it
pub record Spells {A : Type 0} (meant : NameBytes → Option A) (spelled : A → NameBytes) : Type 0 where
  pub back : (n : NameBytes) (x : A) → meant n ≡ Some x → n ≡ spelled x
  pub found : (x : A) → meant (spelled x) ≡ Some x

policy_found : (q : Policy) → policy_spelled (policy_word q) ≡ Some q
unfolding policy_spelled
policy_found policy.Cycles = refl
policy_found policy.All = refl

policy_back : (n : NameBytes) (q : Policy) → policy_spelled n ≡ Some q → n ≡ policy_word q
unfolding policy_spelled
policy_back n q h =
    sym ((bytes_eq-Decides (policy_word q) n).0 (find_passes (λ k. bytes_eq (policy_word k) n) (policy.Cycles ∷ policy.All ∷ []) q h))

pub policies_spelled : Spells policy_spelled policy_word
policies_spelled = record { back = policy_back; found = policy_found }

growth_found : (g : Growth) → growth_spelled (growth_word g) ≡ Some g
unfolding growth_spelled
growth_found growth.One = refl
growth_found growth.Double = refl

growth_back : (n : NameBytes) (g : Growth) → growth_spelled n ≡ Some g → n ≡ growth_word g
unfolding growth_spelled
growth_back n g h =
    sym ((bytes_eq-Decides (growth_word g) n).0 (find_passes (λ k. bytes_eq (growth_word k) n) (growth.One ∷ growth.Double ∷ []) g h))

pub growths_spelled : Spells growth_spelled growth_word
growths_spelled = record { back = growth_back; found = growth_found }

-- ---- calls beside what reading returns

-- what a call returned was read
pub was_read : {A B : Type 0} (view : A → B) (P : A → Type 0) (r : Result A GrammarFault) (read : Result B GrammarFault)
    → ReadingGives view r read → ((x : A) → read ≡ Ok (view x) → P x) → IfOk r P
was_read view P (Ok x) read g k = k x g
was_read view P (Err e) read g k = tt

-- what can be read was returned, unless memory ran out
pub is_returned : {A B : Type 0} (view : A → B) (P : A → Type 0) (r : Result A GrammarFault)
    (read : Result B GrammarFault) (y : B) → ReadingGives view r read → read ≡ Ok y → ((x : A) → view x ≡ y → P x)
    → OkOr fault.NoMemory r P
is_returned view P (Ok x) read y g h k = k x (ok_is (view x) y (sym g ∙ h))
is_returned view P (Err fault.NoMemory) read y g h k = refl
is_returned {A} {B} view P (Err (fault.Grammar at)) read y g h k = absurd (no_value (fault.Grammar at) y (sym g ∙ h))
is_returned {A} {B} view P (Err (fault.TooDeep p)) read y g h k = absurd (no_value (fault.TooDeep p) y (sym g ∙ h))
