-- What stands for tokens that can be spelled can be spelled.
use Rattle.kpn_text_expand.proofs.Common.{◌≡◌, ℕ, ℤ, ◌<◌, ◌≤◌, ◌^◌, Bool, true, false, nat_le, if◌then◌else◌, List, [], ◌∷◌, ◌++◌, Option, Some, None, Result, Ok, subst, arith, AllByRecursion, find, cond_both, leb-true, Language, Lexeme, Token, HasSpelling, kinds, NameBytes, Constants, ConstantPlace, Constant, ExpandFault, all_forms, expanded, without_forms}
use Rattle.std.specs.Prelude.{◌-◌, ◌==◌, unsigned_abs, option_map}
use Rattle.std.specs.Str.{bytes_eq}
use Rattle.kpn_text_tokens.specs.declared.tokens.TheConstants.{MAX_NUMBER}
use Rattle.kpn_text_tokens.specs.declared.tokens.Keyword.TheVariants as keyword
use Rattle.kpn_text_tokens.specs.declared.tokens.Language.TheVariants as language
use Rattle.kpn_text_tokens.specs.declared.tokens.Mark.TheVariants as mark
use Rattle.kpn_text_tokens.specs.declared.tokens.Token.TheVariants as token
use Rattle.kpn_text_names.specs.Constant.{constant_value}
use Rattle.kpn_text_names.proofs.Chains.{ok_is, went}
use Rattle.kpn_text_expand.specs.declared.constants.ConstantPlace.TheVariants as place
use Rattle.kpn_text_expand.specs.declared.declaration.Value.{Value}
use Rattle.kpn_text_expand.specs.Declaration.{value_written, written_if, or_no_number, value_computed, tree, nameless, first_byte, number, name_declared, behind_assign, declared}
use Rattle.kpn_text_expand.specs.Constants.{at_first, gone_past, token_kept, token_passed, meant, meant_as, value_in, value_of, own_or_shared, value_tokens, with_constant, with_declared, step_at, step, steps, finished_at, finished, without_constants}
use Rattle.kpn_text_expand.specs.Results.{each}
use Rattle.kpn_text_expand.proofs.Can.{CanBe, Spelled, both_spelled, mark_can, number_can}
use Rattle.kpn_text_expand.proofs.SpelledCapacities.{capacities_spelled}
use Rattle.kpn_text_expand.proofs.SpelledCells.{cells_spelled}
use Rattle.kpn_text_expand.proofs.SpelledLoops.{loops_spelled}
use Rattle.kpn_text_expand.proofs.SpelledSums.{sums_spelled}

-- ---- constants have numbers

abbrev SmallIf : Option Value → Type 0
SmallIf (Some v) = v.size < 2 ^ 63
SmallIf None = Unit {0}

abbrev IsSmall : Constant → Type 0
IsSmall c = c.value.size < 2 ^ 63

written_small : (z : ℤ) → SmallIf (value_written z)
written_small z =
    cond_both (nat_le (unsigned_abs z) MAX_NUMBER) _ None SmallIf
    (λ e. let few : unsigned_abs z ≤ MAX_NUMBER = leb-true (unsigned_abs z) MAX_NUMBER e in omega (arith, few)) (λ e. tt)

if_small : (o : Option ℤ) → SmallIf (written_if o)
if_small (Some z) = written_small z
if_small None = tt

number_small : (start : ℕ) (o : Option Value) (v : Value) → SmallIf o → or_no_number start o ≡ Ok v → v.size < 2 ^ 63
number_small start (Some w) v small e = subst (λ (u : Value). u.size < 2 ^ 63) (ok_is w v e) small
number_small start None v small e = absurd cc

read_small : (stop : ℕ) (ls : List Lexeme) (v : Value) → number stop ls ≡ Ok v → v.size < 2 ^ 63
unfolding number
read_small stop ls v e =
    let a = went (nameless ls) _ v e in
    let start = first_byte stop a.value in
    let b = went (tree start stop a.value) (value_computed start) v a.rest in
    let found = constant_value b.value in
    number_small start (written_if found) v (if_small found) b.rest

declared_small : (stop : ℕ) (ls : List Lexeme) (c : Constant) → declared stop ls ≡ Ok c → IsSmall c
unfolding declared
declared_small stop ls c e =
    let x = went (name_declared stop ls) _ c e in
    let rest = went (behind_assign stop x.value.1) _ c x.rest in
    let v = went (number stop rest.value) _ c rest.rest in
    subst IsSmall (ok_is _ c v.rest) (read_small stop rest.value v.value v.first)

-- ---- what stands for a token

found_small : (cs : List Constant) (x : NameBytes) → AllByRecursion IsSmall cs → SmallIf (value_in cs x)
found_small [] x all = tt
found_small (c ∷ cs) x all =
    cond_both (bytes_eq c.name x) (Some c) (find (λ c. bytes_eq c.name x) cs)
    (λ (o : Option Constant). SmallIf (option_map (λ c. c.value) o)) (λ e. all.0) (λ e. found_small cs x all.1)

first_small : (a b : Option Value) → SmallIf a → SmallIf b → SmallIf (own_or_shared a b)
first_small (Some v) b first second = first
first_small None b first second = second

-- what has gone by can be spelled, and its constants have numbers
record IsSound (s : Constants) : Type 0 where
  left : Spelled s.left
  own : AllByRecursion IsSmall s.own
  shared : AllByRecursion IsSmall s.shared

value_of_small : (s : Constants) → IsSound s → (t : Token) → SmallIf (value_of s t)
value_of_small s is (token.Name x) =
    first_small (value_in s.own x) (value_in s.shared x) (found_small s.own x is.own) (found_small s.shared x is.shared)
value_of_small s is (token.Number n) = tt
value_of_small s is (token.Mark m) = tt
value_of_small s is (token.Keyword k) = tt

value_spelled : (b : Bool) (n start : ℕ) → n < 2 ^ 63
    → Spelled (value_tokens (record { is_negative = b; size = n }) start)
value_spelled true n start small = (mark_can mark.Minus, (number_can n small, tt))
value_spelled false n start small = (number_can n small, tt)

meant_as_spelled : (l : Lexeme) (o : Option Value) → CanBe l.token → SmallIf o → Spelled (meant_as l o)
meant_as_spelled l (Some v) can small = value_spelled v.is_negative v.size l.start small
meant_as_spelled l None can small = (can, tt)

meant_spelled : (s : Constants) → IsSound s → (l : Lexeme) → CanBe l.token → Spelled (meant s l)
meant_spelled s is l can = meant_as_spelled l (value_of s l.token) can (value_of_small s is l.token)

-- ---- one token after the other

none_or_small : (b : Bool) (cs : List Constant) → AllByRecursion IsSmall cs
    → AllByRecursion IsSmall (if b then [] else cs)
none_or_small true cs all = tt
none_or_small false cs all = all

behind_sound : (t : Token) (s : Constants) → IsSound s → IsSound (gone_past t s)
behind_sound (token.Name x) s is = record { left = is.left; own = is.own; shared = is.shared }
behind_sound (token.Number n) s is = record { left = is.left; own = is.own; shared = is.shared }
behind_sound (token.Mark mark.RightBrace) s is =
    record { left = is.left; own = none_or_small (s.depth - 1 == 0) s.own is.own; shared = is.shared }
behind_sound (token.Mark _) s is = record { left = is.left; own = is.own; shared = is.shared }
behind_sound (token.Keyword k) s is = record { left = is.left; own = is.own; shared = is.shared }

passed_sound : (l : Lexeme) (s : Constants) → IsSound s → CanBe l.token → IsSound (token_passed l s)
passed_sound l s is can =
    behind_sound l.token (record s { left = s.left ++ meant s l })
    (record { left = both_spelled s.left (meant s l) is.left (meant_spelled s is l can); own = is.own; shared = is.shared })

all_small : (cs : List Constant) (c : Constant) → AllByRecursion IsSmall cs → IsSmall c
    → AllByRecursion IsSmall (cs ++ c ∷ [])
all_small [] c all one = (one, tt)
all_small (d ∷ cs) c all one = (all.0, all_small cs c all.1 one)

with_sound : (s : Constants) (c : Constant) → IsSound s → IsSmall c → IsSound (with_constant s c)
with_sound s c is one =
    cond_both (s.depth == 0) _ _ IsSound
    (λ e. record { left = is.left; own = is.own; shared = all_small s.shared c is.shared one })
    (λ e. record { left = is.left; own = all_small s.own c is.own one; shared = is.shared })

declaration_sound : (stop : ℕ) (s t : Constants) → IsSound s → with_declared stop s ≡ Ok t → IsSound t
declaration_sound stop s t is e =
    let c = went (declared stop s.declaration) (λ c. Ok (with_constant s c)) t e in
    subst IsSound (ok_is (with_constant s c.value) t c.rest)
    (with_sound s c.value is (declared_small stop s.declaration c.value c.first))

passes : (l : Lexeme) (s t : Constants) → IsSound s → CanBe l.token → ◌≡◌ {A = Result Constants ExpandFault} (Ok (token_passed l s)) (Ok t)
    → IsSound t
passes l s t is can e = subst IsSound (ok_is (token_passed l s) t e) (passed_sound l s is can)

keeps : (l : Lexeme) (s t : Constants) → IsSound s → ◌≡◌ {A = Result Constants ExpandFault} (Ok (token_kept l s)) (Ok t) → IsSound t
keeps l s t is e =
    subst IsSound (ok_is (token_kept l s) t e) (record { left = is.left; own = is.own; shared = is.shared })

step_sound : (p : ConstantPlace) (k : Token) (l : Lexeme) (s t : Constants) → IsSound s → CanBe l.token
    → step_at p k l s ≡ Ok t → IsSound t
step_sound place.Front (token.Keyword keyword.Const) l s t is can e =
    subst IsSound (ok_is (record s { place = place.Declaration }) t e)
    (record { left = is.left; own = is.own; shared = is.shared })
step_sound place.Front (token.Keyword _) l s t is can e = passes l s t is can e
step_sound place.Front (token.Name x) l s t is can e = passes l s t is can e
step_sound place.Front (token.Number n) l s t is can e = passes l s t is can e
step_sound place.Front (token.Mark m) l s t is can e = passes l s t is can e
step_sound place.Inside k l s t is can e = passes l s t is can e
step_sound place.Declaration (token.Mark mark.Semicolon) l s t is can e = declaration_sound l.start s t is e
step_sound place.Declaration (token.Mark _) l s t is can e = keeps l s t is e
step_sound place.Declaration (token.Name x) l s t is can e = keeps l s t is e
step_sound place.Declaration (token.Number n) l s t is can e = keeps l s t is e
step_sound place.Declaration (token.Keyword k) l s t is can e = keeps l s t is e

steps_sound : (ls : List Lexeme) (s t : Constants) → IsSound s → Spelled ls → steps s ls ≡ Ok t → IsSound t
unfolding each
steps_sound [] s t is spelled e = subst IsSound (ok_is s t e) is
steps_sound (l ∷ ls) s t is spelled e =
    let u = went (step s l) (λ u. steps u ls) t e in
    steps_sound ls u.value t (step_sound s.place l.token l s u.value is spelled.0 u.first) spelled.1 u.rest

finished_spelled : (p : ConstantPlace) (end : ℕ) (s : Constants) (ms : List Lexeme) → IsSound s → finished_at p end s ≡ Ok ms
    → Spelled ms
finished_spelled place.Front end s ms is e = subst Spelled (ok_is s.left ms e) is.left
finished_spelled place.Inside end s ms is e = subst Spelled (ok_is s.left ms e) is.left
finished_spelled place.Declaration end s ms is e =
    let c = went (declared end s.declaration) _ ms e in absurd (let no = c.rest in cc)

constants_spelled : (end : ℕ) (ls ms : List Lexeme) → Spelled ls → without_constants end ls ≡ Ok ms → Spelled ms
constants_spelled end ls ms spelled e =
    let s = went (steps at_first ls) (finished end) ms e in
    finished_spelled s.value.place end s.value ms
    (steps_sound ls at_first s.value (record { left = tt; own = tt; shared = tt }) spelled s.first) s.rest

forms_spelled : (ls : List Lexeme) → Spelled ls → Spelled (without_forms ls)
forms_spelled ls spelled = loops_spelled _ (cells_spelled _ (sums_spelled _ (capacities_spelled ls spelled)))

all_spelled : (end : ℕ) (ls ms : List Lexeme) → Spelled ls → all_forms end ls ≡ Ok ms → Spelled ms
all_spelled end ls ms spelled e =
    let c = went (without_constants end ls) (λ rest. Ok (without_forms rest)) ms e in
    subst Spelled (ok_is (without_forms c.value) ms c.rest)
    (forms_spelled c.value (constants_spelled end ls c.value spelled c.first))

-- what stands for tokens that can be spelled can be spelled
pub expanded_spelled : (l : Language) (end : ℕ) (ls ms : List Lexeme) → AllByRecursion (HasSpelling l) (kinds ls)
    → expanded l end ls ≡ Ok ms → AllByRecursion (HasSpelling l) (kinds ms)
expanded_spelled language.One end ls ms spelled e =
    subst (λ (ks : List Lexeme). AllByRecursion (HasSpelling language.One) (kinds ks)) (ok_is ls ms e) spelled
expanded_spelled language.Two end ls ms spelled e = all_spelled end ls ms spelled e
