-- What is read as an expression follows the rules and has no more levels than it may, and what follows
-- the rules is read, whatever stands behind it: to read it is to go on behind it. The canonical spelling follows them.
use Rattle.kpn_text_grammar.proofs.Common.{◌≡◌, ◌⊎◌, inl, inr, ℕ, zero, suc, ◌+◌, ◌-◌, ◌<◌, ◌≤◌, Bool, true, false, nat_le, cond, List, [], ◌∷◌, ◌++◌, length, Option, Some, None, Result, Ok, Err, refl, sym, ap, subst, ◌∙◌, arith, cond_both, leb-false, leb-true, le-leb, lt-leb, Language, Lexeme, Token, GrammarFault, Scope, Op, NameBytes, ExpressionNode, numeral, variable, element, minus, negation, complement, binary, conditional, operator_mark, tightness, left_side, right_side, LOOSEST, OPERAND, loosest, kinds, term_level, spell_term, spell_tight, SpellsTight, as_number, as_name, as_element, as_minus, as_negation, as_complement, in_parentheses, as_call, as_sides, as_conditional, as_binary, is_mark}
use Rattle.kpn_text_tokens.specs.declared.tokens.Language.TheVariants as language
use Rattle.kpn_text_tokens.specs.declared.tokens.Token.TheVariants as token
use Rattle.kpn_text_tokens.specs.declared.tokens.Mark.TheVariants as mark_
use Rattle.kpn_text_grammar.specs.declared.fault.GrammarFault.TheVariants as fault
use Rattle.kpn_text_tokens.specs.Results.{and_then}
use Rattle.kpn_text_grammar.specs.Operators.{operator_called, operator_name}
use Rattle.kpn_text_grammar.specs.Reading.{Read, next, mark, read_as, token_operator, operator, begins_expression, level_fault, first_is, operator_fits, goes_further, unless_full, sides_behind, call_behind, call_or_name, behind_name, binary_behind, conditional_behind, is_second, inside_behind, tight_operand, tight_over, tight}
use Rattle.kpn_text_grammar.proofs.Lookahead.{lower, Anything, Fills, Near, Look, returns, nests, Looks, Starts, Meets, bind_fills, fills_as, first_looks, first_reads, in_turn as look_in_turn, passed, start_fills, starts_on}
use Rattle.kpn_text_grammar.proofs.Steps.{IsBetween, bind_ok, bound, by_form, by_test, called_back, called_is, first_is_one, moved, no_value, ok_is, second_is_two, token_operator_between, token_operator_is}
use Rattle.kpn_text_grammar.proofs.Readers.{this_mark, RowLaws, Seen, Row, ReaderBy, as_seen, begins, given, narrow, done, behind, value, bind, bind_by, mapped, guarded, an_operator, either, spell_either, Either, choose, As, Unless, choice, choice_seen, passed_fills, optional, recast, Arm, arm, no_arm, first_token}
use Rattle.kpn_text_grammar.proofs.TightLaws.{operator_stands, operator_takes, no_question, some_loosest, below_loosest, below_operand, right_below, left_below, left_is_tight, right_is_tighter, is_tight, first_tightness, at_bracket, at_close, at_comma, at_question, at_colon, operator_first, not_opened, looser_first, stops_first, Fits, fits_of, goes_of}

-- ---- operators behind a left side

module _ (s : Scope) (side : ℕ → List Lexeme → Read ExpressionNode) (levels n : ℕ) where
  -- as many steps as there are levels suffice
  pub same_steps : (i j bound : ℕ) (left : ExpressionNode) (ls : List Lexeme) → levels ≤ term_level left + i
      → levels ≤ term_level left + j
      → sides_behind s side levels n i bound left ls ≡ sides_behind s side levels n j bound left ls
  unfolding sides_behind
  same_steps zero zero bound left ls a b = refl
  same_steps zero (suc j) bound left ls a b =
      let full : nat_le levels (term_level left) ≡ true = le-leb levels (term_level left) (omega arith) in
      rw full refl
  same_steps (suc i) zero bound left ls a b =
      let full : nat_le levels (term_level left) ≡ true = le-leb levels (term_level left) (omega arith) in
      rw full refl
  same_steps (suc i) (suc j) bound left ls a b =
      λ x. cond (first_is (goes_further n bound) ls)
      (cond (nat_le levels (term_level left)) (Err (fault.TooDeep s.process))
      (and_then (operator s ls) (λ o. and_then (side (right_side o.0) o.1)
      (λ right. same_steps i j (tightness o.0) (binary o.0 left right.0) right.1 (omega (arith, a)) (omega (arith, b)) x))))
      (Ok (left, ls))

  one_step : (i bound : ℕ) (left : ExpressionNode) (ls : List Lexeme) (o : Op) (after : List Lexeme) (b : ExpressionNode)
      (rest : List Lexeme) → first_is (goes_further n bound) ls ≡ true → term_level left < levels
      → operator s ls ≡ Ok (o, after) → side (right_side o) after ≡ Ok (b, rest)
      → sides_behind s side levels n (suc i) bound left ls
      ≡ sides_behind s side levels n i (tightness o) (binary o left b) rest
  unfolding sides_behind and_then
  one_step i bound left ls o after b rest goes room sign right =
      let some : nat_le levels (term_level left) ≡ false = lt-leb levels (term_level left) room in
      rw (goes, some, sign, right) refl

  -- an operator that goes further, and its right side
  pub one_side : (bound : ℕ) (left : ExpressionNode) (ls : List Lexeme) (o : Op) (after : List Lexeme) (b : ExpressionNode)
      (rest : List Lexeme) → first_is (goes_further n bound) ls ≡ true → term_level left < levels
      → operator s ls ≡ Ok (o, after) → side (right_side o) after ≡ Ok (b, rest)
      → sides_behind s side levels n levels bound left ls
      ≡ sides_behind s side levels n levels (tightness o) (binary o left b) rest
  one_side bound left ls o after b rest goes room sign right =
      same_steps levels (suc levels) bound left ls (omega arith) (omega arith)
      ∙ one_step levels bound left ls o after b rest goes room sign right

  no_step : (i bound : ℕ) (left : ExpressionNode) (ls : List Lexeme) → first_is (goes_further n bound) ls ≡ false
      → sides_behind s side levels n i bound left ls ≡ Ok (left, ls)
  unfolding sides_behind
  no_step zero bound left ls stops = rw stops refl
  no_step (suc i) bound left ls stops = rw stops refl

  -- no operator goes further
  pub no_side : (bound : ℕ) (left : ExpressionNode) (ls : List Lexeme) → first_is (goes_further n bound) ls ≡ false
      → sides_behind s side levels n levels bound left ls ≡ Ok (left, ls)
  no_side = no_step levels

-- Tokens are read as an expression and the operators behind it.
pub record ReadsOn (s : Scope) (depth d n k : ℕ) (e : ExpressionNode) (more : List Token) (ls : List Lexeme) : Type 0 where
  pub bound : ℕ
  pub rest : List Lexeme
  pub binds : k ≤ bound
  pub reads : tight s depth (suc d) n ls
      ≡ sides_behind s (tight s depth d) (suc d) n (suc d) bound e rest
  pub after : kinds rest ≡ more

in_turn : {A B C : Type 0} (r : Result A GrammarFault) (f : A → Result B GrammarFault) (g : B → Result C GrammarFault)
    → and_then r (λ x. and_then (f x) g) ≡ and_then (and_then r f) g
unfolding and_then
in_turn (Ok x) f g = refl
in_turn (Err e) f g = refl

-- each expression has a level
pub some_level : (e : ExpressionNode) → term_level e ≤ 0 → ⊥
some_level (numeral n) h = omega arith
some_level (variable x) h = omega arith
some_level (element x e) h = omega (arith, h)
some_level (minus e) h = omega (arith, h)
some_level (negation e) h = omega (arith, h)
some_level (complement e) h = omega (arith, h)
some_level (binary op a b) h = omega (arith, h)
some_level (conditional c a b) h = omega (arith, h)

-- ---- spellings are no gaps

pub tight_longer : {l : Language} {depth n : ℕ} {e : ExpressionNode} {tokens more : List Token} → SpellsTight l depth n e tokens more
    → length more < length tokens
tight_longer as_number = omega arith
tight_longer as_name = omega arith
tight_longer (as_element h) = omega (arith, tight_longer h)
tight_longer (as_minus h) = omega (arith, tight_longer h)
tight_longer (as_negation h) = omega (arith, tight_longer h)
tight_longer (as_complement h) = omega (arith, tight_longer h)
tight_longer (in_parentheses two h) = omega (arith, tight_longer h)
tight_longer (as_call two named ha hb) = omega (arith, tight_longer ha, tight_longer hb)
tight_longer (as_sides one between ha hb) = omega (arith, tight_longer ha, tight_longer hb)
tight_longer (as_conditional hc ha hb) = omega (arith, tight_longer hc, tight_longer ha, tight_longer hb)
tight_longer (as_binary fits between ha hb) = omega (arith, tight_longer ha, tight_longer hb)

-- ---- what is read is spelled so

-- what was read as an expression
record TakesTight (l : Language) (depth levels n : ℕ) (tokens : List Token) (e : ExpressionNode) (rest : List Lexeme) : Type 0 where
  spelled : SpellsTight l depth n e tokens (kinds rest)
  level : term_level e ≤ levels

-- what was read as an operand or a left side: it binds as tight as this
record TakesBound (l : Language) (depth levels bound : ℕ) (tokens : List Token) (e : ExpressionNode) (rest : List Lexeme) : Type 0 where
  spelled : (n : ℕ) → n ≤ bound → SpellsTight l depth n e tokens (kinds rest)
  level : term_level e ≤ levels

-- a right side, by the number of its levels
abbrev Sides : Language → (depth levels : ℕ) → (ℕ → List Lexeme → Read ExpressionNode) → Type 0
Sides l depth levels side = (n : ℕ) (ls : List Lexeme) (e : ExpressionNode) (rest : List Lexeme) → n ≤ OPERAND
    → side n ls ≡ Ok (e, rest) → TakesTight l depth levels n (kinds ls) e rest

module _ (s : Scope) (depth d n : ℕ) (side : ℕ → List Lexeme → Read ExpressionNode) (laws : Sides s.language depth d side) where
  bound_left : (bound : ℕ) (tokens : List Token) (left : ExpressionNode) (ls : List Lexeme) (e : ExpressionNode) (rest : List Lexeme)
      → n ≤ bound → TakesBound s.language depth (suc d) bound tokens left ls → ◌≡◌ {A = Read ExpressionNode} (Ok (left, ls)) (Ok (e, rest))
      → TakesTight s.language depth (suc d) n tokens e rest
  bound_left bound tokens left ls e rest tight_enough t h =
      moved (λ (p : ExpressionNode × List Lexeme). TakesTight s.language depth (suc d) n tokens p.0 p.1) (left, ls) (e, rest) h
      (record { spelled = t.spelled n tight_enough; level = t.level })

  -- an operator and its right side more
  one_more : (bound : ℕ) (tokens : List Token) (left : ExpressionNode) (ls : List Lexeme) (o : Op) (after : List Lexeme) (b : ExpressionNode)
      (rest : List Lexeme) → Fits n bound o → TakesBound s.language depth (suc d) bound tokens left ls
      → kinds ls ≡ token.Mark (operator_mark o) ∷ kinds after → term_level left < suc d
      → TakesTight s.language depth d (right_side o) (kinds after) b rest
      → TakesBound s.language depth (suc d) (tightness o) tokens (binary o left b) rest
  one_more bound tokens left ls o after b rest fits t sign room right = record {
    spelled = λ k le. as_binary le fits.between (subst (λ (ts : List Token). SpellsTight s.language depth (left_side o) left tokens ts) sign
        (t.spelled (left_side o) fits.left)) right.spelled;
    level = omega (arith, room, right.level);
  }

  abbrev others : (steps : ℕ) → ExpressionNode → List Lexeme → Read ExpressionNode
  others steps left ls =
      and_then (operator s ls) (λ o. and_then (side (right_side o.0) o.1)
      (λ right. sides_behind s side (suc d) n steps (tightness o.0) (binary o.0 left right.0) right.1))

  sides_take : (steps bound : ℕ) (tokens : List Token) (left : ExpressionNode) (ls : List Lexeme) (e : ExpressionNode) (rest : List Lexeme)
      → n ≤ bound → TakesBound s.language depth (suc d) bound tokens left ls
      → sides_behind s side (suc d) n steps bound left ls ≡ Ok (e, rest) → TakesTight s.language depth (suc d) n tokens e rest
  unfolding sides_behind
  sides_take zero bound tokens left ls e rest tight_enough t h =
      by_test (first_is (goes_further n bound) ls) (Err (fault.TooDeep s.process)) (Ok (left, ls)) (Ok (e, rest)) h
      (λ _ k. absurd (no_value (fault.TooDeep s.process) (e, rest) k))
      (λ _ k. bound_left bound tokens left ls e rest tight_enough t k)
  sides_take (suc steps) bound tokens left ls e rest tight_enough t h =
      by_test (first_is (goes_further n bound) ls) (unless_full s (suc d) left (others steps left ls)) (Ok (left, ls))
      (Ok (e, rest)) h
      (λ there k. by_test (nat_le (suc d) (term_level left)) (Err (fault.TooDeep s.process)) (others steps left ls)
      (Ok (e, rest)) k (λ _ full. absurd (no_value (fault.TooDeep s.process) (e, rest) full))
      (λ room m.
      let o = bind_ok (operator s ls) _ (e, rest) m in
      let b = bind_ok (side (right_side o.0.0) o.0.1) _ (e, rest) o.2 in
      let sign = operator_takes s ls o.0.0 o.0.1 o.1 in
      let fits = fits_of n bound ls o.0.0 (kinds o.0.1) sign (operator_stands s ls o.0.0 o.0.1 o.1) there in
      sides_take steps (tightness o.0.0) tokens (binary o.0.0 left b.0.0) b.0.1 e rest fits.tight_enough
      (one_more bound tokens left ls o.0.0 o.0.1 b.0.0 b.0.1 fits t sign
      (leb-false (suc d) (term_level left) room)
      (laws (right_side o.0.0) o.0.1 b.0.0 b.0.1 (right_below o.0.0) b.1)) b.2))
      (λ _ k. bound_left bound tokens left ls e rest tight_enough t k)

-- ---- operands, by readers of what stands in them

-- an expression as tight as this, of at most so many levels
abbrev pub Tight : Language → (depth levels n : ℕ) → ExpressionNode → List Token → List Token → Type 0
Tight l depth levels n e tokens more = SpellsTight l depth n e tokens more × (term_level e ≤ levels)

-- what follows binds looser
abbrev pub Looser : ℕ → List Token → Type 0
Looser n more = first_tightness more < n

-- One reader of expressions has less room than another. In language 1 that one has a level for each sign and
-- parenthesis,
-- and reads operands.
pub record HasMore (s : Scope) (low_depth low_levels depth levels n : ℕ) : Type 0 where
  pub deeper : low_depth < depth
  pub higher : low_levels < levels
  pub first : s.language ≡ language.One → depth ≤ levels
  pub tight : s.language ≡ language.One → OPERAND ≤ n

abbrev ReadsTight : Scope → ℕ → Type 0
ReadsTight s depth =
    (low_depth low_levels levels n : ℕ) → n ≤ OPERAND
    → ReaderBy s.end (HasMore s low_depth low_levels depth levels n) (Tight s.language depth levels n) (Looser n)
    (tight (lower s) low_depth low_levels n) (tight s depth levels n)

abbrev OperandOf : Language → (depth levels : ℕ) → ExpressionNode → List Token → List Token → Type 0
OperandOf l depth levels e tokens more =
    ((n : ℕ) → n ≤ OPERAND → SpellsTight l depth n e tokens more) × (term_level e ≤ levels)

-- no operand and no `[` follows
abbrev Ends : List Token → Type 0
Ends more = first_tightness more ≤ OPERAND

abbrev Spelled : Type 0
Spelled = ExpressionNode × List Token

-- in language 1 an expression has no more levels than signs and parentheses may stand in each other
few_levels : {depth n : ℕ} {e : ExpressionNode} {tokens more : List Token}
    → SpellsTight language.One depth n e tokens more
    → OPERAND ≤ n → term_level e ≤ depth
few_levels as_number tight_enough = omega arith
few_levels as_name tight_enough = omega arith
few_levels (as_element h) tight_enough = omega (arith, few_levels h (omega arith))
few_levels (as_minus h) tight_enough = omega (arith, few_levels h (omega arith))
few_levels (as_negation h) tight_enough = omega (arith, few_levels h (omega arith))
few_levels (as_complement h) tight_enough = omega (arith, few_levels h (omega arith))
few_levels (in_parentheses two h) tight_enough =
    let no : language.One ≡ language.Two = two in
    absurd cc
few_levels (as_call two named ha hb) tight_enough =
    let no : language.One ≡ language.Two = two in
    absurd cc
few_levels (as_sides one between ha hb) tight_enough =
    omega (arith, few_levels ha (omega arith), few_levels hb (omega arith))
few_levels (as_conditional hc ha hb) tight_enough =
    omega (arith, few_levels hc (omega arith), few_levels ha (omega arith), few_levels hb (omega arith))
few_levels (as_binary {op = o} fits between ha hb) tight_enough = absurd (omega (arith, fits, tight_enough, below_operand o))

module _ (s : Scope) (e k depth d : ℕ) (laws : ReadsTight s depth) where
  abbrev least : ℕ
  least = loosest s.language

  -- a part, as loose as any
  abbrev Part : ExpressionNode → List Token → List Token → Type 0
  Part = Tight s.language depth d least

  abbrev Enough : Type 0
  Enough = HasMore s (suc e) (suc k) (suc depth) (suc d) OPERAND

  is_operand : s.language ≡ language.One → OPERAND ≤ least
  is_operand one = subst (λ (l : Language). OPERAND ≤ loosest l) (sym one) (omega arith)

  part : (n : ℕ) → n ≤ OPERAND → (s.language ≡ language.One → OPERAND ≤ n)
      → ReaderBy s.end Enough (Tight s.language depth d n) (Looser n) (tight (lower s) e k n) (tight s depth d n)
  part n small tight_enough = given (laws e k d n small) (λ so. record {
    deeper = omega (arith, so.deeper);
    higher = omega (arith, so.higher);
    first = λ one. omega (arith, so.first one);
    tight = tight_enough;
  })

  inside_laws : ReaderBy s.end Enough Part (Looser least) (tight (lower s) e k least) (tight s depth d least)
  inside_laws = part least (below_loosest s.language) is_operand

  first_laws : ReaderBy s.end Enough (Tight s.language depth (suc d) least) (Looser least)
      (tight (lower s) e (suc k) least)
      (tight s depth (suc d) least)
  first_laws = given (laws e (suc k) (suc d) least (below_loosest s.language)) (λ so. record {
    deeper = omega (arith, so.deeper);
    higher = so.higher;
    first = λ one. omega (arith, so.first one);
    tight = is_operand;
  })

  fits_too : (c : ExpressionNode) → Enough → nat_le (suc k) (term_level c) ≡ false → nat_le (suc d) (term_level c)
      ≡ false
  fits_too c so fits = lt-leb (suc d) (term_level c) (omega (arith, so.higher, leb-false (suc k) (term_level c) fits))

  closes : (t : Token) (more : List Token) → first_tightness (t ∷ more) ≡ 0 → Looser least (t ∷ more)
  closes t more h = omega (arith, h, some_loosest s.language)

  -- behind a name: nothing, or if it calls an operator its two sides
  abbrev Pair : Type 0
  Pair = Spelled × (Spelled × Unit {0})

  abbrev PairOf : Pair → List Token → Type 0
  PairOf z more =
      Part z.0.0 z.0.1 (token.Mark mark_.Comma ∷ z.1.0.1)
      × (Part z.1.0.0 z.1.0.1 (token.Mark mark_.RightParen ∷ more) × Unit {0})

  abbrev Called : Type 0
  Called = (Op × Pair) ⊎ Unit {0}

  abbrev called_tokens : Called → List Token → List Token
  called_tokens = spell_either (λ (z : Op × Pair) more. token.Mark mark_.LeftParen ∷ z.1.0.1) (λ (u : Unit {0}) more. more)

  abbrev made_by : NameBytes → Called → ExpressionNode
  made_by x = either (λ (z : Op × Pair). binary z.0 z.1.0.0 z.1.1.0.0) (λ (u : Unit {0}). variable x)

  abbrev CalledOf : Option Op → Called → List Token → Type 0
  CalledOf found = Either (λ (z : Op × Pair) more. (found ≡ Some z.0) × PairOf z.1 more) (λ (u : Unit {0}) more. Unit {0})

  call_row : (o : Op) → Row {Z = Pair} s.end Enough (λ z. binary o z.0.0 z.1.0.0)
      (λ z more. token.Mark mark_.LeftParen ∷ z.0.1) PairOf Anything
      (call_behind (lower s) (tight (lower s) e k least) o) (call_behind s (tight s depth d least) o)
  unfolding call_behind
  call_row o = behind (this_mark s mark_.LeftParen)
      (bind inside_laws (λ a. behind (this_mark s mark_.Comma) (bind inside_laws
      (λ b. behind (this_mark s mark_.RightParen) (done {May = Anything} (binary o a b)))
      (λ x z more is may. closes (token.Mark mark_.RightParen) more (at_close more))))
      (λ x z more is may. closes (token.Mark mark_.Comma) z.0.1 (at_comma z.0.1)))

  abbrev made_of_pair : Op → NameBytes → Pair ⊎ Unit {0} → ExpressionNode
  made_of_pair o x = either (λ (z : Pair). binary o z.0.0 z.1.0.0) (λ (u : Unit {0}). variable x)

  abbrev pair_tokens : Pair ⊎ Unit {0} → List Token → List Token
  pair_tokens = spell_either (λ (z : Pair) more. token.Mark mark_.LeftParen ∷ z.0.1) (λ (u : Unit {0}) more. more)

  abbrev PairIf : Pair ⊎ Unit {0} → List Token → Type 0
  PairIf = Either PairOf (λ (u : Unit {0}) more. Unit {0})

  called_row : (x : NameBytes) (found : Option Op)
      → Row {Z = Called} s.end Enough (made_by x) called_tokens (CalledOf found) (Unless (is_mark mark_.LeftParen))
      (call_or_name (lower s) (tight (lower s) e k least) x found) (call_or_name s (tight s depth d least) x found)
  unfolding call_or_name
  called_row x None = recast (done (variable x)) (λ u more is. (inr tt, refl, tt, refl)) back where
    back : (w : Called) (more : List Token) → CalledOf None w more
        → As (made_by x) called_tokens (λ (u : Unit {0}). variable x) (λ (u : Unit {0}) more. more)
        (λ (u : Unit {0}) more. Unit {0}) w more
    back (inl z) more is =
        let no : None ≡ Some z.0 = is.0 in
        absurd cc
    back (inr u) more is = (tt, refl, tt, refl)
  called_row x (Some o) =
      recast (optional (is_mark mark_.LeftParen) (variable x) (call_row o) (λ more may. (tt, may)) (λ z more is. refl))
      there back where
        there : (z : Pair ⊎ Unit {0}) (more : List Token) → PairIf z more
            → As (made_of_pair o x) pair_tokens (made_by x) called_tokens (CalledOf (Some o)) z more
        there (inl z) more is = (inl (o, z), refl, (refl, is), refl)
        there (inr u) more is = (inr u, refl, tt, refl)

        back : (w : Called) (more : List Token) → CalledOf (Some o) w more
            → As (made_by x) called_tokens (made_of_pair o x) pair_tokens PairIf w more
        back (inl z) more is =
            let same : o ≡ z.0 = cc in
            (inl z.1, ap (λ (p : Op). binary p z.1.0.0 z.1.1.0.0) same, is.1, refl)
        back (inr u) more is = (inr u, refl, tt, refl)

  -- no `[` is behind it
  called_first : (w : Called) (more : List Token) → Ends more
      → begins (is_mark mark_.LeftBracket) (called_tokens w more) ≡ false
  called_first (inl z) more may = refl
  called_first (inr u) more may = (not_opened more may).0

  name_back : (x : NameBytes) (z : (Spelled × Unit {0}) ⊎ Called) (more : List Token)
      → Either (λ (z : Spelled × Unit {0}) more. Part z.0.0 z.0.1 (token.Mark mark_.RightBracket ∷ more) × Unit {0})
      (CalledOf (operator_called s.language x)) z more
      → OperandOf s.language (suc depth) (suc d)
      (either (λ (z : Spelled × Unit {0}). element x z.0.0) (made_by x) z)
      (token.Name x ∷ spell_either (λ (z : Spelled × Unit {0}) more. token.Mark mark_.LeftBracket ∷ z.0.1)
      called_tokens z more) more
  name_back x (inl z) more is = ((λ n small. as_element is.0.0), omega (arith, is.0.1))
  name_back x (inr (inl z)) more is =
      let calls = called_is s.language x z.0 is.0 in
      ((λ n small. as_call calls.0 calls.1 is.1.0.0 is.1.1.0.0), omega (arith, is.1.0.1, is.1.1.0.1))
  name_back x (inr (inr u)) more is = ((λ n small. as_name), omega arith)

  -- behind the first expression in parentheses: `?` and two more, the end, or an operator and one more
  abbrev Choices : Type 0
  Choices = Spelled × (Spelled × Unit {0})

  abbrev Right : Type 0
  Right = Op × (Spelled × Unit {0})

  abbrev Inside : Type 0
  Inside = Choices ⊎ (Unit {0} ⊎ Right)

  abbrev inside_tokens : Inside → List Token → List Token
  inside_tokens = spell_either (λ (z : Choices) more. token.Mark mark_.Question ∷ z.0.1)
      (spell_either (λ (u : Unit {0}) more. token.Mark mark_.RightParen ∷ more)
      (λ (z : Right) more. token.Mark (operator_mark z.0) ∷ z.1.0.1))

  abbrev made_of : ExpressionNode → Inside → ExpressionNode
  made_of c = either (λ (z : Choices). conditional c z.0.0 z.1.0.0)
      (either (λ (u : Unit {0}). c) (λ (z : Right). binary z.0 c z.1.0.0))

  abbrev RightOf : ExpressionNode → Right → List Token → Type 0
  RightOf c z more =
      (nat_le (suc d) (term_level c) ≡ false)
      × (IsBetween z.0 × (Part z.1.0.0 z.1.0.1 (token.Mark mark_.RightParen ∷ more) × Unit {0}))

  abbrev InsideOf : ExpressionNode → Inside → List Token → Type 0
  InsideOf c = Either (λ (z : Choices) more. (nat_le (suc d) (term_level c) ≡ false)
      × (Part z.0.0 z.0.1 (token.Mark mark_.Colon ∷ z.1.0.1)
      × (Part z.1.0.0 z.1.0.1 (token.Mark mark_.RightParen ∷ more) × Unit {0})))
      (Either (λ (u : Unit {0}) more. s.language ≡ language.Two)
      (λ (z : Right) more. (s.language ≡ language.One) × RightOf c z more))

  inside_looser : (c : ExpressionNode) (z : Inside) (more : List Token) → InsideOf c z more
      → Looser least (inside_tokens z more)
  inside_looser c (inl z) more is = closes (token.Mark mark_.Question) z.0.1 (at_question z.0.1)
  inside_looser c (inr (inl u)) more is = closes (token.Mark mark_.RightParen) more (at_close more)
  inside_looser c (inr (inr z)) more is =
      let one : least ≡ OPERAND = ap loosest is.0 in
      omega (arith, operator_first z.0 z.1.0.1 is.1.1.0, below_operand z.0, one)

  inside_back : (c : Spelled) (z : Inside) (more : List Token)
      → Tight s.language depth (suc d) least c.0 c.1 (inside_tokens z more) → InsideOf c.0 z more
      → OperandOf s.language (suc depth) (suc d) (made_of c.0 z) (token.Mark mark_.LeftParen ∷ c.1) more
  inside_back c (inl z) more first is = (
    (λ n small. as_conditional first.0 is.1.0.0 is.1.1.0.0),
    omega (arith, leb-false (suc d) (term_level c.0) is.0, is.1.0.1, is.1.1.0.1),
  )
  inside_back c (inr (inl u)) more first is = (
    (λ n small. in_parentheses is (subst (λ (l : Language). SpellsTight s.language depth (loosest l) c.0 c.1
        (token.Mark mark_.RightParen ∷ more)) is first.0)),
    first.1,
  )
  inside_back c (inr (inr z)) more first is = (
    (λ n small. as_sides is.0 is.1.1.0 (subst (λ (l : Language). SpellsTight s.language depth (loosest l) c.0 c.1
        (token.Mark (operator_mark z.0) ∷ z.1.0.1)) is.0 first.0)
        (subst (λ (l : Language). SpellsTight s.language depth (loosest l) z.1.0.0 z.1.0.1
        (token.Mark mark_.RightParen ∷ more)) is.0 is.1.1.1.0.0)),
    omega (arith, leb-false (suc d) (term_level c.0) is.1.0, is.1.1.1.0.1),
  )

  -- behind the first expression, if no `?` follows: the end in language 2, and in language 1 an operator
  ends_row : (c : ExpressionNode) → Row {Z = Unit {0}} s.end Enough (λ u. c)
      (λ u more. token.Mark mark_.RightParen ∷ more)
      (λ u more. Unit {0}) Anything (λ ls. and_then (mark (lower s) mark_.RightParen ls) (λ rest. Ok (c, rest)))
      (λ ls. and_then (mark s mark_.RightParen ls) (λ rest. Ok (c, rest)))
  ends_row c = behind (this_mark s mark_.RightParen) (done {May = Anything} c)

  right_row : (c : ExpressionNode) → Row {Z = Right} s.end Enough (λ z. binary z.0 c z.1.0.0)
      (λ z more. token.Mark (operator_mark z.0) ∷ z.1.0.1)
      (λ z more. IsBetween z.0 × (Part z.1.0.0 z.1.0.1 (token.Mark mark_.RightParen ∷ more) × Unit {0})) Anything
      (binary_behind (lower s) (tight (lower s) e k least) c) (binary_behind s (tight s depth d least) c)
  unfolding binary_behind
  right_row c = value (an_operator s) (λ o. bind inside_laws
      (λ b. behind (this_mark s mark_.RightParen) (done {May = Anything} (binary o c b)))
      (λ x z more is may. closes (token.Mark mark_.RightParen) more (at_close more)))

  closed_row : (c : ExpressionNode) → Seen s.end Enough
      (either (λ (u : Unit {0}). c) (λ (z : Right). binary z.0 c z.1.0.0))
      (spell_either (λ (u : Unit {0}) more. token.Mark mark_.RightParen ∷ more)
      (λ (z : Right) more. token.Mark (operator_mark z.0) ∷ z.1.0.1))
      (Either (λ (u : Unit {0}) more. s.language ≡ language.Two)
      (λ (z : Right) more. (s.language ≡ language.One) × RightOf c z more)) Anything
      (λ ls. cond (is_second s.language) (and_then (mark (lower s) mark_.RightParen ls) (λ rest. Ok (c, rest)))
      (unless_full (lower s) (suc k) c (binary_behind (lower s) (tight (lower s) e k least) c ls)))
      (λ ls. cond (is_second s.language) (and_then (mark s mark_.RightParen ls) (λ rest. Ok (c, rest)))
      (unless_full s (suc d) c (binary_behind s (tight s depth d least) c ls)))
  closed_row c =
      choose (λ ls. is_second s.language) (λ ls other h. refl) (λ u more. s.language ≡ language.Two)
      (λ z more. (s.language ≡ language.One) × RightOf c z more) (as_seen (ends_row c))
      (guarded (nat_le (suc k) (term_level c)) (nat_le (suc d) (term_level c)) s.process (fits_too c) (right_row c))
      (λ ls u more second h is. second_is_two s.language second) (λ ls z more first h is. (first_is_one s.language first, is))
      (λ ls u more h is may. (ap is_second is, tt)) (λ ls z more h is may. (ap is_second is.0, is.1))
      (λ u more is. tt) (λ z more is. is.1) (λ ls ts u more second h is may. second)
      (λ ls ts z more first h is may. first)

  closed_first : (z : Unit {0} ⊎ Right) (more : List Token)
      → begins (is_mark mark_.Question) (inside_tokens (inr z) more) ≡ false
  closed_first (inl u) more = refl
  closed_first (inr z) more = no_question z.0

  question_row : (c : ExpressionNode) → Row {Z = Choices} s.end Enough (λ z. conditional c z.0.0 z.1.0.0)
      (λ z more. token.Mark mark_.Question ∷ z.0.1)
      (λ z more. Part z.0.0 z.0.1 (token.Mark mark_.Colon ∷ z.1.0.1)
      × (Part z.1.0.0 z.1.0.1 (token.Mark mark_.RightParen ∷ more) × Unit {0})) Anything
      (conditional_behind (lower s) (tight (lower s) e k least) c) (conditional_behind s (tight s depth d least) c)
  unfolding conditional_behind
  question_row c = behind (this_mark s mark_.Question)
      (bind inside_laws (λ a. behind (this_mark s mark_.Colon) (bind inside_laws
      (λ b. behind (this_mark s mark_.RightParen) (done {May = Anything} (conditional c a b)))
      (λ x z more is may. closes (token.Mark mark_.RightParen) more (at_close more))))
      (λ x z more is may. closes (token.Mark mark_.Colon) z.0.1 (at_colon z.0.1)))

  inside_row : (c : ExpressionNode) → Seen s.end Enough (made_of c) inside_tokens (InsideOf c) Anything
      (λ ls. cond (first_is (is_mark mark_.Question) ls)
      (unless_full (lower s) (suc k) c (conditional_behind (lower s) (tight (lower s) e k least) c ls))
      (cond (is_second s.language) (and_then (mark (lower s) mark_.RightParen ls) (λ rest. Ok (c, rest)))
      (unless_full (lower s) (suc k) c (binary_behind (lower s) (tight (lower s) e k least) c ls))))
      (λ ls. cond (first_is (is_mark mark_.Question) ls)
      (unless_full s (suc d) c (conditional_behind s (tight s depth d least) c ls))
      (cond (is_second s.language) (and_then (mark s mark_.RightParen ls) (λ rest. Ok (c, rest)))
      (unless_full s (suc d) c (binary_behind s (tight s depth d least) c ls))))
  inside_row c =
      choice_seen (is_mark mark_.Question)
      (guarded (nat_le (suc k) (term_level c)) (nat_le (suc d) (term_level c)) s.process (fits_too c) (question_row c))
      (closed_row c) (λ z more is may. refl) (λ z more is may. closed_first z more)

  -- what leads on behind the first expression, if a level is left in language 1
  closed_fills : (c : ExpressionNode) → (s.language ≡ language.One → term_level c ≤ d) → Enough → (l : Language)
      → s.language ≡ l
      → Fills Anything (λ ls. cond (is_second s.language) (and_then (mark s mark_.RightParen ls) (λ rest. Ok (c, rest)))
      (unless_full s (suc d) c (binary_behind s (tight s depth d least) c ls)))
  closed_fills c fits so language.Two e =
      fills_as (λ more may. may) (λ ts rest y read may. rw e refl) ((ends_row c).sample so)
  closed_fills c fits so language.One e =
      let some = lt-leb (suc d) (term_level c) (omega (arith, fits e)) in
      fills_as (λ more may. may) (λ ts rest y read may. rw (e, some) refl) ((right_row c).sample so)

  inside_fills : (c : ExpressionNode) → (s.language ≡ language.One → term_level c ≤ d) → Enough
      → Fills Anything (λ ls. cond (first_is (is_mark mark_.Question) ls)
      (unless_full s (suc d) c (conditional_behind s (tight s depth d least) c ls))
      (cond (is_second s.language) (and_then (mark s mark_.RightParen ls) (λ rest. Ok (c, rest)))
      (unless_full s (suc d) c (binary_behind s (tight s depth d least) c ls))))
  inside_fills c fits so =
      passed_fills (is_mark mark_.Question)
      (guarded (nat_le (suc k) (term_level c)) (nat_le (suc d) (term_level c)) s.process (fits_too c) (question_row c))
      (closed_row c) (λ z more is may. refl) (λ z more is may. closed_first z more)
      (closed_fills c fits so s.language refl)

  -- an expression that was read in language 1 leaves a level
  leaves_level : Enough → (ls rest : List Lexeme) (c : ExpressionNode) → tight s depth (suc d) least ls ≡ Ok (c, rest)
      → s.language ≡ language.One → term_level c ≤ d
  leaves_level so ls rest c h one =
      let t = first_laws.laws.takes ls c rest h in
      let is = subst (λ (l : Language). SpellsTight l depth (loosest l) t.0.0 t.0.1 (kinds rest)) one t.2.0 in
      omega (arith, few_levels is (omega arith), so.first one, ap term_level t.1)

  element_row : (x : NameBytes) → Row {Z = Spelled × Unit {0}} s.end Enough (λ z. element x z.0.0)
      (λ z more. token.Mark mark_.LeftBracket ∷ z.0.1)
      (λ z more. Part z.0.0 z.0.1 (token.Mark mark_.RightBracket ∷ more) × Unit {0}) Anything
      (λ ls. and_then (mark (lower s) mark_.LeftBracket ls) (λ inside. and_then (tight (lower s) e k least inside)
      (λ i. and_then (mark (lower s) mark_.RightBracket i.1) (λ rest. Ok (element x i.0, rest)))))
      (λ ls. and_then (mark s mark_.LeftBracket ls) (λ inside. and_then (tight s depth d least inside)
      (λ i. and_then (mark s mark_.RightBracket i.1) (λ rest. Ok (element x i.0, rest)))))
  element_row x = behind (this_mark s mark_.LeftBracket) (bind inside_laws
      (λ i. behind (this_mark s mark_.RightBracket) (done {May = Anything} (element x i)))
      (λ y z more is may. closes (token.Mark mark_.RightBracket) more (at_bracket more)))

  operand_arms : (t : Token)
      → Arm s.end Enough (OperandOf s.language (suc depth) (suc d)) Ends t
      (tight_operand (lower s) (tight (lower s) e) k t)
      (tight_operand s (tight s depth) d t)
  unfolding tight_operand behind_name inside_behind
  operand_arms (token.Number k) =
      arm (λ start. done (numeral k)) (λ z more is. ((λ n small. as_number), omega arith))
  operand_arms (token.Name x) =
      arm (λ start. choice (is_mark mark_.LeftBracket) (as_seen (narrow (element_row x) (λ more may. tt)))
      (narrow (called_row x (operator_called s.language x)) (λ more may. (not_opened more may).1))
      (λ z more is may. refl) (λ w more is may. called_first w more may)) (name_back x)
  operand_arms (token.Mark mark_.Minus) =
      arm (λ start. mapped (λ e. minus e) (part OPERAND (omega arith) (λ one. omega arith)) looser_first)
      (λ z more is. ((λ n small. as_minus is.0), omega (arith, is.1)))
  operand_arms (token.Mark mark_.Not) =
      arm (λ start. mapped (λ e. negation e) (part OPERAND (omega arith) (λ one. omega arith)) looser_first)
      (λ z more is. ((λ n small. as_negation is.0), omega (arith, is.1)))
  operand_arms (token.Mark mark_.BitNot) =
      arm (λ start. mapped (λ e. complement e) (part OPERAND (omega arith) (λ one. omega arith)) looser_first)
      (λ z more is. ((λ n small. as_complement is.0), omega (arith, is.1)))
  operand_arms (token.Mark mark_.LeftParen) =
      arm (λ start. narrow (bind_by first_laws inside_row (λ c z more is may. inside_looser c z more is)
      (λ meets so before f. bind_fills (λ ts. tight s depth (suc d) least (before ++ ts)) _ meets f
      (inside_fills f.value (leaves_level so (before ++ (f.fill ++ [])) [] f.value
      (f.reads [] (some_loosest s.language))) so)))
      (λ more ends. tt))
      (λ z more is. inside_back z.0 z.1 more is.0 is.1)
  operand_arms _ = no_arm

  abbrev an_operand : List Lexeme → Read ExpressionNode
  an_operand ls = and_then (next s ls) (λ l. tight_operand s (tight s depth) d l.0.token l.0.start l.1)

  operand_row : Row {Z = (t : Token) × (operand_arms t).Value} s.end Enough (λ z. (operand_arms z.0).make z.1)
      (λ z more. z.0 ∷ (operand_arms z.0).spell z.1 more) (λ z more. (operand_arms z.0).Within z.1 more) Ends
      (λ ls. and_then (next (lower s) ls)
      (λ l. tight_operand (lower s) (tight (lower s) e) k l.0.token l.0.start l.1)) an_operand
  unfolding operand_arms
  operand_row = first_token s operand_arms (token.Number 1) tt

  operand_takes : (ls : List Lexeme) (e : ExpressionNode) (rest : List Lexeme) → an_operand ls ≡ Ok (e, rest)
      → TakesBound s.language (suc depth) (suc d) OPERAND (kinds ls) e rest
  operand_takes ls e rest h =
      let t = operand_row.laws.takes ls e rest h in
      let is = subst (λ (ts : List Token). OperandOf s.language (suc depth) (suc d) ((operand_arms t.0.0).make t.0.1) ts (kinds rest))
      (sym t.3) ((operand_arms t.0.0).back t.0.1 (kinds rest) t.2) in
      subst (λ (x : ExpressionNode). TakesBound s.language (suc depth) (suc d) OPERAND (kinds ls) x rest) t.1
      (record { spelled = is.0; level = is.1 })

  operand_at : (n : ℕ) (ls : List Lexeme) (e : ExpressionNode) (rest : List Lexeme) → an_operand ls ≡ Ok (e, rest)
      → tight s (suc depth) (suc d) n ls ≡ sides_behind s (tight s (suc depth) d) (suc d) n (suc d) OPERAND e rest
  unfolding tight tight_over
  operand_at n ls e rest h =
      in_turn (next s ls) (λ (l : Lexeme × List Lexeme). tight_operand s (tight s depth) d l.0.token l.0.start l.1)
      (λ (left : ExpressionNode × List Lexeme).
      sides_behind s (tight_over s (tight s depth) d) (suc d) n (suc d) OPERAND left.0 left.1)
      ∙ bound (an_operand ls) (e, rest) (λ (left : ExpressionNode × List Lexeme).
      sides_behind s (tight_over s (tight s depth) d) (suc d) n (suc d) OPERAND left.0 left.1) _ h refl

  -- an operand by its first token and what stands behind that
  operand_on : (n k : ℕ) (z : (t : Token) × (operand_arms t).Value) (more : List Token) (ls : List Lexeme)
      → k ≤ OPERAND → (operand_arms z.0).Within z.1 more → Ends more → kinds ls ≡ z.0 ∷ (operand_arms z.0).spell z.1 more
      → ReadsOn s (suc depth) d n k ((operand_arms z.0).make z.1) more ls
  operand_on n k z more ls small is ends h =
      let r = operand_row.laws.again ls z more is ends h in
      record {
        bound = OPERAND;
        rest = r.0;
        binds = small;
        reads = operand_at n ls ((operand_arms z.0).make z.1) r.0 r.1;
        after = r.2;
      }

  -- ---- the lemma of reading, by a reader of right sides

  module _ (sides : (n : ℕ) → n ≤ OPERAND → RowLaws {Z = ExpressionNode × List Token} (λ z. z.0) (λ z more. z.1)
      (λ z more. Tight s.language (suc depth) d n z.0 z.1 more) (Looser n) (tight s (suc depth) d n)) where
    reads_on : {k : ℕ} {e : ExpressionNode} {tokens more : List Token} → SpellsTight s.language (suc depth) k e tokens more → (n : ℕ)
        (ls : List Lexeme) → k ≤ OPERAND → n ≤ k → term_level e ≤ suc d → first_tightness more ≤ k → kinds ls ≡ tokens
        → ReadsOn s (suc depth) d n k e more ls
    unfolding operand_arms
    reads_on (as_number {n = k} {k = value} {more}) n ls small tight_enough level ends h =
        operand_on n k (token.Number value, tt) more ls small tt (omega (arith, small, ends)) h
    reads_on (as_name {n = k} {x} {more}) n ls small tight_enough level ends h =
        operand_on n k (token.Name x, inr (inr tt)) more ls small tt (omega (arith, small, ends)) h
    reads_on (as_element {n = k} {x} {e} {tokens} {more} he) n ls small tight_enough level ends h =
        operand_on n k (token.Name x, inl ((e, tokens), tt)) more ls small ((he, omega (arith, level)), tt)
        (omega (arith, small, ends)) h
    reads_on (as_minus {n = k} {e} {tokens} {more} he) n ls small tight_enough level ends h =
        operand_on n k (token.Mark mark_.Minus, (e, tokens)) more ls small (he, omega (arith, level))
        (omega (arith, small, ends)) h
    reads_on (as_negation {n = k} {e} {tokens} {more} he) n ls small tight_enough level ends h =
        operand_on n k (token.Mark mark_.Not, (e, tokens)) more ls small (he, omega (arith, level))
        (omega (arith, small, ends)) h
    reads_on (as_complement {n = k} {e} {tokens} {more} he) n ls small tight_enough level ends h =
        operand_on n k (token.Mark mark_.BitNot, (e, tokens)) more ls small (he, omega (arith, level))
        (omega (arith, small, ends)) h
    reads_on (in_parentheses {n = k} {e} {tokens} {more} two he) n ls small tight_enough level ends h =
        operand_on n k (token.Mark mark_.LeftParen, ((e, tokens), inr (inl tt))) more ls small (
          (
            subst (λ (l : Language). SpellsTight s.language depth (loosest l) e tokens (token.Mark mark_.RightParen ∷ more))
                (sym two) he,
            level,
          ),
          two,
        ) (omega (arith, small, ends)) h
    reads_on (as_call {n = k} {op = o} {x} {a} {b} {at_a} {at_b} {more} two named ha hb) n ls small tight_enough level ends
        h =
        operand_on n k (token.Name x, inr (inl (o, ((a, at_a), ((b, at_b), tt))))) more ls small (
          ap (λ (l : Language). operator_called l x) two ∙ called_back o x named,
          ((ha, omega (arith, level)), ((hb, omega (arith, level)), tt)),
        ) (omega (arith, small, ends)) h
    reads_on (as_sides {n = k} {op = o} {a} {b} {at_a} {at_b} {more} one between ha hb) n ls small tight_enough level ends
        h =
        operand_on n k (token.Mark mark_.LeftParen, ((a, at_a), inr (inr (o, ((b, at_b), tt))))) more ls small (
          (
            subst (λ (l : Language). SpellsTight s.language depth (loosest l) a at_a (token.Mark (operator_mark o) ∷ at_b))
                (sym one) ha,
            omega (arith, level),
          ),
          (
            one,
            (
              lt-leb (suc d) (term_level a) (omega (arith, level)),
              (
                between,
                (
                  (
                    subst (λ (l : Language). SpellsTight s.language depth (loosest l) b at_b (token.Mark mark_.RightParen ∷ more))
                        (sym one) hb,
                    omega (arith, level),
                  ),
                  tt,
                ),
              ),
            ),
          ),
        ) (omega (arith, small, ends)) h
    reads_on (as_conditional {n = k} {c} {a} {b} {at_c} {at_a} {at_b} {more} hc ha hb) n ls small tight_enough level ends
        h =
        operand_on n k (token.Mark mark_.LeftParen, ((c, at_c), inl ((a, at_a), ((b, at_b), tt)))) more ls small (
          (hc, omega (arith, level)),
          (
            lt-leb (suc d) (term_level c) (omega (arith, level)),
            ((ha, omega (arith, level)), ((hb, omega (arith, level)), tt)),
          ),
        ) (omega (arith, small, ends)) h
    reads_on (as_binary {n = k} {op = o} {a} {b} {at_a} {at_b} {more} fits between ha hb) n ls small tight_enough level ends
        h =
        let beside : first_tightness (token.Mark (operator_mark o) ∷ at_b) ≡ tightness o = operator_first o at_b between in
        let ra = reads_on ha n ls (left_below o) (omega (arith, left_is_tight o)) (omega (arith, level))
        (omega (arith, beside, left_is_tight o)) h in
        let sign = (an_operator {ok = Unit {0}} s).laws.again ra.rest o at_b between tt ra.after in
        let rb = (sides (right_side o) (right_below o)).again sign.0 (b, at_b) more (hb, omega (arith, level))
        (omega (arith, ends, right_is_tighter o)) sign.2 in
        let goes = goes_of n ra.bound ra.rest o at_b ra.after (record { tight_enough = omega arith; left = ra.binds; between = between }) in
        record {
          bound = tightness o;
          rest = rb.0;
          binds = fits;
          reads = ra.reads ∙ one_side s (tight s (suc depth) d) (suc d) n ra.bound a ra.rest o sign.0 b rb.0 goes
              (omega (arith, level)) sign.1 rb.1;
          after = rb.2;
        }

-- ---- expressions by their depth and their levels

no_depth : {l : Language} {n : ℕ} {e : ExpressionNode} {tokens more : List Token} → SpellsTight l 0 n e tokens more → ⊥
no_depth (as_binary fits between ha hb) = no_depth ha

deep_takes : (s : Scope) (ls : List Lexeme) (e : ExpressionNode) (rest : List Lexeme)
    → and_then {B = ExpressionNode × List Lexeme} (next s ls) (λ x. Err (level_fault s x.0)) ≡ Ok (e, rest) → ⊥
deep_takes s ls e rest h =
    let b = bind_ok {B = ExpressionNode × List Lexeme} (next s ls) (λ x. Err (level_fault s x.0)) (e, rest) h in
    no_value {A = ExpressionNode × List Lexeme} (level_fault s b.0.0) (e, rest) b.2

-- ---- how far an expression looks

-- an operator that goes further
record Sign (n bound : ℕ) (ls : List Lexeme) : Type 0 where
  op : Op
  lexeme : Lexeme
  rest : List Lexeme
  whole : ls ≡ lexeme ∷ rest
  found : token_operator lexeme.token ≡ Some op
  goes : goes_further n bound lexeme.token ≡ true
  fits : Fits n bound op

sign_of : (n bound : ℕ) (ls : List Lexeme) → first_is (goes_further n bound) ls ≡ true → Sign n bound ls
sign_of n bound [] h = absurd cc
sign_of n bound (l ∷ ls) h = by (token_operator l.token) refl where
  by : (found : Option Op) → token_operator l.token ≡ found → Sign n bound (l ∷ ls)
  by None e =
      let no : operator_fits n bound None ≡ true = ap (operator_fits n bound) (sym e) ∙ h in
      absurd cc
  by (Some o) e = record {
    op = o;
    lexeme = l;
    rest = ls;
    whole = refl;
    found = e;
    goes = h;
    fits = fits_of n bound (l ∷ ls) o (kinds ls) (ap (λ (t : Token). t ∷ kinds ls) (token_operator_is l.token o e))
        (token_operator_between l.token o e) h;
  }

operator_at : (s : Scope) (l : Lexeme) (ls : List Lexeme) (o : Op) → token_operator l.token ≡ Some o
    → operator s (l ∷ ls) ≡ Ok (o, ls)
unfolding operator read_as next and_then
operator_at s l ls o h = rw h refl

-- what operators and their right sides begin with binds no tighter than what stands before them
sides_meet : (s : Scope) (side : ℕ → List Lexeme → Read ExpressionNode) (levels n steps bound : ℕ)
    (left : ExpressionNode)
    (ts rest : List Lexeme) (y : ExpressionNode) → n ≤ bound → sides_behind s side levels n steps bound left ts ≡ Ok
    (y, rest)
    → Looser n (kinds rest) → first_tightness (kinds ts) ≤ bound
sides_meet s side levels n steps bound left ts rest y small h may = by (first_is (goes_further n bound) ts) refl where
  by : (b : Bool) → first_is (goes_further n bound) ts ≡ b → first_tightness (kinds ts) ≤ bound
  by true e =
      let sign = sign_of n bound ts e in
      let is : kinds ts ≡ token.Mark (operator_mark sign.op) ∷ kinds sign.rest =
      ap kinds sign.whole ∙ ap (λ (t : Token). t ∷ kinds sign.rest)
      (token_operator_is sign.lexeme.token sign.op sign.found) in
      omega (
        arith,
        ap first_tightness is,
        operator_first sign.op (kinds sign.rest) sign.fits.between,
        left_is_tight sign.op,
        sign.fits.left,
      )
  by false e =
      let same = ok_is (left, ts) (y, rest) (sym (no_step s side levels n steps bound left ts e) ∙ h) in
      let less = subst (λ (p : ExpressionNode × List Lexeme). Looser n (kinds p.1)) (sym same) may in
      omega (arith, less, small)

pub sides_fills : (s : Scope) (side : ℕ → List Lexeme → Read ExpressionNode) (levels n steps bound : ℕ)
    (left : ExpressionNode)
    → Fills (Looser n) (sides_behind s side levels n steps bound left)
sides_fills s side levels n steps bound left = record {
  fill = [];
  value = left;
  reads = λ other may. no_step s side levels n steps bound left other (stops_first n bound other may);
}

module _ (s : Scope) (low_side side : ℕ → List Lexeme → Read ExpressionNode) (low_levels levels n : ℕ)
    (higher : low_levels < levels)
    (looks : (k : ℕ) → k ≤ OPERAND → n < OPERAND → Looks s.end (Looser k) (low_side k) (side k)) where
  abbrev low_sides : (steps bound : ℕ) → ExpressionNode → List Lexeme → Read ExpressionNode
  low_sides = sides_behind (lower s) low_side low_levels n

  abbrev all_sides : (steps bound : ℕ) → ExpressionNode → List Lexeme → Read ExpressionNode
  all_sides = sides_behind s side levels n

  -- behind an operator
  abbrev right_side_of : (t : Scope) (side : ℕ → List Lexeme → Read ExpressionNode) (levels steps : ℕ) → ExpressionNode
      → Op
      → List Lexeme → Read ExpressionNode
  right_side_of t side levels steps left o ls =
      and_then (side (right_side o) ls)
      (λ right. sides_behind t side levels n steps (tightness o) (binary o left right.0) right.1)

  one_sign : (t : Scope) (side : ℕ → List Lexeme → Read ExpressionNode) (levels steps bound : ℕ) (left : ExpressionNode)
      (l : Lexeme) (ls : List Lexeme) (o : Op) → goes_further n bound l.token ≡ true → token_operator l.token ≡ Some o
      → nat_le levels (term_level left) ≡ false
      → sides_behind t side levels n (suc steps) bound left (l ∷ ls) ≡ right_side_of t side levels steps left o ls
  unfolding sides_behind and_then
  one_sign t side levels steps bound left l ls o goes found room =
      let first : first_is (goes_further n bound) (l ∷ ls) ≡ true = goes in
      let sign = operator_at t l ls o found in
      rw (first, room, sign) refl

  full_sign : (steps bound : ℕ) (left : ExpressionNode) (ls : List Lexeme) → first_is (goes_further n bound) ls ≡ true
      → nat_le low_levels (term_level left) ≡ true → low_sides steps bound left ls ≡ Err (fault.TooDeep s.process)
  unfolding sides_behind
  full_sign zero bound left ls goes full = rw goes refl
  full_sign (suc steps) bound left ls goes full = rw (goes, full) refl

  no_steps : (bound : ℕ) (left : ExpressionNode) (ls : List Lexeme) → first_is (goes_further n bound) ls ≡ true
      → low_sides 0 bound left ls ≡ Err (fault.TooDeep s.process)
  unfolding sides_behind
  no_steps bound left ls goes = rw goes refl

  -- behind what was read, where these steps are left
  abbrev Goes : (low_steps steps : ℕ) → Type 0
  Goes low_steps steps = (bound : ℕ) (left : ExpressionNode) → n ≤ bound → (ls : List Lexeme)
      → Look s.end (Looser n) (all_sides steps bound left) ls (low_sides low_steps bound left ls)

  no_sign : (low_steps steps bound : ℕ) (left : ExpressionNode) (ls : List Lexeme) → first_is (goes_further n bound) ls
      ≡ false
      → Look s.end (Looser n) (all_sides steps bound left) ls (low_sides low_steps bound left ls)
  no_sign low_steps steps bound left ls e =
      subst (Look s.end (Looser n) (all_sides steps bound left) ls)
      (sym (no_step (lower s) low_side low_levels n low_steps bound left ls e))
      (returns (record { before = []; whole = refl; again = kept })) where
        kept : (other : List Lexeme) → Near (Looser n) ls other → all_sides steps bound left other ≡ Ok (left, other)
        kept other (inl same) =
            no_step s side levels n steps bound left other (first_looks (goes_further n bound) ls other same ∙ e)
        kept other (inr may) = no_step s side levels n steps bound left other (stops_first n bound other may)

  right_look : (i j : ℕ) (left : ExpressionNode) (o : Op) → Goes i j → n ≤ tightness o → (ls : List Lexeme)
      → Look s.end (Looser n) (right_side_of s side levels j left o) ls
      (right_side_of (lower s) low_side low_levels i left o ls)
  right_look i j left o goes small ls =
      look_in_turn (side (right_side o)) (λ b. all_sides j (tightness o) (binary o left b)) meets
      (λ before f. bind_fills (λ ts. side (right_side o) (before ++ ts))
      (λ b. all_sides j (tightness o) (binary o left b))
      meets f (sides_fills s side levels n j (tightness o) (binary o left f.value)))
      (λ b. low_sides i (tightness o) (binary o left b)) (low_side (right_side o) ls)
      ((looks (right_side o) (right_below o) (omega (arith, small, below_operand o))).at ls)
      (λ b mid read. goes (tightness o) (binary o left b) small mid) where
        meets : Meets (Looser (right_side o)) (Looser n) (λ b. all_sides j (tightness o) (binary o left b))
        meets b ts rest y h may =
            omega (
              arith,
              right_is_tighter o,
              sides_meet s side levels n j (tightness o) (binary o left b) ts rest y small h may,
            )

  by_room : (i j : ℕ) (under : ℕ) (left : ExpressionNode) → Goes i j → (ls : List Lexeme)
      → first_is (goes_further n under) ls ≡ true → (full : Bool) → nat_le low_levels (term_level left) ≡ full
      → Look s.end (Looser n) (all_sides (suc j) under left) ls (low_sides (suc i) under left ls)
  by_room i j under left below ls goes true e =
      subst (Look s.end (Looser n) (all_sides (suc j) under left) ls)
      (sym (full_sign (suc i) under left ls goes e)) nests
  by_room i j under left below ls goes false e =
      let sign = sign_of n under ls goes in
      let room = lt-leb levels (term_level left) (omega (arith, higher, leb-false low_levels (term_level left) e)) in
      subst (λ ts. Look s.end (Looser n) (all_sides (suc j) under left) ts (low_sides (suc i) under left ts))
      (sym sign.whole)
      (subst (Look s.end (Looser n) (all_sides (suc j) under left) (sign.lexeme ∷ sign.rest))
      (sym (one_sign (lower s) low_side low_levels i under left sign.lexeme sign.rest sign.op sign.goes sign.found e))
      (passed sign.lexeme (λ ts. one_sign s side levels j under left sign.lexeme ts sign.op sign.goes sign.found room)
      (right_look i j left sign.op below sign.fits.tight_enough sign.rest)))

  by_sign : (i j under : ℕ) (left : ExpressionNode) → Goes i j → (ls : List Lexeme) (b : Bool)
      → first_is (goes_further n under) ls ≡ b
      → Look s.end (Looser n) (all_sides (suc j) under left) ls (low_sides (suc i) under left ls)
  by_sign i j under left below ls false e = no_sign (suc i) (suc j) under left ls e
  by_sign i j under left below ls true e = by_room i j under left below ls e (nat_le low_levels (term_level left)) refl

  no_step_left : (steps under : ℕ) (left : ExpressionNode) (ls : List Lexeme) (b : Bool) → first_is
      (goes_further n under) ls ≡ b
      → Look s.end (Looser n) (all_sides steps under left) ls (low_sides 0 under left ls)
  no_step_left steps under left ls false e = no_sign 0 steps under left ls e
  no_step_left steps under left ls true e =
      subst (Look s.end (Looser n) (all_sides steps under left) ls) (sym (no_steps under left ls e)) nests

  pub sides_look : (low_steps steps : ℕ) → low_steps ≤ steps → Goes low_steps steps
  sides_look zero steps more under left small ls = no_step_left steps under left ls
      (first_is (goes_further n under) ls) refl
  sides_look (suc i) zero more under left small ls = absurd (omega (arith, more))
  sides_look (suc i) (suc j) more under left small ls =
      by_sign i j under left (sides_look i j (omega (arith, more))) ls (first_is (goes_further n under) ls) refl

-- a token that no expression begins with
no_operand : (s : Scope) (inner : ℕ → ℕ → List Lexeme → Read ExpressionNode) (levels : ℕ) (t : Token) (start : ℕ)
    (ls : List Lexeme)
    → begins_expression t ≡ false → tight_operand s inner levels t start ls ≡ Err (fault.Grammar start)
unfolding tight_operand
no_operand s inner levels (token.Number k) start ls h = absurd cc
no_operand s inner levels (token.Name x) start ls h = absurd cc
no_operand s inner levels (token.Mark mark_.Minus) start ls h = absurd cc
no_operand s inner levels (token.Mark mark_.Not) start ls h = absurd cc
no_operand s inner levels (token.Mark mark_.BitNot) start ls h = absurd cc
no_operand s inner levels (token.Mark mark_.LeftParen) start ls h = absurd cc
no_operand s inner levels _ start ls h = refl

module _ (s : Scope) (depth : ℕ) (laws : ReadsTight s depth) where
  module _ (d : ℕ) (sides : (n : ℕ) → n ≤ OPERAND → RowLaws {Z = ExpressionNode × List Token} (λ z. z.0) (λ z more. z.1)
      (λ z more. Tight s.language (suc depth) d n z.0 z.1 more) (Looser n) (tight s (suc depth) d n)) where
    side_takes : Sides s.language (suc depth) d (tight s (suc depth) d)
    side_takes k ls e rest le h =
        let t = (sides k le).takes ls e rest h in
        subst (λ (x : ExpressionNode). TakesTight s.language (suc depth) d k (kinds ls) x rest) t.1 (record {
          spelled = subst (λ (ts : List Token). SpellsTight s.language (suc depth) k t.0.0 ts (kinds rest)) (sym t.3) t.2.0;
          level = t.2.1;
        })

    over_takes : (n : ℕ) (ls : List Lexeme) (e : ExpressionNode) (rest : List Lexeme) → n ≤ OPERAND
        → tight s (suc depth) (suc d) n ls ≡ Ok (e, rest) → TakesTight s.language (suc depth) (suc d) n (kinds ls) e rest
    unfolding tight tight_over
    over_takes n ls e rest small h =
        let x = bind_ok (next s ls) _ (e, rest) h in
        let a = bind_ok (tight_operand s (tight s depth) d x.0.0.token x.0.0.start x.0.1) _ (e, rest) x.2 in
        let operand = operand_takes s 0 0 depth d laws ls a.0.0 a.0.1 (bound (next s ls) x.0
        (λ (l : Lexeme × List Lexeme). tight_operand s (tight s depth) d l.0.token l.0.start l.1) (Ok a.0) x.1 a.1) in
        sides_take s (suc depth) d n (tight s (suc depth) d) side_takes (suc d) OPERAND (kinds ls) a.0.0 a.0.1 e rest
        small operand a.2

    over_laws : (n : ℕ) → n ≤ OPERAND → RowLaws {Z = ExpressionNode × List Token} (λ z. z.0) (λ z more. z.1)
        (λ z more. Tight s.language (suc depth) (suc d) n z.0 z.1 more) (Looser n) (tight s (suc depth) (suc d) n)
    over_laws n small = record {
      takes = λ ls e rest h.
          let t = over_takes n ls e rest small h in
          ((e, kinds ls), refl, (t.spelled, t.level), refl);
      again = λ ls z more is may h.
          let r = reads_on s 0 0 depth d laws sides is.0 n ls small (omega arith) is.1 (omega (arith, may)) h in
          let last : first_tightness (kinds r.rest) < n = subst (λ (ts : List Token). first_tightness ts < n) (sym r.after) may in (
            r.rest,
            r.reads ∙ no_side s (tight s (suc depth) d) (suc d) n r.bound z.0 r.rest
                (stops_first n r.bound r.rest last),
            r.after,
          );
      no_gap = λ z more is. omega (arith, tight_longer is.0);
    }

  -- an operand and what stands behind it
  abbrev over : (d n : ℕ) → Lexeme → List Lexeme → Read ExpressionNode
  over d n l ls =
      and_then (tight_operand s (tight s depth) d l.token l.start ls)
      (λ left. sides_behind s (tight s (suc depth) d) (suc d) n (suc d) OPERAND left.0 left.1)

  over_fills : (d n : ℕ) → Fills (Looser n) (tight s (suc depth) (suc d) n)
  unfolding tight tight_over tight_operand and_then
  over_fills d n = start_fills s (over d n) (record { token = token.Number 1; start = 0 }) (record {
    fill = [];
    value = numeral 1;
    reads = λ other may. no_step s (tight s (suc depth) d) (suc d) n (suc d) OPERAND (numeral 1) other
        (stops_first n OPERAND other may);
  })

  -- no level is left for the other reader
  base_looks : (d n : ℕ) → Looks {Y = ExpressionNode} s.end (Looser n)
      (λ ls. and_then (next (lower s) ls) (λ x. Err (level_fault s x.0))) (tight s (suc depth) (suc d) n)
  unfolding tight tight_over and_then
  base_looks d n =
      first_reads s (over d n) (over_fills d n) (λ l ls. Err (level_fault s l)) (Unit {0}) tt
      (λ l. by l (begins_expression l.token) refl) where
        by : (l : Lexeme) (b : Bool) → begins_expression l.token ≡ b
            → Starts {Y = ExpressionNode} s.end (Unit {0}) (Looser n) l.start (λ ls. Err (level_fault s l)) (over d n l)
        by l true e = inl (λ so. record { at = λ ls. rw e nests })
        by l false e = inr (λ ls. (rw e refl, rw (no_operand s (tight s depth) d l.token l.start ls e) refl))

  over_looks : (low_depth low_levels d n : ℕ) → n ≤ OPERAND → HasMore s low_depth low_levels (suc depth) (suc d) n
      → ((k : ℕ) → k ≤ OPERAND → low_levels - 1 < d → n < OPERAND → Looks s.end (Looser k)
      (tight (lower s) low_depth (low_levels - 1) k) (tight s (suc depth) d k))
      → Looks s.end (Looser n) (tight (lower s) low_depth low_levels n) (tight s (suc depth) (suc d) n)
  unfolding tight tight_over
  over_looks zero low_levels d n small so sides = base_looks d n
  over_looks (suc e) zero d n small so sides = base_looks d n
  over_looks (suc e) (suc k) d n small so sides =
      first_reads s (over d n) (over_fills d n)
      (λ l ls. and_then (tight_operand (lower s) (tight (lower s) e) k l.token l.start ls)
      (λ left. sides_behind (lower s) (tight (lower s) (suc e) k) (suc k) n (suc k) OPERAND left.0 left.1))
      (HasMore s (suc e) (suc k) (suc depth) (suc d) OPERAND)
      (record { deeper = so.deeper; higher = so.higher; first = so.first; tight = λ one. omega arith })
      (λ l. starts_on meets (λ before f. bind_fills _ _ meets f
      (sides_fills s (tight s (suc depth) d) (suc d) n (suc d) OPERAND f.value))
      ((operand_arms s e k depth d laws l.token).looks l.start)
      (λ so left. record {
        at = sides_look s (tight (lower s) (suc e) k) (tight s (suc depth) d) (suc k) (suc d) n so.higher
            at_side (suc k) (suc d) (omega (arith, so.higher)) OPERAND left small;
      })) where
        less : suc k - 1 ≡ k
        less = omega arith

        at_side : (i : ℕ) → i ≤ OPERAND → n < OPERAND → Looks s.end (Looser i) (tight (lower s) (suc e) k i)
            (tight s (suc depth) d i)
        at_side i le loose = subst (λ j. Looks s.end (Looser i) (tight (lower s) (suc e) j i)
            (tight s (suc depth) d i)) less
            (sides i le (omega (arith, so.higher)) loose)

        meets : Meets Ends (Looser n) (λ left. sides_behind s (tight s (suc depth) d) (suc d) n (suc d) OPERAND left)
        meets left ts rest y h may = sides_meet s (tight s (suc depth) d) (suc d) n
            (suc d) OPERAND left ts rest y small h may

  over_reads : ReadsTight s (suc depth)
  unfolding tight tight_over
  over_reads low_depth low_levels zero n small = record {
    laws = record {
      takes = λ ls e rest h. absurd (deep_takes s ls e rest h);
      again = λ ls z more is may h. absurd (some_level z.0 is.1);
      no_gap = λ z more is. absurd (some_level z.0 is.1);
    };
    looks = λ so. absurd (omega (arith, so.higher));
    sample = λ so. absurd (omega (arith, so.higher));
  }
  over_reads low_depth low_levels (suc d) n small = record {
    laws = over_laws d (λ k le. (over_reads 0 0 d k le).laws) n small;
    looks = λ so. over_looks low_depth low_levels d n small so
        (λ k le less loose. (over_reads low_depth (low_levels - 1) d k le).looks (record {
          deeper = so.deeper;
          higher = less;
          first = λ one. absurd (omega (arith, loose, so.tight one));
          tight = λ one. absurd (omega (arith, loose, so.tight one));
        }));
    sample = λ so. over_fills d n;
  }

pub tight_reads : (s : Scope) (depth : ℕ) → ReadsTight s depth
unfolding tight
tight_reads s zero low_depth low_levels levels n small = record {
  laws = record {
    takes = λ ls e rest h. absurd (deep_takes s ls e rest h);
    again = λ ls z more is may h. absurd (no_depth is.0);
    no_gap = λ z more is. absurd (no_depth is.0);
  };
  looks = λ so. absurd (omega (arith, so.deeper));
  sample = λ so. absurd (omega (arith, so.deeper));
}
tight_reads s (suc depth) low_depth low_levels levels n small =
    over_reads s depth (tight_reads s depth) low_depth low_levels levels n small

pub tight_takes : (s : Scope) (depth levels n : ℕ) (ls : List Lexeme) (e : ExpressionNode) (rest : List Lexeme)
    → n ≤ OPERAND → tight s depth levels n ls ≡ Ok (e, rest) → Tight s.language depth levels n e (kinds ls) (kinds rest)
tight_takes s depth levels n ls e rest small h =
    let t = (tight_reads s depth 0 0 levels n small).laws.takes ls e rest h in
    subst (λ (x : ExpressionNode). Tight s.language depth levels n x (kinds ls) (kinds rest)) t.1
    (subst (λ (ts : List Token). Tight s.language depth levels n t.0.0 ts (kinds rest)) (sym t.3) t.2)

-- ---- the canonical spelling

spell_binary : (depth n : ℕ) (o : Op) (a b : ExpressionNode) (at_a inside_a more : List Token)
    → (n ≤ tightness o → SpellsTight language.Two depth n (binary o a b) at_a more)
    → SpellsTight language.Two depth n (binary o a b) (token.Mark mark_.LeftParen ∷ inside_a) more
    → SpellsTight language.Two depth n (binary o a b)
    (cond (nat_le n (tightness o)) at_a (token.Mark mark_.LeftParen ∷ inside_a)) more
spell_binary depth n o a b at_a inside_a more bare inside =
    cond_both (nat_le n (tightness o)) at_a (token.Mark mark_.LeftParen ∷ inside_a)
    (λ (ts : List Token). SpellsTight language.Two depth n (binary o a b) ts more)
    (λ e. bare (leb-true n (tightness o) e)) (λ _. inside)

pub canonical_tight : (e : ExpressionNode) (depth n : ℕ) (more : List Token) → term_level e ≤ depth
    → SpellsTight language.Two depth n e (spell_tight n e more) more
canonical_tight e zero n more level = absurd (some_level e level)
canonical_tight (numeral k) (suc depth) n more level = as_number
canonical_tight (variable x) (suc depth) n more level = as_name
canonical_tight (element x e) (suc depth) n more level =
    as_element (canonical_tight e depth LOOSEST _ (omega (arith, level)))
canonical_tight (minus e) (suc depth) n more level =
    as_minus (canonical_tight e depth OPERAND more (omega (arith, level)))
canonical_tight (negation e) (suc depth) n more level =
    as_negation (canonical_tight e depth OPERAND more (omega (arith, level)))
canonical_tight (complement e) (suc depth) n more level =
    as_complement (canonical_tight e depth OPERAND more (omega (arith, level)))
canonical_tight (binary o a b) (suc depth) n more level =
    by_form (λ (ts : List Token). SpellsTight language.Two (suc depth) n (binary o a b) ts more) (operator_name o) _ _
    (λ x named. as_call refl named (canonical_tight a depth LOOSEST _ (omega (arith, level)))
    (canonical_tight b depth LOOSEST _ (omega (arith, level))))
    (λ between. spell_binary (suc depth) n o a b _ _ more
    (λ fits. as_binary fits between (canonical_tight a (suc depth) (left_side o) _ (omega (arith, level)))
    (canonical_tight b (suc depth) (right_side o) more (omega (arith, level))))
    (in_parentheses refl (as_binary (is_tight o) between (canonical_tight a depth (left_side o) _ (omega (arith, level)))
    (canonical_tight b depth (right_side o) (token.Mark mark_.RightParen ∷ more) (omega (arith, level))))))
canonical_tight (conditional c a b) (suc depth) n more level =
    as_conditional (canonical_tight c depth LOOSEST _ (omega (arith, level)))
    (canonical_tight a depth LOOSEST _ (omega (arith, level)))
    (canonical_tight b depth LOOSEST _ (omega (arith, level)))

-- the same in language 1, of what can be spelled
pub canonical_term : {m k : ℕ} {e : ExpressionNode} {tokens others : List Token}
    → SpellsTight language.One m k e tokens others → (depth n : ℕ) (more : List Token) → term_level e ≤ depth
    → SpellsTight language.One depth n e (spell_term e more) more
canonical_term {e = e} h zero n more level = absurd (some_level e level)
canonical_term as_number (suc depth) n more level = as_number
canonical_term as_name (suc depth) n more level = as_name
canonical_term (as_element h) (suc depth) n more level =
    as_element (canonical_term h depth OPERAND _ (omega (arith, level)))
canonical_term (as_minus h) (suc depth) n more level = as_minus (canonical_term h depth OPERAND more (omega (arith, level)))
canonical_term (as_negation h) (suc depth) n more level =
    as_negation (canonical_term h depth OPERAND more (omega (arith, level)))
canonical_term (as_complement h) (suc depth) n more level =
    as_complement (canonical_term h depth OPERAND more (omega (arith, level)))
canonical_term (in_parentheses two h) (suc depth) n more level =
    let no : language.One ≡ language.Two = two in
    absurd cc
canonical_term (as_call two named ha hb) (suc depth) n more level =
    let no : language.One ≡ language.Two = two in
    absurd cc
canonical_term (as_sides one between ha hb) (suc depth) n more level =
    as_sides refl between (canonical_term ha depth OPERAND _ (omega (arith, level)))
    (canonical_term hb depth OPERAND _ (omega (arith, level)))
canonical_term (as_conditional hc ha hb) (suc depth) n more level =
    as_conditional (canonical_term hc depth OPERAND _ (omega (arith, level)))
    (canonical_term ha depth OPERAND _ (omega (arith, level)))
    (canonical_term hb depth OPERAND _ (omega (arith, level)))
canonical_term (as_binary fits between ha hb) (suc depth) n more level =
    as_sides refl between (canonical_term ha depth OPERAND _ (omega (arith, level)))
    (canonical_term hb depth OPERAND _ (omega (arith, level)))
