-- What is read as a statement or a block is spelled so and nests no deeper than it may, and what is spelled so is read
-- again.
use Rattle.kpn_text_grammar.proofs.Common.{◌≡◌, ◌⊎◌, inl, inr, ℕ, zero, suc, ◌-◌, if◌then◌else◌, ◌<◌, ◌≤◌, Bool, true, false, not, ◌&&◌, List, [], ◌∷◌, ◌++◌, length, Ok, Err, refl, sym, ap, subst, ◌∙◌, arith, AllByRecursion, and_from, and_parts, Language, Lexeme, Token, Scope, is_mark, is_keyword}
use Rattle.kpn_text_tokens.specs.declared.tokens.Language.TheVariants as language
use Rattle.kpn_text_tokens.specs.declared.tokens.Token.TheVariants as token
use Rattle.kpn_text_tokens.specs.declared.tokens.Mark.TheVariants as mark_
use Rattle.kpn_text_tokens.specs.declared.tokens.Keyword.TheVariants as keyword_
use Rattle.kpn_text_grammar.specs.declared.fault.GrammarFault.TheVariants as fault
use Rattle.kpn_text_tokens.specs.Results.{and_then}
use Rattle.kpn_text_grammar.specs.Syntax.{NameBytes, ExpressionNode, StatementNode, assign, store, receive, send, choice, loop, Statements, no_statements, statement, as_statements}
use Rattle.kpn_text_grammar.specs.Spelling.{kinds, SpellsAll, SpellsStatement, as_assignment, as_store, as_read, as_write, as_if, as_while, SpellsStatements, nothing, one_more, SpellsElse, left_out, behind_else, SpellsSecond, with_braces, as_branch, begins_else, inner_levels, deepest_term, BlockIsWithin}
use Rattle.kpn_text_grammar.specs.Reading.{Read, first_is, next, mark, whole, many, is_second, assignment_behind, store_behind, target_behind, receive_behind, send_behind, else_behind, choice_behind, loop_behind, statement_behind, one_statement, declares, stands_in_block, all_of, block_behind, opened, too_deep, is_branch, branch, block, second_block}
use Rattle.kpn_text_grammar.proofs.Lookahead.{lower, Anything, Fills, Look, nests, Looking, Looks, bind_fills, bind_looks, deep_looks, fills_as, first_looks, looks_as, looks_same}
use Rattle.kpn_text_grammar.proofs.Steps.{bind_ok, bound, by_test, first_kind, is_keyword_same, is_mark_true, no_value, second_is_two}
use Rattle.kpn_text_grammar.proofs.TightLaws.{at_brace, at_bracket, at_semicolon}
use Rattle.kpn_text_grammar.proofs.WholeLaws.{Expression, Over, expression_of, is_over}
use Rattle.kpn_text_grammar.proofs.Readers.{this_mark, this_keyword, stepped, behind_step, Row, ReaderBy, ReadsBy, HasRoom, Unless, as_seen, sampled, given, narrow, done, behind, value, bind, mapped, As, recast, reads_by, a_name, choose, either, spell_either, Either, Arm, arm, no_arm, Begun, by_token, token_longer, begins, Elements, each_by, shortens}
use Rattle.kpn_text_grammar.proofs.Readers as rows

-- a statement within the limits of depth: its blocks nest at most so deep, and its expressions at most so many levels
pub record StatementIsWithin (levels depth : ℕ) (s : StatementNode) : Type 0 where
  pub blocks : inner_levels s ≤ depth
  pub terms : deepest_term s ≤ levels

-- ---- what readers of expressions, blocks and statements read

abbrev pub StatementOf : Scope → ℕ → StatementNode → List Token → List Token → Type 0
StatementOf s d st tokens more = SpellsStatement s.levels s.language st tokens more × StatementIsWithin s.levels d st

-- a block with its closing brace
abbrev pub BodyOf : Scope → ℕ → Statements → List Token → List Token → Type 0
BodyOf s d b tokens more =
    SpellsStatements s.levels s.language b tokens (token.Mark mark_.RightBrace ∷ more) × BlockIsWithin s.levels d b

-- the other reader has a level less, also of blocks
abbrev pub HasBlocks : Scope → (low_depth depth : ℕ) → Type 0
HasBlocks s low_depth depth = HasRoom s × (low_depth < depth)

abbrev ReadsBlocks : Scope → (low_depth depth : ℕ) → (low inner : List Lexeme → Read Statements) → Type 0
ReadsBlocks s e d low inner =
    Row {Z = Statements × List Token} s.end (HasBlocks s e d) (λ z. z.0) (λ z more. token.Mark mark_.LeftBrace ∷ z.1)
    (λ z more. BodyOf s d z.0 z.1 more) Anything low inner

abbrev SecondOf : Scope → ℕ → Statements → List Token → List Token → Type 0
SecondOf s d b tokens more = SpellsSecond s.levels s.language b tokens more × BlockIsWithin s.levels d b

-- no `else` follows
abbrev NoElse : List Token → Type 0
NoElse more = begins_else more ≡ false

abbrev ReadsSeconds : Scope → (low_depth depth : ℕ) → (low inner : List Lexeme → Read Statements) → Type 0
ReadsSeconds s e d low inner = ReaderBy s.end (HasBlocks s e d) (SecondOf s d) NoElse low inner

-- the second block of an `if`: it is left out, or stands behind `else`
abbrev ElseOf : Scope → ℕ → Unit {0} ⊎ (Statements × List Token) → List Token → Type 0
ElseOf s d = Either (λ (u : Unit {0}) more. (s.language ≡ language.Two) × NoElse more)
    (λ (z : Statements × List Token) more. SecondOf s d z.0 z.1 more)

abbrev else_block : Unit {0} ⊎ (Statements × List Token) → Statements
else_block = either (λ (u : Unit {0}). no_statements) (λ (z : Statements × List Token). z.0)

abbrev else_tokens : Unit {0} ⊎ (Statements × List Token) → List Token → List Token
else_tokens =
    spell_either (λ (u : Unit {0}) more. more) (λ (z : Statements × List Token) more. token.Keyword keyword_.Else ∷ z.1)

not_not : (b : Bool) → not b ≡ false → b ≡ true
not_not true h = refl
not_not false h = absurd cc

statement_starts : {levels : ℕ} {l : Language} {st : StatementNode} {tokens more : List Token}
    → SpellsStatement levels l st tokens more
    → begins stands_in_block tokens ≡ true
statement_starts (as_assignment h) = refl
statement_starts (as_store at_e hi he) = refl
statement_starts as_read = refl
statement_starts (as_write h) = refl
statement_starts (as_if he ha hb) = refl
statement_starts (as_while he hb) = refl

-- nor does one begin with `else`
statement_no_else : {levels : ℕ} {l : Language} {st : StatementNode} {tokens more : List Token}
    → SpellsStatement levels l st tokens more → NoElse tokens
statement_no_else (as_assignment h) = refl
statement_no_else (as_store at_e hi he) = refl
statement_no_else as_read = refl
statement_no_else (as_write h) = refl
statement_no_else (as_if he ha hb) = refl
statement_no_else (as_while he hb) = refl

brace_no_else : (more : List Token) → Unless stands_in_block more → NoElse more
brace_no_else [] h = refl
brace_no_else (t ∷ ts) h =
    let is : t ≡ token.Mark mark_.RightBrace = is_mark_true mark_.RightBrace t
    (not_not (is_mark mark_.RightBrace t) h) in
    ap (λ (t : Token). begins_else (t ∷ ts)) is

-- nor do they begin as arrays and tables do
pub no_declaration : {levels : ℕ} {l : Language} {b : Statements} {tokens more : List Token}
    → SpellsStatements levels l b tokens (token.Mark mark_.RightBrace ∷ more) → begins declares tokens ≡ false
no_declaration nothing = refl
no_declaration (one_more (as_assignment h) hs) = refl
no_declaration (one_more (as_store at_e hi he) hs) = refl
no_declaration (one_more as_read hs) = refl
no_declaration (one_more (as_write h) hs) = refl
no_declaration (one_more (as_if he ha hb) hs) = refl
no_declaration (one_more (as_while he hb) hs) = refl

-- ---- lists as statements

-- a block as a list of its statements
abbrev list_of : Statements → List StatementNode
list_of no_statements = []
list_of (statement s ss) = s ∷ list_of ss

all_spelled : (levels : ℕ) (l : Language) (ss : List StatementNode) (tokens more : List Token)
    → SpellsAll (SpellsStatement levels l) ss tokens more → SpellsStatements levels l (as_statements ss) tokens more
all_spelled levels l [] tokens more h =
    subst (λ (ts : List Token). SpellsStatements levels l no_statements ts more) (sym h) nothing
all_spelled levels l (st ∷ ss) tokens more (others, first, rest) =
    one_more first (all_spelled levels l ss others more rest)

each_spelled : {levels : ℕ} {l : Language} {b : Statements} {tokens more : List Token}
    → SpellsStatements levels l b tokens more → SpellsAll (SpellsStatement levels l) (list_of b) tokens more
each_spelled nothing = refl
each_spelled (one_more {others = others} h hs) = (others, h, each_spelled hs)

list_back : (b : Statements) → as_statements (list_of b) ≡ b
list_back no_statements = refl
list_back (statement st ss) = ap (statement st) (list_back ss)

all_are_within : (levels d : ℕ) (ss : List StatementNode) → AllByRecursion (StatementIsWithin levels d) ss
    → BlockIsWithin levels (suc d) (as_statements ss)
all_are_within levels d [] within = record { blocks = omega arith; terms = omega arith }
all_are_within levels d (st ∷ ss) within =
    let others = all_are_within levels d ss within.1 in
    record {
      blocks = omega (arith, within.0.blocks, others.blocks);
      terms =
          omega (arith, within.0.terms, others.terms);
    }

each_is_within : (levels d : ℕ) (b : Statements) → BlockIsWithin levels (suc d) b
    → AllByRecursion (StatementIsWithin levels d) (list_of b)
each_is_within levels d no_statements within = tt
each_is_within levels d (statement st ss) within = (
  record { blocks = omega (arith, within.blocks); terms = omega (arith, within.terms) },
  each_is_within levels d ss
      (record { blocks = omega (arith, within.blocks); terms = omega (arith, within.terms) }),
)

-- ---- the test of a language

and_false : (b c : Bool) → c ≡ false → (b && c) ≡ false
and_false true c h = h
and_false false c h = refl

not_false : (b : Bool) → not b ≡ true → b ≡ false
not_false true h = absurd cc
not_false false h = refl

not_true : (b : Bool) → b ≡ false → not b ≡ true
not_true true h = absurd cc
not_true false h = refl

first_else : (ls : List Lexeme) → begins_else (kinds ls) ≡ first_is (is_keyword keyword_.Else) ls
first_else [] = refl
first_else (l ∷ ls) = refl

branch_looks : (s : Scope) → Looking (is_branch s)
branch_looks s ls other h =
    ap (λ b. is_second s.language && b) (first_looks (is_keyword keyword_.If) ls other h)

-- a branch or a block in braces stands behind `else`
abbrev branch_or_braces : (s : Scope) (inner second : List Lexeme → Read Statements) → List Lexeme → Read Statements
branch_or_braces s inner second ls = if is_branch s ls then branch s inner second ls else opened s inner second ls

-- ---- each kind of statement

module _ (s : Scope) (e d : ℕ) (low_inner low_second inner second : List Lexeme → Read Statements)
    (blocks : ReadsBlocks s e d low_inner inner) (seconds : ReadsSeconds s e d low_second second) where
  abbrev Enough : Type 0
  Enough = HasBlocks s e d

  an_expression : ReaderBy s.end Enough (Expression s) (Over s.language) (whole (lower s)) (whole s)
  an_expression = expression_of s (λ so. so.0)

  else_row : Row s.end Enough else_block else_tokens (ElseOf s d) NoElse (else_behind (lower s) low_second)
      (else_behind s second)
  unfolding else_behind
  else_row =
      sampled (choose (λ ls. is_second s.language && not (first_is (is_keyword keyword_.Else) ls))
      (λ ls other h. ap (λ b. is_second s.language && not b) (first_looks (is_keyword keyword_.Else) ls other h))
      (λ u more. (s.language ≡ language.Two) × NoElse more) (λ z more. SecondOf s d z.0 z.1 more)
      (as_seen (done {May = NoElse} no_statements)) (as_seen (behind (this_keyword s keyword_.Else) seconds))
      (λ ls u more picked h is.
      let b = and_parts (is_second s.language) (not (first_is (is_keyword keyword_.Else) ls)) picked in (
        second_is_two s.language b.0,
        ap begins_else (sym h) ∙ first_else ls ∙ not_false (first_is (is_keyword keyword_.Else) ls) b.1,
      ))
      (λ ls z more passed h is. is)
      (λ ls u more h is may. (
        and_from _ _ (ap is_second is.0)
            (not_true (first_is (is_keyword keyword_.Else) ls) (sym (first_else ls) ∙ ap begins_else h ∙ is.1)),
        tt,
      ))
      (λ ls z more h is may. (is_else ls z more h, is))
      (λ u more is. tt) (λ z more is. is)
      (λ ls ts u more picked h is may.
      and_from _ _ (and_parts (is_second s.language) (not (first_is (is_keyword keyword_.Else) ls)) picked).0
      (not_true (first_is (is_keyword keyword_.Else) ts) (sym (first_else ts) ∙ ap begins_else h ∙ may)))
      (λ ls ts z more passed h is may. is_else ts z more h))
      (λ so. fills_as (λ more may. may) (λ ts rest y read may.
      let t = (behind (this_keyword s keyword_.Else) seconds).laws.takes ts y rest read in
      rw (is_else ts t.0 (kinds rest) t.3) refl) ((behind (this_keyword s keyword_.Else) seconds).sample so)) where
        is_else : (ls : List Lexeme) (z : Statements × List Token) (more : List Token)
            → kinds ls ≡ token.Keyword keyword_.Else ∷ z.1
            → (is_second s.language && not (first_is (is_keyword keyword_.Else) ls)) ≡ false
        is_else ls z more h = and_false _ _
            (ap not (first_kind (is_keyword keyword_.Else) ls (token.Keyword keyword_.Else) z.1 h))

  -- behind `if`
  abbrev Choice : Type 0
  Choice = (ExpressionNode × (Statements × Statements)) × List Token

  abbrev the_choice : Choice → StatementNode
  the_choice z = choice z.0.0 z.0.1.0 z.0.1.1

  abbrev ChoiceOf : Choice → List Token → Type 0
  ChoiceOf z more = StatementOf s d (the_choice z) (token.Keyword keyword_.If ∷ z.1) more

  abbrev ChoiceParts : Type 0
  ChoiceParts = (ExpressionNode × List Token) × ((Statements × List Token) × (Unit {0} ⊎ (Statements × List Token)))

  abbrev parts_choice : ChoiceParts → StatementNode
  parts_choice z = choice z.0.0 z.1.0.0 (else_block z.1.1)

  abbrev parts_tokens : ChoiceParts → List Token → List Token
  parts_tokens z more = z.0.1

  abbrev ArePartsOf : ChoiceParts → List Token → Type 0
  ArePartsOf z more =
      Expression s z.0.0 z.0.1 (token.Mark mark_.LeftBrace ∷ z.1.0.1)
      × (BodyOf s d z.1.0.0 z.1.0.1 (else_tokens z.1.1 more) × ElseOf s d z.1.1 more)

  choice_row : Row s.end Enough the_choice (λ z more. z.1) ChoiceOf NoElse
      (choice_behind (lower s) low_inner low_second)
      (choice_behind s inner second)
  unfolding choice_behind
  choice_row =
      recast (bind an_expression (λ e. value blocks
      (λ a. mapped (λ b. choice e a b) else_row (λ more may. may))) (λ x z more is may. is_over s.language (token.Mark mark_.LeftBrace) z.0.1 (at_brace z.0.1)))
      there back where
        there : (z : ChoiceParts) (more : List Token) → ArePartsOf z more
            → As parts_choice parts_tokens the_choice (λ z more. z.1) ChoiceOf z more
        there ((e, at_e), ((a, at_a), inl u)) more (he, (ha, hb)) = (
          ((e, (a, no_statements)), at_e),
          refl,
          (
            as_if he.0 ha.0 (left_out hb.0 hb.1),
            record {
              blocks = omega (arith, ha.1.blocks);
              terms = omega (arith, he.1, ha.1.terms);
            },
          ),
          refl,
        )
        there ((e, at_e), ((a, at_a), inr (b, at_b))) more (he, (ha, hb)) = (
          ((e, (a, b)), at_e),
          refl,
          (
            as_if he.0 ha.0 (behind_else hb.0),
            record {
              blocks = omega (arith, ha.1.blocks, hb.1.blocks);
              terms = omega (arith, he.1, ha.1.terms, hb.1.terms);
            },
          ),
          refl,
        )

        within_else : {b : Statements} {tokens more : List Token} → SpellsElse s.levels s.language b tokens more
            → BlockIsWithin s.levels d b
            → (z : Unit {0} ⊎ (Statements × List Token)) × (else_block z ≡ b) × ElseOf s d z more
            × (else_tokens z more ≡ tokens)
        within_else (left_out two ends) within = (inl tt, refl, (two, ends), refl)
        within_else (behind_else {b = b} {tokens = tokens} h) within = (inr (b, tokens), refl, (h, within), refl)

        back : (z : Choice) (more : List Token) → ChoiceOf z more
            → As the_choice (λ z more. z.1) parts_choice parts_tokens ArePartsOf z more
        back ((e, (a, b)), at_e) more (as_if {at_a = at_a} he ha hb, within) =
            let z = within_else hb (record { blocks = omega (arith, within.blocks); terms = omega (arith, within.terms) }) in (
              ((e, at_e), ((a, at_a), z.0)),
              ap (λ c. choice e a c) z.1,
              (
                (he, omega (arith, within.terms)),
                (
                  (
                    subst (λ (ts : List Token). SpellsStatements s.levels s.language a at_a
                        (token.Mark mark_.RightBrace ∷ ts)) (sym z.3) ha,
                    record { blocks = omega (arith, within.blocks); terms = omega (arith, within.terms) },
                  ),
                  z.2,
                ),
              ),
              refl,
            )

  -- behind a name: the brackets of a store, or the sign of an assignment
  abbrev Target : Type 0
  Target = ((ExpressionNode × List Token) × ((ExpressionNode × List Token) × Unit {0}))
      ⊎ ((ExpressionNode × List Token) × Unit {0})

  target_back : (x : NameBytes) (z : Target) (more : List Token)
      → Either (λ (z : (ExpressionNode × List Token) × ((ExpressionNode × List Token) × Unit {0})) more.
      Expression s z.0.0 z.0.1 (token.Mark mark_.RightBracket ∷ token.Mark mark_.Assign ∷ z.1.0.1)
      × (Expression s z.1.0.0 z.1.0.1 (token.Mark mark_.Semicolon ∷ more) × Unit {0}))
      (λ (z : (ExpressionNode × List Token) × Unit {0}) more.
      Expression s z.0.0 z.0.1 (token.Mark mark_.Semicolon ∷ more) × Unit {0}) z more
      → StatementOf s d
      (either (λ (z : (ExpressionNode × List Token) × ((ExpressionNode × List Token) × Unit {0})). store x z.0.0 z.1.0.0)
      (λ (z : (ExpressionNode × List Token) × Unit {0}). assign x z.0.0) z)
      (token.Name x ∷ spell_either
      (λ (z : (ExpressionNode × List Token) × ((ExpressionNode × List Token) × Unit {0})) more.
      token.Mark mark_.LeftBracket ∷ z.0.1)
      (λ (z : (ExpressionNode × List Token) × Unit {0}) more. token.Mark mark_.Assign ∷ z.0.1) z more) more
  target_back x (inl z) more is =
      (as_store z.1.0.1 is.0.0 is.1.0.0, record { blocks = omega arith; terms = omega (arith, is.0.1, is.1.0.1) })
  target_back x (inr z) more is = (as_assignment is.0.0, record { blocks = omega arith; terms = is.0.1 })

  statement_arms : (t : Token)
      → Arm s.end Enough (StatementOf s d) NoElse t (statement_behind (lower s) low_inner low_second t)
      (statement_behind s inner second t)
  unfolding statement_behind target_behind store_behind assignment_behind receive_behind send_behind loop_behind
  statement_arms (token.Name x) =
      arm (λ start. rows.choice (is_mark mark_.LeftBracket)
      (as_seen (behind (this_mark s mark_.LeftBracket) (bind an_expression (λ i. behind (this_mark s mark_.RightBracket)
      (behind (this_mark s mark_.Assign) (bind an_expression
      (λ e. behind (this_mark s mark_.Semicolon) (done {May = NoElse} (store x i e)))
      (λ x z more is may. is_over s.language (token.Mark mark_.Semicolon) more (at_semicolon more)))))
      (λ x z more is may. is_over s.language (token.Mark mark_.RightBracket) (token.Mark mark_.Assign ∷ z.0.1)
      (at_bracket (token.Mark mark_.Assign ∷ z.0.1))))))
      (behind (this_mark s mark_.Assign) (bind an_expression
      (λ e. behind (this_mark s mark_.Semicolon) (done {May = NoElse} (assign x e)))
      (λ x z more is may. is_over s.language (token.Mark mark_.Semicolon) more (at_semicolon more))))
      (λ z more is may. refl) (λ z more is may. refl))
      (target_back x)
  statement_arms (token.Keyword keyword_.Read) =
      arm (λ start. value (a_name s) (λ i. value (a_name s) (λ x. behind (this_mark s mark_.Semicolon)
      (done (receive i x))))) (λ z more is. (as_read, record { blocks = omega arith; terms = omega arith }))
  statement_arms (token.Keyword keyword_.Write) =
      arm (λ start. value (a_name s) (λ o. bind an_expression
      (λ e. behind (this_mark s mark_.Semicolon) (done (send o e))) (λ x z more is may. is_over s.language (token.Mark mark_.Semicolon) more (at_semicolon more))))
      (λ z more is. (as_write is.1.0.0, record { blocks = omega arith; terms = is.1.0.1 }))
  statement_arms (token.Keyword keyword_.If) = arm (λ start. choice_row) (λ z more is. is)
  statement_arms (token.Keyword keyword_.While) =
      arm (λ start. bind an_expression (λ e. mapped (λ b. loop e b) blocks (λ more may. tt))
      (λ x z more is may. is_over s.language (token.Mark mark_.LeftBrace) z.1 (at_brace z.1)))
      (λ z more is. (
        as_while is.0.0 is.1.0,
        record {
          blocks = omega (arith, is.1.1.blocks);
          terms = omega (arith, is.0.1, is.1.1.terms);
        },
      ))
  statement_arms _ = no_arm

  begun : {st : StatementNode} {tokens more : List Token} → SpellsStatement s.levels s.language st tokens more
      → StatementIsWithin s.levels d st → Begun statement_arms st tokens more
  unfolding statement_arms
  begun (as_assignment {x = x} {e = e} {tokens = ts} h) within =
      ((token.Name x, inr ((e, ts), tt)), refl, ((h, within.terms), tt), refl)
  begun (as_store {x = x} {i = i} {e = e} {at_i = at_i} at_e hi he) within = (
    (token.Name x, inl ((i, at_i), ((e, at_e), tt))),
    refl,
    ((hi, omega (arith, within.terms)), ((he, omega (arith, within.terms)), tt)),
    refl,
  )
  begun (as_read {i = i} {x = x}) within = ((token.Keyword keyword_.Read, (i, (x, tt))), refl, (tt, (tt, tt)), refl)
  begun (as_write {o = o} {e = e} {tokens = ts} h) within =
      ((token.Keyword keyword_.Write, (o, ((e, ts), tt))), refl, (tt, ((h, within.terms), tt)), refl)
  begun (as_if {e = e} {a = a} {b = b} {at_e = at_e} he ha hb) within =
      ((token.Keyword keyword_.If, ((e, (a, b)), at_e)), refl, (as_if he ha hb, within), refl)
  begun (as_while {e = e} {b = b} {at_e = at_e} {at_b = at_b} he hb) within = (
    (token.Keyword keyword_.While, ((e, at_e), (b, at_b))),
    refl,
    (
      (he, omega (arith, within.terms)),
      (hb, record { blocks = omega (arith, within.blocks); terms = omega (arith, within.terms) }),
    ),
    refl,
  )

  statement_parts : (st : StatementNode) (tokens more : List Token) → StatementOf s d st tokens more
      → Begun statement_arms st tokens more
  statement_parts st tokens more is = begun is.0 is.1

  statement_reads : ReaderBy s.end Enough (StatementOf s d) NoElse (one_statement (lower s) low_inner low_second)
      (one_statement s inner second)
  unfolding one_statement statement_arms
  statement_reads = by_token s statement_arms (token.Keyword keyword_.Read) tt statement_parts

  pub statement_ones : Elements {Z = StatementNode × List Token} s.end Enough stands_in_block (λ z. z.0) (λ z more. z.1)
      (λ z more. StatementOf s d z.0 z.1 more) NoElse (λ i. one_statement (lower s) low_inner low_second)
      (λ i. one_statement s inner second)
  statement_ones = record {
    laws = λ i. statement_reads;
    starts = λ z more is. statement_starts is.0;
    longer = λ z more is.
        token_longer statement_arms statement_parts z.0 z.1 more is;
    next = λ z more is. statement_no_else is.0;
    last = λ more ends. brace_no_else more ends;
  }

  -- ---- blocks

  pub body_reads : ReaderBy s.end Enough (BodyOf s (suc d)) Anything (block_behind (lower s) low_inner low_second)
      (block_behind s inner second)
  unfolding block_behind all_of
  body_reads =
      reads_by (bind (each_by (SpellsStatement s.levels s.language) (StatementIsWithin s.levels d) statement_ones 0)
      (λ ss. behind (this_mark s mark_.RightBrace) (done {May = Anything} (as_statements ss)))
      (λ x z more is may. refl))
      (λ z more is. (
        all_spelled s.levels s.language z.0.0 z.0.1 (token.Mark mark_.RightBrace ∷ more) is.0.0,
        all_are_within s.levels d z.0.0 is.0.1,
      ))
      (λ b tokens more is. (
        ((list_of b, tokens), tt),
        list_back b,
        ((each_spelled is.0, each_is_within s.levels d b is.1), tt),
        refl,
      ))

  opened_reads : Row {Z = Statements × List Token} s.end Enough (λ z. z.0) (λ z more. token.Mark mark_.LeftBrace ∷ z.1)
      (λ z more. BodyOf s (suc d) z.0 z.1 more) Anything (opened (lower s) low_inner low_second) (opened s inner second)
  unfolding opened
  opened_reads = behind (this_mark s mark_.LeftBrace) body_reads

  branch_row : Row s.end Enough (λ z. statement (the_choice z) no_statements)
      (λ z more. token.Keyword keyword_.If ∷ z.1) ChoiceOf
      NoElse (branch (lower s) low_inner low_second) (branch s inner second)
  unfolding branch
  branch_row =
      behind (this_keyword s keyword_.If) (mapped (λ c. statement c no_statements) choice_row (λ more may. may))

  second_reads : ReaderBy s.end Enough (SecondOf s (suc d)) NoElse (branch_or_braces (lower s) low_inner low_second)
      (branch_or_braces s inner second)
  second_reads =
      reads_by (sampled (choose (is_branch s) (branch_looks s) (λ z more. (s.language ≡ language.Two) × ChoiceOf z more)
      (λ z more. BodyOf s (suc d) z.0 z.1 more) (as_seen branch_row) (as_seen (narrow opened_reads (λ more may. tt)))
      (λ ls z more there h is. (
        second_is_two s.language
            (and_parts (is_second s.language) (first_is (is_keyword keyword_.If) ls) there).0,
        is,
      ))
      (λ ls z more there h is. is)
      (λ ls z more h is may. (and_from _ _ (ap is_second is.0) (is_if ls z more h), is.1))
      (λ ls z more h is may. (no_if ls z more h, is))
      (λ z more is. is.1) (λ z more is. is)
      (λ ls ts z more there h is may.
      and_from _ _ (and_parts (is_second s.language) (first_is (is_keyword keyword_.If) ls) there).0
      (is_if ts z more h))
      (λ ls ts z more there h is may. no_if ts z more h))
      (λ so. fills_as (λ more may. tt) (λ ts rest y read may.
      let t = opened_reads.laws.takes ts y rest read in
      rw (no_if ts t.0 (kinds rest) t.3) refl) (opened_reads.sample so))) there
      (λ b tokens more is. found is.0 is.1) where
        is_if : (ls : List Lexeme) (z : Choice) (more : List Token) → kinds ls ≡ token.Keyword keyword_.If ∷ z.1
            → first_is (is_keyword keyword_.If) ls ≡ true
        is_if ls z more h =
            first_kind (is_keyword keyword_.If) ls (token.Keyword keyword_.If) z.1 h ∙ is_keyword_same keyword_.If

        no_if : (ls : List Lexeme) (z : Statements × List Token) (more : List Token) → kinds ls
            ≡ token.Mark mark_.LeftBrace ∷ z.1
            → is_branch s ls ≡ false
        no_if ls z more h = and_false _ _ (first_kind (is_keyword keyword_.If) ls (token.Mark mark_.LeftBrace) z.1 h)

        there : (z : Choice ⊎ (Statements × List Token)) (more : List Token)
            → Either (λ z more. (s.language ≡ language.Two) × ChoiceOf z more)
            (λ z more. BodyOf s (suc d) z.0 z.1 more) z more
            → SecondOf s (suc d)
            (either (λ z. statement (the_choice z) no_statements) (λ (z : Statements × List Token). z.0) z)
            (spell_either (λ z more. token.Keyword keyword_.If ∷ z.1)
            (λ (z : Statements × List Token) more. token.Mark mark_.LeftBrace ∷ z.1) z more) more
        there (inl z) more is = (
          as_branch is.0 is.1.0,
          record {
            blocks = omega (arith, is.1.1.blocks);
            terms = omega (arith, is.1.1.terms);
          },
        )
        there (inr z) more is = (with_braces is.0, is.1)

        found : {b : Statements} {tokens more : List Token} → SpellsSecond s.levels s.language b tokens more
            → BlockIsWithin s.levels (suc d) b → (z : Choice ⊎ (Statements × List Token))
            × (either (λ z. statement (the_choice z) no_statements) (λ (z : Statements × List Token). z.0) z ≡ b)
            × Either (λ z more. (s.language ≡ language.Two) × ChoiceOf z more)
            (λ z more. BodyOf s (suc d) z.0 z.1 more) z more
            × (spell_either (λ z more. token.Keyword keyword_.If ∷ z.1)
            (λ (z : Statements × List Token) more. token.Mark mark_.LeftBrace ∷ z.1) z more ≡ tokens)
        found (with_braces {b = b} {tokens = tokens} h) within = (inr (b, tokens), refl, (h, within), refl)
        found (as_branch two (as_if {e = e} {a = a} {b = b} {at_e = at_e} he ha hb)) within = (
          inl ((e, (a, b)), at_e),
          refl,
          (
            two,
            (
              as_if he ha hb,
              record {
                blocks = omega (arith, within.blocks);
                terms = omega (arith, within.terms);
              },
            ),
          ),
          refl,
        )

-- ---- blocks by their levels

-- no block is read where no level is left
deep_takes : (s : Scope) (ls : List Lexeme) (b : Statements) (rest : List Lexeme) → too_deep s ls ≡ Ok (b, rest) → ⊥
unfolding too_deep
deep_takes s ls b rest h =
    let o = bind_ok {B = Statements × List Lexeme} (mark s mark_.LeftBrace ls) (λ _. Err (fault.TooDeep s.process))
    (b, rest) h in
    no_value {A = Statements × List Lexeme} (fault.TooDeep s.process) (b, rest) o.2

deep_second : (s : Scope) (ls : List Lexeme) (b : Statements) (rest : List Lexeme)
    → second_block s 0 ls ≡ Ok (b, rest) → ⊥
unfolding second_block
deep_second s ls b rest h =
    by_test (is_branch s ls) (Err (fault.TooDeep s.process)) (too_deep s ls) (Ok (b, rest)) h
    (λ _ k. no_value (fault.TooDeep s.process) (b, rest) k) (λ _ k. deep_takes s ls b rest k)

module _ (s : Scope) (inner second : List Lexeme → Read Statements) where
  -- the end of an empty block, and with its opening brace
  end_fill : Fills Anything (block_behind s inner second)
  unfolding block_behind all_of many mark next and_then
  end_fill = record {
    fill = record { token = token.Mark mark_.RightBrace; start = 0 } ∷ [];
    value = no_statements;
    reads = λ other may. refl;
  }

  braces_fill : Fills Anything (opened s inner second)
  unfolding opened
  braces_fill =
      fills_as (λ more may. may) (λ ts rest y e may. behind_step (mark s mark_.LeftBrace ts)
      (block_behind s inner second))
      (bind_fills (stepped (mark s mark_.LeftBrace)) (λ u. block_behind s inner second) (λ x ts rest y e may. tt)
      ((this_mark {ok = Unit {0}} s mark_.LeftBrace).row.sample tt) end_fill)

  -- where no level is left for the other reader, it refuses all but an opening brace
  braces_look : Looks s.end Anything (too_deep (lower s)) (opened s inner second)
  unfolding too_deep opened
  braces_look =
      looks_same (λ more may. may) (λ ls. behind_step (mark (lower s) mark_.LeftBrace ls)
      (λ rest. Err (fault.TooDeep s.process)))
      (λ ls. behind_step (mark s mark_.LeftBrace ls) (block_behind s inner second))
      (bind_looks (λ x ts rest y e may. tt)
      (λ before f. bind_fills (λ ts. stepped (mark s mark_.LeftBrace) (before ++ ts)) (λ u. block_behind s inner second)
      (λ x ts rest y e may. tt) f end_fill) ((this_mark {ok = Unit {0}} s mark_.LeftBrace).row.looks tt)
      (λ u. deep_looks (block_behind s inner second)))

  is_no_branch : (ts rest : List Lexeme) (b : Statements) → opened s inner second ts ≡ Ok (b, rest) → is_branch s ts
      ≡ false
  unfolding opened
  is_no_branch ts rest b h =
      let m = bind_ok (mark s mark_.LeftBrace ts) (block_behind s inner second) (b, rest) h in
      and_false _ _ (first_kind (is_keyword keyword_.If) ts (token.Mark mark_.LeftBrace) (kinds m.0)
      ((this_mark {ok = Unit {0}} s mark_.LeftBrace).row.laws.takes ts tt m.0
      (bound (mark s mark_.LeftBrace ts) m.0 _ _ m.1 refl)).3)

  second_fill : Fills NoElse (branch_or_braces s inner second)
  second_fill = fills_as (λ more may. tt) (λ ts rest b h may. rw (is_no_branch ts rest b h) refl) braces_fill

  second_look : Looks s.end NoElse (λ ls. if is_branch s ls then Err (fault.TooDeep s.process) else too_deep
      (lower s) ls)
      (branch_or_braces s inner second)
  second_look = record { at = λ ls. by ls (is_branch s ls) refl } where
    by : (ls : List Lexeme) (there : Bool) → is_branch s ls ≡ there
        → Look s.end NoElse (branch_or_braces s inner second) ls
        (if there then Err (fault.TooDeep s.process) else too_deep (lower s) ls)
    by ls true e = nests
    by ls false e =
        looks_as (λ more may. tt) (λ ts h. rw (branch_looks s ls ts h ∙ e) refl)
        (λ ts rest b h may. rw (is_no_branch ts rest b h) refl) (braces_look.at ls)

mutual
  unfolding block second_block too_deep

  pub block_reads : (s : Scope) (e d : ℕ) → ReadsBlocks s e d (block (lower s) e) (block s d)
  block_reads s e zero = record {
    laws = record {
      takes = λ ls b rest h. absurd (deep_takes s ls b rest h);
      again = λ ls z more is may h. absurd (omega (arith, is.1.blocks));
      no_gap = λ z more is. absurd (omega (arith, is.1.blocks));
    };
    looks = λ so. absurd (omega (arith, so.1));
    sample = λ so. absurd (omega (arith, so.1));
  }
  block_reads s zero (suc d) = record {
    laws = (opened_reads s 0 d (block (lower s) 0) (second_block (lower s) 0) (block s d) (second_block s d)
        (block_reads s 0 d) (second_block_reads s 0 d)).laws;
    looks = λ so. braces_look s (block s d) (second_block s d);
    sample = λ so. braces_fill s (block s d) (second_block s d);
  }
  block_reads s (suc e) (suc d) =
      given (opened_reads s e d (block (lower s) e) (second_block (lower s) e) (block s d)
      (second_block s d) (block_reads s e d) (second_block_reads s e d)) (λ so. (so.0, omega (arith, so.1)))

  pub second_block_reads : (s : Scope) (e d : ℕ) → ReadsSeconds s e d (second_block (lower s) e) (second_block s d)
  second_block_reads s e zero = record {
    laws = record {
      takes = λ ls b rest h. absurd (deep_second s ls b rest h);
      again = λ ls z more is may h. absurd (omega (arith, is.1.blocks));
      no_gap = λ z more is. absurd (omega (arith, is.1.blocks));
    };
    looks = λ so. absurd (omega (arith, so.1));
    sample = λ so. absurd (omega (arith, so.1));
  }
  second_block_reads s zero (suc d) = record {
    laws = (second_reads s 0 d (block (lower s) 0) (second_block (lower s) 0) (block s d) (second_block s d)
        (block_reads s 0 d) (second_block_reads s 0 d)).laws;
    looks = λ so. second_look s (block s d) (second_block s d);
    sample = λ so. second_fill s (block s d) (second_block s d);
  }
  second_block_reads s (suc e) (suc d) =
      given (second_reads s e d (block (lower s) e) (second_block (lower s) e) (block s d)
      (second_block s d) (block_reads s e d) (second_block_reads s e d)) (λ so. (so.0, omega (arith, so.1)))

-- the statements of a body and its closing brace
pub whole_body_reads : (s : Scope) → ReadsBy s (BodyOf s (suc (s.levels - 1))) Anything
    (λ s. block_behind s (block s (s.levels - 1)) (second_block s (s.levels - 1)))
whole_body_reads s =
    given (body_reads s (s.levels - 1 - 1) (s.levels - 1) (block (lower s) (s.levels - 1 - 1))
    (second_block (lower s) (s.levels - 1 - 1)) (block s (s.levels - 1)) (second_block s (s.levels - 1))
    (block_reads s (s.levels - 1 - 1) (s.levels - 1)) (second_block_reads s (s.levels - 1 - 1) (s.levels - 1)))
    (λ so. (so, omega (arith, so)))

-- a statement takes a token or more
pub statement_shortens : (s : Scope) (d : ℕ) (ls : List Lexeme) {st : StatementNode} {rest : List Lexeme}
    → one_statement s (block s d) (second_block s d) ls ≡ Ok (st, rest) → length rest < length ls
statement_shortens s d ls =
    shortens (statement_ones s 0 d (block (lower s) 0) (second_block (lower s) 0) (block s d) (second_block s d)
    (block_reads s 0 d) (second_block_reads s 0 d)) 0
