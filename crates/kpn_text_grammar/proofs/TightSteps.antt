-- A turn of the loop that reads operators and their right sides: to go on behind what was read so far is to read the
-- whole.
use Rattle.kpn_text_grammar.proofs.Common.{◌≡◌, ℕ, zero, suc, ◌-◌, ◌<◌, ◌≤◌, min, true, false, List, length, Ok, Err, refl, sym, ap, ◌∙◌, arith, le-leb, lt-leb, Lexeme, GrammarFault, Scope, Op, ExpressionNode, binary, tightness, right_side, OPERAND, term_level}
use Rattle.kpn_text_grammar.specs.declared.fault.GrammarFault.TheVariants as fault
use Rattle.kpn_text_tokens.specs.Results.{and_then}
use Rattle.kpn_text_grammar.specs.Reading.{Read, ReadingFails, next, operator, level_fault, first_is, goes_further, sides_behind, tight_operand, tight_over, tight}
use Rattle.kpn_text_grammar.proofs.Readers.{kinds_length}
use Rattle.kpn_text_grammar.proofs.TightReads.{no_side, one_side, tight_longer, tight_takes}
use Rattle.kpn_text_grammar.proofs.TightLaws.{operator_takes}

-- How far the loop is: its left side has so many levels, no more than there are.
pub record GoesOn (s : Scope) (depth levels n bound left_levels : ℕ) (left : ExpressionNode) (ls : List Lexeme)
    (total : Read ExpressionNode) : Type 0 where
  pub counted : left_levels ≡ term_level left
  pub few : left_levels ≤ levels
  pub some : 0 < levels
  pub whole : sides_behind s (tight s depth (levels - 1)) levels n levels bound left ls ≡ total

-- before the first turn
pub first_turn : (s : Scope) (depth levels n : ℕ) (ls : List Lexeme) (l : Lexeme) (after : List Lexeme) (left : ExpressionNode)
    (rest : List Lexeme) → 0 < depth → 0 < levels → next s ls ≡ Ok (l, after)
    → tight_operand s (tight s (depth - 1)) (levels - 1) l.token l.start after ≡ Ok (left, rest)
    → sides_behind s (tight s depth (levels - 1)) levels n levels OPERAND left rest ≡ tight s depth levels n ls
unfolding tight tight_over and_then
first_turn s zero levels n ls l after left rest some_depth some h o = absurd (omega arith)
first_turn s (suc depth) zero n ls l after left rest some_depth some h o = absurd (omega arith)
first_turn s (suc depth) (suc levels) n ls l after left rest some_depth some h o =
    let d : suc depth - 1 ≡ depth = omega arith in
    let e : suc levels - 1 ≡ levels = omega arith in
    let operand : tight_operand s (tight s depth) levels l.token l.start after ≡ Ok (left, rest) =
    rw (d, e) at o in
    rw (e, h, operand) refl

-- an operator and its right side take tokens
pub side_shortens : (s : Scope) (depth levels n : ℕ) (ls : List Lexeme) (o : Op) (after : List Lexeme) (b : ExpressionNode)
    (rest : List Lexeme) → n ≤ OPERAND → operator s ls ≡ Ok (o, after) → tight s depth levels n after ≡ Ok (b, rest)
    → length rest < length ls
side_shortens s depth levels n ls o after b rest small sign side =
    omega (
      arith,
      ap length (operator_takes s ls o after sign),
      tight_longer (tight_takes s depth levels n after b rest small side).0,
      kinds_length ls,
      kinds_length after,
      kinds_length rest,
    )

-- the operand fails
pub operand_fails : (s : Scope) (depth levels n : ℕ) (ls : List Lexeme) (l : Lexeme) (after : List Lexeme)
    (e : GrammarFault) → 0 < depth → 0 < levels → next s ls ≡ Ok (l, after)
    → ReadingFails e (tight_operand s (tight s (depth - 1)) (levels - 1) l.token l.start after)
    → ReadingFails e (tight s depth levels n ls)
unfolding tight tight_over and_then
operand_fails s zero levels n ls l after e some_depth some h failed = absurd (omega arith)
operand_fails s (suc depth) zero n ls l after e some_depth some h failed = absurd (omega arith)
operand_fails s (suc depth) (suc levels) n ls l after fault.NoMemory some_depth some h failed = tt
operand_fails s (suc depth) (suc levels) n ls l after (fault.Grammar at) some_depth some h failed =
    let d : suc depth - 1 ≡ depth = omega arith in
    let e : suc levels - 1 ≡ levels = omega arith in
    let operand : tight_operand s (tight s depth) levels l.token l.start after ≡ Err (fault.Grammar at) =
    rw (d, e) at failed in
    rw (h, operand) refl
operand_fails s (suc depth) (suc levels) n ls l after (fault.TooDeep p) some_depth some h failed =
    let d : suc depth - 1 ≡ depth = omega arith in
    let e : suc levels - 1 ≡ levels = omega arith in
    let operand : tight_operand s (tight s depth) levels l.token l.start after ≡ Err (fault.TooDeep p) =
    rw (d, e) at failed in
    rw (h, operand) refl

-- no level is left, or no token
pub tight_none : (s : Scope) (depth levels n : ℕ) (ls : List Lexeme) (l : Lexeme) (after : List Lexeme)
    → min depth levels ≡ 0 → next s ls ≡ Ok (l, after) → tight s depth levels n ls ≡ Err (level_fault s l)
unfolding tight tight_over and_then
tight_none s zero levels n ls l after none h = rw h refl
tight_none s (suc depth) zero n ls l after none h = rw h refl
tight_none s (suc depth) (suc levels) n ls l after none h = absurd (omega arith)

pub tight_ends : (s : Scope) (depth levels n : ℕ) (ls : List Lexeme) (e : GrammarFault) → ReadingFails e (next s ls)
    → ReadingFails e (tight s depth levels n ls)
unfolding tight tight_over and_then
tight_ends s zero levels n ls fault.NoMemory h = tt
tight_ends s zero levels n ls (fault.Grammar at) h = rw h refl
tight_ends s zero levels n ls (fault.TooDeep p) h = rw h refl
tight_ends s (suc depth) zero n ls fault.NoMemory h = tt
tight_ends s (suc depth) zero n ls (fault.Grammar at) h = rw h refl
tight_ends s (suc depth) zero n ls (fault.TooDeep p) h = rw h refl
tight_ends s (suc depth) (suc levels) n ls fault.NoMemory h = tt
tight_ends s (suc depth) (suc levels) n ls (fault.Grammar at) h = rw h refl
tight_ends s (suc depth) (suc levels) n ls (fault.TooDeep p) h = rw h refl

module _ (s : Scope) (depth levels n bound left_levels : ℕ) (left : ExpressionNode) (ls : List Lexeme) (total : Read ExpressionNode)
    (stands : GoesOn s depth levels n bound left_levels left ls total) where
  full_step : (i : ℕ) → first_is (goes_further n bound) ls ≡ true → levels ≤ left_levels
      → sides_behind s (tight s depth (levels - 1)) levels n i bound left ls ≡ Err (fault.TooDeep s.process)
  unfolding sides_behind
  full_step zero goes full = rw goes refl
  full_step (suc i) goes full =
      let all = le-leb levels (term_level left) (omega (arith, full, stands.counted)) in
      rw (goes, all) refl

  -- the left side has all levels
  pub full_turn : first_is (goes_further n bound) ls ≡ true → levels ≤ left_levels
      → total ≡ Err (fault.TooDeep s.process)
  full_turn goes full = sym stands.whole ∙ full_step levels goes full

  sign_step : (f : GrammarFault) (i : ℕ) → 0 < i → first_is (goes_further n bound) ls ≡ true → left_levels < levels
      → operator s ls ≡ Err f → sides_behind s (tight s depth (levels - 1)) levels n i bound left ls ≡ Err f
  unfolding sides_behind and_then
  sign_step f zero some goes room failed = absurd (omega arith)
  sign_step f (suc i) some goes room failed =
      let less = lt-leb levels (term_level left) (omega (arith, room, stands.counted)) in
      rw (goes, less, failed) refl

  side_step : (f : GrammarFault) (o : Op) (after : List Lexeme) (i : ℕ) → 0 < i
      → first_is (goes_further n bound) ls ≡ true → left_levels < levels → operator s ls ≡ Ok (o, after)
      → tight s depth (levels - 1) (right_side o) after ≡ Err f
      → sides_behind s (tight s depth (levels - 1)) levels n i bound left ls ≡ Err f
  unfolding sides_behind and_then
  side_step f o after zero some goes room sign failed = absurd (omega arith)
  side_step f o after (suc i) some goes room sign failed =
      let less = lt-leb levels (term_level left) (omega (arith, room, stands.counted)) in
      rw (goes, less, sign, failed) refl

  sign_err : (f : GrammarFault) → first_is (goes_further n bound) ls ≡ true → left_levels < levels
      → operator s ls ≡ Err f → total ≡ Err f
  sign_err f goes room failed = sym stands.whole ∙ sign_step f levels stands.some goes room failed

  side_err : (f : GrammarFault) (o : Op) (after : List Lexeme) → first_is (goes_further n bound) ls ≡ true
      → left_levels < levels → operator s ls ≡ Ok (o, after)
      → tight s depth (levels - 1) (right_side o) after ≡ Err f → total ≡ Err f
  side_err f o after goes room sign failed =
      sym stands.whole ∙ side_step f o after levels stands.some goes room sign failed

  -- the operator or its right side fails
  pub sign_fails : (e : GrammarFault) → first_is (goes_further n bound) ls ≡ true → left_levels < levels
      → ReadingFails e (operator s ls) → ReadingFails e total
  sign_fails fault.NoMemory goes room failed = tt
  sign_fails (fault.Grammar at) goes room failed = sign_err (fault.Grammar at) goes room failed
  sign_fails (fault.TooDeep p) goes room failed = sign_err (fault.TooDeep p) goes room failed

  pub side_fails : (e : GrammarFault) (o : Op) (after : List Lexeme) → first_is (goes_further n bound) ls ≡ true
      → left_levels < levels → operator s ls ≡ Ok (o, after)
      → ReadingFails e (tight s depth (levels - 1) (right_side o) after) → ReadingFails e total
  side_fails fault.NoMemory o after goes room sign failed = tt
  side_fails (fault.Grammar at) o after goes room sign failed =
      side_err (fault.Grammar at) o after goes room sign failed
  side_fails (fault.TooDeep p) o after goes room sign failed =
      side_err (fault.TooDeep p) o after goes room sign failed

  pub last_turn : first_is (goes_further n bound) ls ≡ false → total ≡ Ok (left, ls)
  last_turn stops = sym stands.whole ∙ no_side s (tight s depth (levels - 1)) levels n bound left ls stops

  pub next_turn : (o : Op) (after : List Lexeme) (b : ExpressionNode) (rest : List Lexeme) (more both_levels : ℕ)
      → first_is (goes_further n bound) ls ≡ true → left_levels < levels → operator s ls ≡ Ok (o, after)
      → tight s depth (levels - 1) (right_side o) after ≡ Ok (b, rest) → more ≡ term_level b → more ≤ levels - 1
      → both_levels ≡ term_level (binary o left b)
      → GoesOn s depth levels n (tightness o) both_levels (binary o left b) rest total
  next_turn o after b rest more both_levels goes room sign right counted few both = record {
    counted = both;
    few = omega (arith, room, counted, few, both, stands.counted, stands.some);
    some = stands.some;
    whole = sym (one_side s (tight s depth (levels - 1)) levels n bound left ls o after b rest goes
        (omega (arith, room, stands.counted)) sign right) ∙ stands.whole;
  }
