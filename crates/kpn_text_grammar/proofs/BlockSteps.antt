-- A block and its statements as the code takes them: by the level that is left.
use Rattle.kpn_text_grammar.proofs.Common.{◌≡◌, ℕ, zero, suc, ◌-◌, ◌<◌, true, false, List, Ok, Err, refl, arith, Lexeme, GrammarFault, Scope}
use Rattle.kpn_text_tokens.specs.declared.tokens.Mark.TheVariants as mark_
use Rattle.kpn_text_grammar.specs.declared.fault.GrammarFault.TheVariants as fault
use Rattle.kpn_text_tokens.specs.Results.{and_then}
use Rattle.kpn_text_grammar.specs.Reading.{ReadingFails, mark, block_behind, opened, too_deep, is_branch, branch, block, second_block}

pub block_below : (s : Scope) (d : ℕ) (ls inside : List Lexeme) → 0 < d → mark s mark_.LeftBrace ls ≡ Ok inside
    → block s d ls ≡ block_behind s (block s (d - 1)) (second_block s (d - 1)) inside
unfolding block opened and_then
block_below s zero ls inside some h = absurd (omega arith)
block_below s (suc d) ls inside some h =
    let less : suc d - 1 ≡ d = omega arith in
    rw (h, less) refl

pub block_deep : (s : Scope) (d : ℕ) (ls inside : List Lexeme) → d ≡ 0 → mark s mark_.LeftBrace ls ≡ Ok inside
    → block s d ls ≡ Err (fault.TooDeep s.process)
unfolding block too_deep and_then
block_deep s zero ls inside none h = rw h refl
block_deep s (suc d) ls inside none h = absurd (omega arith)

pub block_unopened : (s : Scope) (d : ℕ) (ls : List Lexeme) (e : GrammarFault) → ReadingFails e (mark s mark_.LeftBrace ls)
    → ReadingFails e (block s d ls)
unfolding block opened too_deep and_then
block_unopened s zero ls fault.NoMemory h = tt
block_unopened s zero ls (fault.Grammar at) h = rw h refl
block_unopened s zero ls (fault.TooDeep p) h = rw h refl
block_unopened s (suc d) ls fault.NoMemory h = tt
block_unopened s (suc d) ls (fault.Grammar at) h = rw h refl
block_unopened s (suc d) ls (fault.TooDeep p) h = rw h refl

-- what stands behind `else`
pub second_is_block : (s : Scope) (d : ℕ) (ls : List Lexeme) → is_branch s ls ≡ false → second_block s d ls ≡ block s d ls
unfolding block second_block
second_is_block s zero ls braces = rw braces refl
second_is_block s (suc d) ls braces = rw braces refl

pub second_deep : (s : Scope) (d : ℕ) (ls : List Lexeme) → d ≡ 0 → is_branch s ls ≡ true
    → second_block s d ls ≡ Err (fault.TooDeep s.process)
unfolding second_block
second_deep s zero ls none there = rw there refl
second_deep s (suc d) ls none there = absurd (omega arith)

pub second_below : (s : Scope) (d : ℕ) (ls : List Lexeme) → 0 < d → is_branch s ls ≡ true
    → second_block s d ls ≡ branch s (block s (d - 1)) (second_block s (d - 1)) ls
unfolding second_block
second_below s zero ls some there = absurd (omega arith)
second_below s (suc d) ls some there =
    let less : suc d - 1 ≡ d = omega arith in
    rw (there, less) refl
