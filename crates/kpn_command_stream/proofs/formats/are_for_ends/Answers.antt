-- One more word is for an end, and for another than those before it.
use Rattle.kpn_command_stream.proofs.Common.{◌≢◌, List, Bor, ℕ, All, subst, arith, AllPairs, IsForEnd, format_end}
use Rattle.std.proofs.lemmas.List.{take_all}
use Rattle.kpn_command_base.proofs.Apart.{one_more}
use Rattle.kpn_command_stream.proofs.Worded.{All-unmap, pair_more, pairs_first, pairs_unmap}
use Rattle.kpn_command_stream.proofs.formats.are_for_ends.Goals as goal

pub loop-i-preserved : goal.loop-i-preserved
loop-i-preserved c = (
  one_more (λ word. IsForEnd c.args.document.now word.now) c.args.words.now c.loop-i.i _ c.loop-i-test.true
      c.loop-i.invariant.0 (c.is_for_end.ensures.is c.if-not-is_for_end.false),
  pair_more (λ word later. format_end word.now ≢ format_end later.now) c.args.words.now c.loop-i.i _ c.loop-i-test.true
      c.loop-i.invariant.1 (c.is_said.ensures.other c.if-is_said.false),
)

pub returns-then-not-is_for_end-clause-none : goal.returns-then-not-is_for_end-clause-none
returns-then-not-is_for_end-clause-none c = λ _ are.
    c.is_for_end.ensures.none c.if-not-is_for_end.true
    (All-unmap (IsForEnd c.args.document.now) (λ word. word.now) c.args.words.now are.ends c.loop-i.i _
    c.loop-i-test.true)

pub returns-then-is_said-clause-none : goal.returns-then-is_said-clause-none
returns-then-is_said-clause-none c = λ _ are.
    c.is_said.ensures.said c.if-is_said.true
    (pairs_first (λ word later. format_end word.now ≢ format_end later.now) c.args.words.now c.loop-i.i _
    c.loop-i-test.true
    (pairs_unmap (λ word later. format_end word ≢ format_end later) (λ word. word.now) c.args.words.now are.apart))

pub returns-clause-ends : goal.returns-clause-ends
returns-clause-ends c = λ _.
    subst (λ (ws : List (Bor (List ℕ))). All (λ word. IsForEnd c.args.document.now word.now) ws)
    (take_all c.loop-i.i c.args.words.now (omega (arith, c.loop-i-test.false))) c.loop-i.invariant.0

pub returns-clause-apart : goal.returns-clause-apart
returns-clause-apart c = λ _.
    subst (λ (ws : List (Bor (List ℕ))). AllPairs (λ word later. format_end word.now ≢ format_end later.now) ws)
    (take_all c.loop-i.i c.args.words.now (omega (arith, c.loop-i-test.false))) c.loop-i.invariant.1
