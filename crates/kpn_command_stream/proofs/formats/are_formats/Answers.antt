-- One more word says a format.
use Rattle.kpn_command_stream.proofs.Common.{List, Bor, ℕ, All, subst, arith, SaysFormat}
use Rattle.std.proofs.lemmas.List.{take_all}
use Rattle.kpn_command_base.proofs.Apart.{one_more}
use Rattle.kpn_command_stream.proofs.formats.are_formats.Goals as goal

pub loop-word-preserved : goal.loop-word-preserved
loop-word-preserved c =
    one_more (λ word. SaysFormat word.now) c.args.words.now c.loop-word.word-index _ c.loop-word-test.true
    c.loop-word.invariant (c.is_format.ensures.says c.if-not-is_format.false)

pub returns-then-not-is_format-clause-none : goal.returns-then-not-is_format-clause-none
returns-then-not-is_format-clause-none c = λ _ all.
    c.is_format.ensures.none c.if-not-is_format.true (all c.loop-word.word-index _ c.loop-word-test.true)

pub returns-clause-says : goal.returns-clause-says
returns-clause-says c = λ _.
    subst (λ (ws : List (Bor (List ℕ))). All (λ word. SaysFormat word.now) ws)
    (take_all c.loop-word.word-index c.args.words.now (omega (arith, c.loop-word-test.false))) c.loop-word.invariant
