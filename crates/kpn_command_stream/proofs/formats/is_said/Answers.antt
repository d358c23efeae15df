-- One more word is for other ends.
use Rattle.kpn_command_stream.proofs.Common.{◌≢◌, List, Bor, ℕ, All, subst, arith, format_end}
use Rattle.std.proofs.lemmas.List.{take_all}
use Rattle.kpn_command_base.proofs.Apart.{one_more}
use Rattle.kpn_command_stream.proofs.formats.is_said.Goals as goal

pub loop-before-preserved : goal.loop-before-preserved
loop-before-preserved c =
    one_more (λ before. format_end before.now ≢ format_end c.args.word.now) c.args.words.now
    c.loop-before.before-index _
    c.loop-before-test.true c.loop-before.invariant (c.are_for_same.ensures.others c.if-are_for_same.false)

pub returns-then-are_for_same-clause-said : goal.returns-then-are_for_same-clause-said
returns-then-are_for_same-clause-said c = λ _ all.
    all c.loop-before.before-index _ c.loop-before-test.true (c.are_for_same.ensures.same c.if-are_for_same.true)

pub returns-clause-other : goal.returns-clause-other
returns-clause-other c = λ _.
    subst (λ (ws : List (Bor (List ℕ))). All (λ before. format_end before.now ≢ format_end c.args.word.now) ws)
    (take_all c.loop-before.before-index c.args.words.now (omega (arith, c.loop-before-test.false)))
    c.loop-before.invariant
