-- One more output has another name.
use Rattle.kpn_command_base.proofs.Common.{All, Bor, List, ℕ, arith, subst, take_all, AreTwoOutputs}
use Rattle.kpn_command_base.proofs.Apart.{one_more}
use Rattle.kpn_command_base.proofs.outputs.is_any_output.Goals as goal

pub loop-other-preserved : goal.loop-other-preserved
loop-other-preserved g c =
    one_more (λ other. AreTwoOutputs other.now c.args.name.now) c.args.earlier.now
    c.loop-other.other-index _ c.loop-other-test.true c.loop-other.invariant
    (c.in_ok-meets.ensures.apart c.if-meets.false)

pub returns-clause-apart : goal.returns-clause-apart
returns-clause-apart g c = λ none.
    subst (λ (names : List (Bor (List ℕ))). All (λ other. AreTwoOutputs other.now c.args.name.now) names)
    (take_all c.loop-other.other-index c.args.earlier.now (omega (arith, c.loop-other-test.false)))
    c.loop-other.invariant
