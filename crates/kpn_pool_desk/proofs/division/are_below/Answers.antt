use Rattle.kpn_pool_desk.proofs.Common.{◌<◌, arith, subst, All, take_all, All-more}
use Rattle.kpn_pool_desk.proofs.division.are_below.Goals as goal

pub numbers-init : goal.numbers-init
numbers-init c = λ k d less. absurd (omega (arith, less))

pub numbers-preserved : goal.numbers-preserved
numbers-preserved c =
    All-more (λ p. p < c.args.count) c.args.numbers.now c.numbers.k 0 c.numbers-test.true c.numbers.invariant
    c.if-numbers-k.false

pub returns : goal.returns
returns c is =
    subst (All (λ p. p < c.args.count)) (take_all c.numbers.k c.args.numbers.now c.numbers-test.false)
    c.numbers.invariant
