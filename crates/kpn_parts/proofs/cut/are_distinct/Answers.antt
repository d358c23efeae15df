use Rattle.std.proofs.Common.{arith}
use Rattle.kpn_parts.proofs.Cuts.{differ_next}
use Rattle.kpn_parts.proofs.cut.are_distinct.Goals as goal

pub loop-c-preserved : goal.loop-c-preserved
loop-c-preserved c =
    differ_next c.args.part.now c.loop-c.c c.loop-d.invariant.0
    (λ d below. c.loop-d.invariant.1 d (omega (arith, below, c.loop-d-test.false)))
