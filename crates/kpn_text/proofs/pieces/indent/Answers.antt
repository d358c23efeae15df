-- The first of the levels to come was put.
use Rattle.kpn_text.proofs.PrintingLemmas.{indented_more}
use Rattle.kpn_text.proofs.pieces.indent.Goals as goal

pub loop-step-preserved : goal.loop-step-preserved
loop-step-preserved c = indented_more _ _ _ _ _ c.loop-step-test.true c.loop-step.invariant c.in_ok-bytes.ensures
