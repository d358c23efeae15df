-- One value more.
use Rattle.kpn_text.proofs.Common.{pos, literal_named, literal_text}
use Rattle.kpn_text.proofs.PrintingLemmas.{joined_more}
use Rattle.kpn_text.proofs.pieces.values.Goals as goal

pub loop-value-preserved : goal.loop-value-preserved
loop-value-preserved c =
    joined_more literal_named literal_text c.in-Some.others.now c.loop-value.value-index (pos 0)
    c.loop-value-test.true _ _ _ _ c.loop-value.invariant c.in_ok-bytes.ensures c.in_ok-number-2.ensures.value
