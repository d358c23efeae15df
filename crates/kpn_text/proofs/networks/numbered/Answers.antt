-- One name more.
use Rattle.kpn_text.proofs.Common.{name_at, name_text}
use Rattle.kpn_text.proofs.PrintingLemmas.{joined_more}
use Rattle.kpn_text.proofs.networks.numbered.Goals as goal

pub loop-number-preserved : goal.loop-number-preserved
loop-number-preserved c =
    joined_more (name_at c.args.names.now) name_text c.in-Some.others.now c.loop-number.number-index 0
    c.loop-number-test.true _ _ _ _ c.loop-number.invariant c.in_ok-bytes.ensures c.in_ok-name-2.ensures
