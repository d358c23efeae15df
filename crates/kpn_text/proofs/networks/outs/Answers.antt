-- There are some.
use Rattle.kpn_text.proofs.Common.{arith, common_steps, name_at}
use Rattle.kpn_text.proofs.PrintingLemmas.{same_prints, some_outs}
use Rattle.kpn_text.proofs.networks.outs.Goals as goal

pub returns : goal.returns
returns c =
    same_prints _ _ _ _ _ (some_outs (name_at c.args.names.now) c.args.numbers.now c.if-is_empty.ensures)
    (grind (arith, common_steps))
