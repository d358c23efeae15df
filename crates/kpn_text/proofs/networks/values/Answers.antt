-- There are some.
use Rattle.kpn_text.proofs.Common.{arith, common_steps}
use Rattle.kpn_text.proofs.PrintingLemmas.{same_prints, some_values}
use Rattle.kpn_text.proofs.networks.values.Goals as goal

pub returns : goal.returns
returns c =
    same_prints _ _ _ _ _ (some_values c.args.values.now c.if-is_empty.ensures) (grind (arith, common_steps))
