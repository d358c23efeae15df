-- By whether it is below the one that holds without a line.
use Rattle.kpn_text.proofs.Common.{Some, sym, ap, arith, common_steps, limit_text}
use Rattle.kpn_text.proofs.PrintingLemmas.{limit_written, same_prints}
use Rattle.kpn_text.proofs.networks.limit.Goals as goal

pub returns : goal.returns
returns c =
    same_prints _ _ _ (limit_text (Some c.args.limit)) _
    (λ more. ap (λ l. limit_text l more) (sym (limit_written c.args.limit (omega arith))))
    (grind (arith, common_steps))
