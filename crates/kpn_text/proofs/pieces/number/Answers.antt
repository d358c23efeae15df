-- A number is written as std writes it.
use Rattle.kpn_text.proofs.Common.{arith, common_steps}
use Rattle.kpn_text.proofs.PrintingLemmas.{number_text, value_text, same_prints}
use Rattle.kpn_text.proofs.pieces.number.Goals as goal

pub returns-clause-expression : goal.returns-clause-expression
returns-clause-expression c l tight =
    same_prints _ _ _ _ _ (number_text l tight c.args.number.now) (grind (arith, common_steps))

pub returns-clause-value : goal.returns-clause-value
returns-clause-value c = same_prints _ _ _ _ _ (value_text c.args.number.now) (grind (arith, common_steps))
