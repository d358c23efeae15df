-- What follows the first number is no number and capacity.
use Rattle.kpn_trace.proofs.Common.{◌++◌, ◌∷◌, decimal}
use Rattle.kpn_trace.proofs.Parting.{same_rest}
use Rattle.kpn_trace.proofs.parts.two_numbers_and_capacity.Goals as goal

pub returns-in_err-second : goal.returns-in_err-second
returns-in_err-second c =
    rw c.from_residual-in_err-second.ensures
    (λ l m n small low some few e.
    c.in_err-second.ensures m n low some few
    (same_rest c.args.parts.now c.in_ok-first.first l c.in_ok-first.rest.now (decimal m ++ 32 ∷ decimal n)
    c.in_ok-first.ensures.0 small c.in_ok-first.ensures.1 e))
