-- What follows the first number is no number and item.
use Rattle.kpn_trace.proofs.Common.{◌++◌, ◌∷◌, decimal, signed_decimal}
use Rattle.kpn_trace.proofs.Parting.{same_rest}
use Rattle.kpn_trace.proofs.parts.two_numbers_and_item.Goals as goal

pub returns-in_err-second : goal.returns-in_err-second
returns-in_err-second c =
    rw c.from_residual-in_err-second.ensures
    (λ m n item small few fits e.
    c.in_err-second.ensures n item few fits
    (same_rest c.args.parts.now c.in_ok-first.first m c.in_ok-first.rest.now (decimal n ++ 32 ∷ signed_decimal item)
    c.in_ok-first.ensures.0 small c.in_ok-first.ensures.1 e))
