-- What follows the number is no item.
use Rattle.std.specs.Fmt.{signed_decimal}
use Rattle.kpn_trace.proofs.Parting.{same_rest}
use Rattle.kpn_trace.proofs.parts.number_and_item.Goals as goal

pub returns-in_err-item : goal.returns-in_err-item
returns-in_err-item c =
    rw c.from_residual-in_err-item.ensures
    (λ n item small fits e.
    c.in_err-item.ensures item fits
    (same_rest c.args.parts.now c.in_ok-first.first n c.in_ok-first.rest.now (signed_decimal item)
    c.in_ok-first.ensures.0 small c.in_ok-first.ensures.1 e))
