-- What follows the number is no capacity.
use Rattle.std.specs.Fmt.{decimal}
use Rattle.kpn_trace.proofs.Parting.{same_rest}
use Rattle.kpn_trace.proofs.parts.number_and_capacity.Goals as goal

pub returns-in_err-second : goal.returns-in_err-second
returns-in_err-second c =
    rw c.from_residual-in_err-second.ensures
    (λ m n small some few e.
    c.in_err-second.ensures n some few
    (same_rest c.args.parts.now c.in_ok-first.first m c.in_ok-first.rest.now (decimal n) c.in_ok-first.ensures.0 small
    c.in_ok-first.ensures.1 e))
