-- What follows the number is no ending.
use Rattle.kpn_trace.specs.EventLine.{how_word}
use Rattle.kpn_trace.proofs.Parting.{same_rest}
use Rattle.kpn_trace.proofs.parts.number_and_how.Goals as goal

pub returns-in_err-how : goal.returns-in_err-how
returns-in_err-how c =
    rw c.from_residual-in_err-how.ensures
    (λ n how small e.
    c.in_err-how.ensures how
    (same_rest c.args.parts.now c.in_ok-first.first n c.in_ok-first.rest.now (how_word how) c.in_ok-first.ensures.0
    small c.in_ok-first.ensures.1 e))
