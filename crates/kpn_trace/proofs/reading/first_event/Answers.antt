-- The first line spells no event.
use Rattle.kpn_trace.proofs.Traces.{no_event}
use Rattle.kpn_trace.proofs.reading.first_event.Goals as goal

pub returns-in_err-event : goal.returns-in_err-event
returns-in_err-event c =
    rw c.from_residual-in_err-event.ensures
    (λ event more fits e.
    no_event c.args.version c.args.bytes.now c.in_ok-line.line.now c.in_ok-line.rest.now event more
    c.in_ok-line.ensures.0
    c.in_ok-line.ensures.1 c.in_err-event.ensures fits e)
