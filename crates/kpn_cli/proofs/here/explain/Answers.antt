-- With a trace the command explains the trace, and else the description.
use Rattle.kpn_cli.proofs.here.explain.Goals as goal

pub returns-in-Some : goal.returns-in-Some
returns-in-Some g c =
    rw c.in-Some.is (c.explain_trace_command.ensures.ok, c.explain_trace_command.ensures.refused)

pub returns-in-None : goal.returns-in-None
returns-in-None g c = rw c.in-None.is (c.explain_command.ensures.ok, c.explain_command.ensures.refused)
