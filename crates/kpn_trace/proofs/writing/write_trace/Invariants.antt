-- The writer has taken the first line and the lines of the events before the place.
use Rattle.kpn_trace.proofs.Common.{take, Appends, Two, trace_text}
use Rattle.kpn_trace.proofs.writing.write_trace.Given as goal

abbrev pub invariant-loop-place : goal.invariant-loop-place
invariant-loop-place g l =
    Appends (g.W.Write.contents l.fn.writer) (g.W.Write.contents l.writer)
    (trace_text Two l.fn.policy l.fn.growth (take l.place l.history.events))
