-- The sinks so far.
use Rattle.kpn_command_stream.proofs.Common.{take, AllZip, IsSinkEnd}
use Rattle.kpn_command_stream.proofs.summary.sink_ends.Given as goal

abbrev pub invariant-loop-i : goal.invariant-loop-i
invariant-loop-i l = AllZip (IsSinkEnd l.book) (take l.i l.ends.sinks.items) l.sinks.items
