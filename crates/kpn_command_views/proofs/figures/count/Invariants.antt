use Rattle.std.proofs.Common.{take}
use Rattle.kpn_command_views.proofs.Counting.{CountedSoFar}
use Rattle.kpn_command_views.proofs.figures.count.Given as goal

abbrev pub invariant-loop-k : goal.invariant-loop-k
invariant-loop-k l = CountedSoFar l.network (take l.k l.events) l.channels.items l.processes.items
