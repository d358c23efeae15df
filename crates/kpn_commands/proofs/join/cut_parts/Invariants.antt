use Rattle.kpn_commands.proofs.Common.{take, HasTables}
use Rattle.kpn_commands.proofs.join.cut_parts.Given as goal

abbrev pub invariant-loop-r : goal.invariant-loop-r
invariant-loop-r l = HasTables l.parts.items (take l.r l.documents)
