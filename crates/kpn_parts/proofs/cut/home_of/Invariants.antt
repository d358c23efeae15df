use Rattle.kpn_parts.proofs.Homes.{NoneBefore}
use Rattle.kpn_parts.proofs.cut.home_of.Given as goal

abbrev pub invariant-loop-r : goal.invariant-loop-r
invariant-loop-r l = NoneBefore l.whole l.parts l.c l.r 0

abbrev pub invariant-loop-d : goal.invariant-loop-d
invariant-loop-d l = NoneBefore l.whole l.parts l.c l.r l.d
