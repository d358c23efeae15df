use Rattle.kpn_parts.proofs.Homes.{AreFirst}
use Rattle.kpn_parts.proofs.cut.homes_of.Given as goal

abbrev pub invariant-loop-c : goal.invariant-loop-c
invariant-loop-c l = AreFirst l.whole l.parts l.homes.items l.c
