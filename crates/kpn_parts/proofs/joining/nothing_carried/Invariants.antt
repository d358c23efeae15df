use Rattle.kpn_parts.specs.Links.{CarryNothing}
use Rattle.kpn_parts.proofs.joining.nothing_carried.Given as goal

abbrev pub invariant-loop-l : goal.invariant-loop-l
invariant-loop-l l = CarryNothing l.carried.items l._l
