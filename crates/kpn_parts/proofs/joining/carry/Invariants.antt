use Rattle.kpn_parts.specs.Links.{CarryMore}
use Rattle.kpn_parts.proofs.joining.carry.Given as goal

abbrev pub invariant-loop-l : goal.invariant-loop-l
invariant-loop-l l = CarryMore l.links l.placed l.initial.carried.items l.carried.items l.l
