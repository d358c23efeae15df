use Rattle.kpn_parts.specs.Links.{SoFar}
use Rattle.kpn_parts.proofs.joining.go_rounds.Given as goal

abbrev pub invariant-loop-round : goal.invariant-loop-round
invariant-loop-round l = SoFar l.histories l.links l.at.items l.order.items l.carried.items
