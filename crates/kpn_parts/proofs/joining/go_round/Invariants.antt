use Rattle.kpn_parts.proofs.Merging.{Round}
use Rattle.kpn_parts.proofs.joining.go_round.Given as goal

abbrev pub invariant-loop-r : goal.invariant-loop-r
invariant-loop-r l = Round l.histories l.links l.initial.order.items l.at.items l.order.items l.carried.items l.r
