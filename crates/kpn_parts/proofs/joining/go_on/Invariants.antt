use Rattle.kpn_parts.proofs.Merging.{GoesOn}
use Rattle.kpn_parts.proofs.joining.go_on.Given as goal

abbrev pub invariant-loop-k : goal.invariant-loop-k
invariant-loop-k l = GoesOn l.history l.r l.links l.initial.order.items l.order.items l.carried.items l.k
