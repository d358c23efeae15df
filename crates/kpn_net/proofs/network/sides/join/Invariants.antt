use Rattle.kpn_net.proofs.Common.{ℕ, List, ◌++◌, take, ends_among, Keeps}
use Rattle.kpn_net.specs.declared.tables.End.{End}
use Rattle.kpn_net.proofs.network.sides.join.Given as goal

abbrev pub invariant-loop-channel : goal.invariant-loop-channel
invariant-loop-channel l =
    (ends : ℕ → List End) → Keeps l.initial.sides ends
    → Keeps l.sides (λ c. ends c ++ ends_among c l.p (take l.channel-index l.ports))
