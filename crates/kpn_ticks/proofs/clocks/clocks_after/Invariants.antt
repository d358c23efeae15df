use Rattle.kpn_ticks.proofs.Common.{◌≡◌, take, shown, clocks_after}
use Rattle.kpn_ticks.proofs.clocks.clocks_after.Given as goal

abbrev pub invariant-loop-k : goal.invariant-loop-k
invariant-loop-k l = shown l.clocks ≡ clocks_after l.network l.has_capacities (take l.k l.events)
