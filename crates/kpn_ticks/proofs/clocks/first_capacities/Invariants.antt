use Rattle.kpn_ticks.proofs.Common.{◌≡◌, map, range_with_len, channel_at, capacity}
use Rattle.kpn_ticks.proofs.clocks.first_capacities.Given as goal

abbrev pub invariant-loop-c : goal.invariant-loop-c
invariant-loop-c l = l.capacities.items ≡ map (λ c. capacity (channel_at l.network c)) (range_with_len 0 l.c)
