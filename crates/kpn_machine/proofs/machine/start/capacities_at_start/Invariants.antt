use Rattle.kpn_machine.proofs.Common.{◌≡◌, ℕ, ◌<◌, length, get_or, unwrap_or, channel_at, capacity}
use Rattle.kpn_machine.proofs.machine.start.capacities_at_start.Given as goal

abbrev pub invariant-loop-c : goal.invariant-loop-c
invariant-loop-c g l = record {
  len : length l.capacities.items ≡ l.c;
  each : (k : ℕ) → k < l.c → get_or l.capacities.items k 0 ≡ unwrap_or (capacity (channel_at l.network k)) 0;
}
