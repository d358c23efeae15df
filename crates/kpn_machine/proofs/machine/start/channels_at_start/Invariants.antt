use Rattle.kpn_machine.proofs.Common.{◌≡◌, ℕ, ◌<◌, length, get_or, None, false, channel_at, capacity, opened, opened_as, keeps_items}
use Rattle.kpn_machine.proofs.machine.start.channels_at_start.Given as goal

abbrev pub invariant-loop-c : goal.invariant-loop-c
invariant-loop-c g l = record {
  len : length l.channels.items ≡ l.c;
  each : (k : ℕ) → k < l.c
      → get_or l.channels.items k (opened None false)
      ≡ opened_as (keeps_items l.keeping l.network k) (capacity (channel_at l.network k))
      (get_or l.channels.items k (opened None false)).is_reserved;
}
