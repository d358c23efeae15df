use Rattle.kpn_pool_desk.proofs.Common.{◌≡◌, map, filter, range_with_len, channel_at, is_source, is_sink, EndSeat, new_end}
use Rattle.kpn_pool_desk.proofs.opening.end_seats.Given as goal

abbrev pub invariant-loop-c : goal.invariant-loop-c
invariant-loop-c g l =
    (l.sources.items
    ≡ filter (λ (s : EndSeat). is_source (channel_at l.network s.channel)) (map new_end (range_with_len 0 l.c)))
    × (l.sinks.items
    ≡ filter (λ (s : EndSeat). is_sink (channel_at l.network s.channel)) (map new_end (range_with_len 0 l.c)))
