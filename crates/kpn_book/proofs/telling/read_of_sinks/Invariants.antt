use Rattle.kpn_book.proofs.Common.{◌≡◌, map, filter, range_with_len, channel_at, is_sink, first_read}
use Rattle.kpn_book.proofs.telling.read_of_sinks.Given as goal

abbrev pub invariant-channels : goal.invariant-channels
invariant-channels l =
    l.taken.items ≡ map (first_read l.view) (filter (λ c. is_sink (channel_at l.network c)) (range_with_len 0 l.c))
