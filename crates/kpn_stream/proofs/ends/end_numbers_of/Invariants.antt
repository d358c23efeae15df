use Rattle.kpn_stream.proofs.Common.{◌≡◌, filter, range_with_len, channel_at, is_source, is_sink}
use Rattle.kpn_stream.proofs.ends.end_numbers_of.Given as goal

abbrev pub invariant-channels : goal.invariant-channels
invariant-channels l = record {
  sources : l.sources.items ≡ filter (λ c. is_source (channel_at l.network c)) (range_with_len 0 l.c);
  sinks : l.sinks.items ≡ filter (λ c. is_sink (channel_at l.network c)) (range_with_len 0 l.c);
}
