use Rattle.kpn_audit.proofs.Common.{◌≡◌, map, range_with_len, channel_in}
use Rattle.kpn_audit.proofs.summary.read_counts.Given as goal

abbrev pub invariant-loop-c : goal.invariant-loop-c
invariant-loop-c g l =
    l.reads.items ≡ map (λ c. (channel_in l.machine c).read) (range_with_len 0 l.c)
