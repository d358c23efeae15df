use Rattle.kpn_cycle.proofs.Common.{◌<◌, length, IfSome, range_with_len, full_channels, FindsSmallest, cap_in}
use Rattle.kpn_cycle.proofs.walk.smallest_waited.Given as goal

abbrev pub invariant-loop-p : goal.invariant-loop-p
invariant-loop-p g l =
    record {
      met : FindsSmallest (cap_in l.caps) (full_channels l.waits (range_with_len 0 l.p)) l.smallest;
      channel : IfSome l.smallest (λ c. c < length l.caps);
    }
