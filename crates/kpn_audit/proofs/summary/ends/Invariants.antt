use Rattle.kpn_audit.proofs.Common.{◌≡◌, map, range_with_len, end_in}
use Rattle.kpn_audit.proofs.summary.ends.Given as goal

abbrev pub invariant-loop-p : goal.invariant-loop-p
invariant-loop-p g l = l.ends.items ≡ map (end_in l.machine) (range_with_len 0 l.p)
