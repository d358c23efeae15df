use Rattle.kpn_audit.proofs.Common.{◌≡◌, map, range_with_len, wait_in}
use Rattle.kpn_audit.proofs.summary.waits.Given as goal

abbrev pub invariant-loop-p : goal.invariant-loop-p
invariant-loop-p g l = l.waits.items ≡ map (wait_in l.machine) (range_with_len 0 l.p)
