use Rattle.std.proofs.Common.{◌≡◌, [], replicate}
use Rattle.kpn_ticks.proofs.clocks.no_ticks.Given as goal

abbrev pub invariant-loop-c : goal.invariant-loop-c
invariant-loop-c l = l.ticks.items ≡ replicate l._c []
