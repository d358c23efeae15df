-- A count of nothing for each list so far.
use Rattle.std.proofs.Common.{◌≡◌, replicate}
use Rattle.kpn_step.proofs.whole_lists.none_taken.Given as goal

abbrev pub invariant-loop : goal.invariant-loop
invariant-loop l = l.taken.items ≡ replicate l.index 0
