-- It comes to the other's length from above or from below.
use Rattle.std.proofs.Common.{◌≤◌, ◌-◌, length}
use Rattle.kpn_step.proofs.lists.set_from.Given as goal

abbrev pub decreases-less : goal.decreases-less
decreases-less g l = length l.items.items

abbrev pub invariant-more : goal.invariant-more
invariant-more g l = length l.items.items ≤ l.len

abbrev pub decreases-more : goal.decreases-more
decreases-more g l = l.len - length l.items.items
