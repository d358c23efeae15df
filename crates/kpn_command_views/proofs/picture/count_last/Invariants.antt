use Rattle.kpn_command_views.proofs.Common.{◌≡◌, ◌≤◌, shown, last_counts}
use Rattle.kpn_command_views.proofs.picture.count_last.Given as goal

abbrev pub invariant-loop-p : goal.invariant-loop-p
invariant-loop-p l = (l.count ≡ last_counts l.scale l.p l.waits (shown l.ends)) × (l.count ≤ l.p)
