use Rattle.kpn_command_views.proofs.Common.{◌≡◌, ◌+◌, ◌*◌, ◌≤◌, true, take, drop, start, clocks_after, shown, all_box_count}
use Rattle.kpn_command_views.proofs.picture.count_boxes.Given as goal

abbrev pub invariant-loop-k : goal.invariant-loop-k
invariant-loop-k l =
    (shown l.clocks ≡ clocks_after l.network true (take l.k l.events))
    × (l.count + all_box_count l.network l.scale (shown l.clocks) (drop l.k l.events)
    ≡ all_box_count l.network l.scale (start l.network true) l.events)
    × (l.count ≤ 2 * l.k)
