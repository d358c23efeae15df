use Rattle.std.proofs.Common.{◌≡◌, ◌≤◌, max, drop, length}
use Rattle.kpn_ticks.specs.Held.{most_held}
use Rattle.kpn_ticks.proofs.held.most_held.Given as goal

abbrev pub invariant-loop-tick : goal.invariant-loop-tick
invariant-loop-tick l =
    (max l.most (most_held l.held (drop l.tick-index l.written) (drop l.place l.reads)) ≡ most_held 0 l.written l.reads)
    × (l.held ≤ l.tick-index) × (l.place ≤ length l.reads)
