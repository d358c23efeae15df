-- The walk is along the last moves, and no share is larger than their number.
use Rattle.kpn_ticks.proofs.Common.{◌≡◌, ◌-◌, ◌≤◌, ℕ, drop, length, get_or, walk_back, walked}
use Rattle.kpn_ticks.proofs.walk.Walker.walk_back.Given as goal

abbrev pub invariant-loop-i : goal.invariant-loop-i
invariant-loop-i l =
    (walked l.self ≡ walk_back l.network (walked l.initial.self) (drop (length l.moves - l.i) l.moves))
    × ((p : ℕ) → get_or l.self.shares.items p 0 ≤ l.i)
