use Rattle.kpn_parts.proofs.Common.{ℕ, ◌<◌, ◌≤◌, length, get_or, history_at}
use Rattle.kpn_parts.proofs.joining.left_in.Given as goal

abbrev pub invariant-loop-r : goal.invariant-loop-r
invariant-loop-r l = (j : ℕ) → j < l.r → length (history_at l.histories j) ≤ get_or l.at j 0
