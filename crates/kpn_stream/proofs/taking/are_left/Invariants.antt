use Rattle.kpn_stream.proofs.Common.{◌≡◌, ℕ, ◌<◌, true, get_or, is_left}
use Rattle.kpn_stream.proofs.taking.are_left.Given as goal

abbrev pub invariant-sinks : goal.invariant-sinks
invariant-sinks l = (j : ℕ) → j < l.i → is_left l.book.history (get_or l.ends.sinks.items j 0) ≡ true
