use Rattle.kpn_machine.proofs.Common.{◌≡◌, ◌<◌, ℕ, false, get_or, is_marked}
use Rattle.kpn_machine.proofs.machine.marked_waits.has_mark.Given as goal

-- none of the channels so far is marked
abbrev pub invariant-channels : goal.invariant-channels
invariant-channels l = (j : ℕ) → j < l.k → is_marked l.marks (get_or l.channels j 0) ≡ false
