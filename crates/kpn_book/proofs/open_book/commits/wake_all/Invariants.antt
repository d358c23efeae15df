use Rattle.kpn_book.proofs.Common.{◌≡◌, take, all_made_ready}
use Rattle.kpn_book.proofs.open_book.commits.wake_all.Given as goal

abbrev pub invariant-processes : goal.invariant-processes
invariant-processes g l = l.schedule ≡ all_made_ready (take l.i l.woken) l.fn.schedule
