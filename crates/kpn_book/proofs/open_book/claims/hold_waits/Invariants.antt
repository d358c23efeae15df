use Rattle.std.proofs.Common.{◌≡◌}
use Rattle.kpn_book.proofs.open_book.claims.hold_waits.Given as goal

abbrev pub invariant-processes : goal.invariant-processes
invariant-processes g l = l.batch ≡ l.fn.batch
