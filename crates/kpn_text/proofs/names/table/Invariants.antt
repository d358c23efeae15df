-- What is copied and what is left are the table.
use Rattle.std.proofs.Common.{◌≡◌, ◌++◌, drop}
use Rattle.kpn_text.proofs.names.table.Given as goal

abbrev pub invariant-loop-number : goal.invariant-loop-number
invariant-loop-number l = l.own ++ drop l.number l.names ≡ l.names
