-- What is copied, and what is left of both tables.
use Rattle.kpn_text.proofs.Common.{named_row, behind_arrays}
use Rattle.kpn_text.proofs.Tables.{Pairs}
use Rattle.kpn_text.proofs.names.tables.Given as goal

abbrev pub invariant-loop-number : goal.invariant-loop-number
invariant-loop-number l = Pairs named_row (behind_arrays l.scope) l.own l.scope.tables.rows.names l.rows l.number
