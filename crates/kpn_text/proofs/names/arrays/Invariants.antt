-- What is copied, and what is left of both tables.
use Rattle.kpn_text_names.specs.NetworkNames.{named_row}
use Rattle.kpn_text.proofs.Tables.{Pairs}
use Rattle.kpn_text.proofs.names.arrays.Given as goal

abbrev pub invariant-loop-number : goal.invariant-loop-number
invariant-loop-number l = Pairs named_row (λ r. r) l.own l.names l.rows l.number
