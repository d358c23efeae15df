-- What is copied, and what is left of both tables.
use Rattle.kpn_text_names.specs.NetworkNames.{named_table}
use Rattle.kpn_text.proofs.Tables.{Pairs}
use Rattle.kpn_text.proofs.names.shared_tables.Given as goal

abbrev pub invariant-loop-number : goal.invariant-loop-number
invariant-loop-number l = Pairs named_table (λ vs. vs) l.own l.names l.lists l.number
