-- What is copied, and what is left of both tables.
use Rattle.kpn_text_names.specs.NetworkNames.{process_names_in}
use Rattle.kpn_text.proofs.Tables.{Pairs}
use Rattle.kpn_text.proofs.names.of_processes.Given as goal

abbrev pub invariant-loop-number : goal.invariant-loop-number
invariant-loop-number l = Pairs process_names_in (λ p. p.scope) l.own l.names l.programs l.number
