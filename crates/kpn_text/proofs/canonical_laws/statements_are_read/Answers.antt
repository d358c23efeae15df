-- By induction on the statements.
use Rattle.kpn_text.proofs.StatementLemmas.{statements_read}
use Rattle.kpn_text.proofs.canonical_laws.statements_are_read.Goals as goal

pub returns : goal.returns
returns c l level ss more tokens is h = (statements_read {l = l} level ss more tokens is (record { read = h })).read
