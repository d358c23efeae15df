-- By induction on the expression.
use Rattle.kpn_text.proofs.TermLemmas.{whole_read}
use Rattle.kpn_text.proofs.canonical_laws.term_is_read.Goals as goal

pub returns : goal.returns
returns c l e more tokens is ends h = (whole_read {l = l} e more tokens is ends (record { read = h })).read
