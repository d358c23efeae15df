-- From its end to its front.
use Rattle.kpn_text.proofs.ProcessLemmas.{process_read}
use Rattle.kpn_text.proofs.canonical_laws.process_is_read.Goals as goal

pub returns : goal.returns
returns c l p more tokens is h = (process_read {l = l} p more tokens is (record { read = h })).read
