-- By its first bytes.
use Rattle.kpn_text.proofs.NetworkLemmas.{description_told}
use Rattle.kpn_text.proofs.canonical_laws.language_is_told.Goals as goal

pub returns : goal.returns
returns c = description_told
