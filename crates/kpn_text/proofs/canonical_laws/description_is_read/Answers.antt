-- By how its processes and its network are read.
use Rattle.kpn_text.proofs.NetworkLemmas.{description_read}
use Rattle.kpn_text.proofs.canonical_laws.description_is_read.Goals as goal

pub returns : goal.returns
returns c l d is = (description_read l d is).read
