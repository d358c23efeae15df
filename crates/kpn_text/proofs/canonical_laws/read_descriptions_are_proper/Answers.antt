-- Each token that was read can be spelled.
use Rattle.kpn_text.proofs.ProperLemmas.{description_is}
use Rattle.kpn_text.proofs.canonical_laws.read_descriptions_are_proper.Goals as goal

pub returns : goal.returns
returns c = description_is
