-- By induction on the parts of the description.
use Rattle.kpn_text_grammar.proofs.CanonicalLaws.{canonical_description}
use Rattle.kpn_text_grammar.proofs.laws.canonical_spells.Goals as goal

pub returns : goal.returns
returns c = canonical_description
